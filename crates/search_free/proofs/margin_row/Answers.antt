-- `search_free::margin_row` meets its contract: it chooses by the margin.
-- Assumes nothing.
use Rattle.search_free.proofs.MarginLaws.{spacing_none}
use Rattle.search_free.proofs.margin_row.Goals as goal

pub returns-then-margin-eq0 : goal.returns-then-margin-eq0
returns-then-margin-eq0 c = spacing_none _ _ _ _ _ _ c.if-margin-eq0.true c.free_row.ensures
