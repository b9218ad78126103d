-- `search_free::held_before` meets its contract: nothing before tick 0, and else the word of the 64 ticks before.
-- Assumes nothing.
use Rattle.search_free.proofs.MarginLaws.{before_none, before_some}
use Rattle.search_free.proofs.held_before.Goals as goal

pub returns-then-block-eq0 : goal.returns-then-block-eq0
returns-then-block-eq0 c = before_none _ _ c.if-block-eq0.true

pub returns : goal.returns
returns c = before_some _ _ _ c.if-block-eq0.false c.held_word.ensures
