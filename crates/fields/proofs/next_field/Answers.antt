-- `fields::next_field` meets its contract.
-- Assumes nothing.
use Rattle.fields.proofs.Laws.{whole_next}
use Rattle.fields.proofs.next_field.Goals as goal

pub returns : goal.returns
returns c = whole_next _ _ _ c.header_at.ensures.0 c.header_at.ensures.1
