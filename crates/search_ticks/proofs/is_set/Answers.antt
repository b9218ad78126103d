-- `search_ticks::is_set` meets its contract: the digit that the shift leaves is the bit.
-- Assumes nothing.
use Rattle.search_ticks.proofs.SetLaws.{is_bit}
use Rattle.search_ticks.proofs.is_set.Goals as goal

pub returns : goal.returns
returns c = is_bit _ _ _
