-- `search_runs::shift_row` meets its contract: what is left of the loop gives the whole row.
-- Assumes nothing.
use Rattle.std.proofs.Common.{arith}
use Rattle.search_runs.proofs.WordLaws.{shift_turn, shift_done}
use Rattle.search_runs.proofs.shift_row.Goals as goal

pub loop-i-preserved : goal.loop-i-preserved
loop-i-preserved c = shift_turn _ _ _ _ (omega arith) c.loop-i.invariant

pub returns : goal.returns
returns c = shift_done _ _ _ _ c.requires (omega arith) (omega arith) c.loop-i.invariant
