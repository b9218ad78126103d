-- `search_runs::longer_row` meets its contract: what is left of the loop gives the whole row.
-- Assumes nothing.
use Rattle.std.proofs.Common.{arith, rules}
use Rattle.search_runs.proofs.WordLaws.{long_turn, long_done}
use Rattle.search_runs.proofs.longer_row.Goals as goal

pub loop-i-preserved : goal.loop-i-preserved
loop-i-preserved c = long_turn _ _ _ _ _ _ _ _ (omega arith) (omega arith) (omega arith) c.window.ensures c.loop-i.invariant

pub returns : goal.returns
returns c = long_done _ _ _ _ _ _ (λ i. search rules) c.requires.1.1.1 c.requires.1.0 (omega arith) (omega arith) c.loop-i.invariant
