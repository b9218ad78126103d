-- `search_runs::length_of` meets its contract: up to table 4 by its number, and from there on by a power of two.
-- Assumes nothing.
use Rattle.std.proofs.Common.{arith}
use Rattle.search_runs.proofs.LengthLaws.{length_small, length_power}
use Rattle.search_runs.proofs.length_of.Goals as goal

pub returns-then-t-lt4 : goal.returns-then-t-lt4
returns-then-t-lt4 c = (omega (arith, length_small c.args.t (omega arith)), (omega arith, omega arith))

pub returns-else-t-lt4 : goal.returns-else-t-lt4
returns-else-t-lt4 c = length_power c.args.t (omega arith) (omega arith)
