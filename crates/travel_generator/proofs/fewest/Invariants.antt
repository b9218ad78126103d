-- `travel_generator::fewest` meets its contract: the number of ticks counts up to the entry.
-- Assumes nothing.
use Rattle.std.proofs.Common.{◌-◌, ◌≤◌}
use Rattle.travel_runs.specs.Entries.{fewest}
use Rattle.travel_generator.proofs.fewest.Given as goal

abbrev pub invariant-loop-n : goal.invariant-loop-n
invariant-loop-n l = l.n ≤ fewest l.d

abbrev pub decreases-loop-n : goal.decreases-loop-n
decreases-loop-n l = fewest l.d - l.n
