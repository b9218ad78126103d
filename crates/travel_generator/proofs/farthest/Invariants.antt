-- `travel_generator::farthest` meets its contract: the speeds up to the tick are added up.
-- Assumes nothing.
use Rattle.std.proofs.Common.{◌≡◌, ◌*◌, ◌≤◌}
use Rattle.travel_runs.specs.Runs.{distance}
use Rattle.travel_runs.specs.Entries.{top_speed}
use Rattle.travel_generator.proofs.farthest.Given as goal

abbrev pub invariant-loop-t : goal.invariant-loop-t
invariant-loop-t l = record { added : l.sum ≡ distance (top_speed l.n) l.t; small : l.sum ≤ 15 * l.t }
