-- `day::run_turns` meets its contract: a light is no longer than its area.
-- Assumes nothing.
use Rattle.std.proofs.Common.{◌≤◌}
use Rattle.meaning.specs.Limits.{day_area}
use Rattle.day.proofs.run_turns.Given as goal

abbrev pub invariant-loop-turn : goal.invariant-loop-turn
invariant-loop-turn g l = l.light ≤ day_area
