-- `plan_check::motions_named` meets its contract. The invariant: the steps from the place at on answer as all do.
-- Assumes nothing.
use Prim.Native.Nat.{◌-◌}
use mathlib.Core.Path.{◌≡◌}
use mathlib.Core.Bool.{true}
use lib.ListN.{length}
use Rattle.meaning.specs.Basics.{all}
use Rattle.meaning.specs.Site.{Site}
use Rattle.meaning.specs.Calls.{step_named}
use Rattle.light_steps.specs.Steps.{laid_from, steps_from}
use Rattle.plan_check.proofs.motions_named.Given as goal

abbrev pub invariant-loop-next : goal.invariant-loop-next
invariant-loop-next l = (laid_from true l.light l.at ≡ true) × ((s : Site) → length s.motions ≡ l.motions → all (step_named s) (steps_from l.light l.at) ≡ all (step_named s) (steps_from l.light l.first))

abbrev pub decreases-loop-next : goal.decreases-loop-next
decreases-loop-next l = length l.light - l.at
