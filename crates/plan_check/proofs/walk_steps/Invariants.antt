-- `plan_check::walk_steps` meets its contract. The invariant: the steps from the place at on lead from here where all lead from the start.
-- Assumes nothing.
use Prim.Native.Nat.{◌-◌}
use lib.ListN.{length}
use Rattle.site.specs.Halls.{free_in}
use Rattle.plan_check.proofs.WalkLaws.{Walking}
use Rattle.plan_check.proofs.walk_steps.Given as goal

abbrev pub invariant-loop-n : goal.invariant-loop-n
invariant-loop-n l = Walking l.hall.file.bytes.now (free_in l.hall) l.light l.first l.initial.here l.at l.here

abbrev pub decreases-loop-n : goal.decreases-loop-n
decreases-loop-n l = length l.light - l.at
