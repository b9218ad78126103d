-- `plan_mark::mark_steps` meets its contract. The invariant: marking the steps from the place at on leaves the board as marking all does.
-- Assumes nothing.
use Prim.Native.Nat.{◌-◌}
use lib.ListN.{length}
use Rattle.plan_mark.proofs.MarkLaws.{Marking}
use Rattle.plan_mark.proofs.mark_steps.Given as goal

abbrev pub invariant-loop-n : goal.invariant-loop-n
invariant-loop-n l = Marking l.motions.file.bytes.now l.tug l.light l.first l.initial.here l.initial.board l.at l.here l.board

abbrev pub decreases-loop-n : goal.decreases-loop-n
decreases-loop-n l = length l.light - l.at
