-- `search_trace::trace_back` meets its contract: each turn is a clause of `trace`.
-- Assumes nothing.
use Prim.Native.Nat.{◌-◌}
use Rattle.light_write.specs.Codes.{steps_in}
use Rattle.search_trace.proofs.LoopLaws.{Going}
use Rattle.search_trace.proofs.trace_back.Given as goal

abbrev pub invariant-loop-t : goal.invariant-loop-t
invariant-loop-t l = Going l.scene l.reached l.tick l.goal l.arrival l.s l.t (steps_in l.path.codes l.path.count)

abbrev pub decreases-loop-t : goal.decreases-loop-t
decreases-loop-t l = l.t - l.tick
