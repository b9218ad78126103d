-- `search_ends::fill_ends` meets its contract. The loop's invariant: the ticks from t on have been looked at.
-- Assumes nothing.
use Rattle.search_ends.proofs.RunLaws.{looked_from, looked_short, looked_more, looked_all}
use native.Mathlib.Omega.{arith}
use Rattle.search_ends.proofs.fill_ends.Goals as goal

pub loop-t-init : goal.loop-t-init
loop-t-init c = looked_from _ _ _ _ _ c.told-ends (omega arith)

pub free_run-run-requires : goal.free_run-run-requires
free_run-run-requires c = (omega arith, omega (arith, looked_short _ _ _ _ _ _ _ c.loop-t.invariant, c.args.cell.now.on_board.short))

pub loop-t-preserved : goal.loop-t-preserved
loop-t-preserved c =
    looked_more _ _ _ _ _ _ _ _ (omega arith) (omega (arith, c.args.cell.now.on_board.short)) c.free_run-run.ensures.counted c.loop-t.invariant

pub returns : goal.returns
returns c = looked_all _ _ _ _ _ _ _ (omega arith) c.loop-t.invariant
