-- `plan_check::free_at` meets its contract.
-- Assumes nothing.
use native.Mathlib.Omega.{arith}
use Rattle.plan_steps.proofs.Laws.{known}
use Rattle.plan_check.proofs.free_at.Goals as goal

pub ticks_of-requires : goal.ticks_of-requires
ticks_of-requires c = let inside = (known c.args.hall.now.ready).cell _ c.requires.state in omega (arith, inside, c.state_cell-cell.ensures.0)
