-- `plan_ticks::ticks_of` meets its contract.
-- Assumes nothing.
use native.Mathlib.Omega.{arith}
use Rattle.plan_ticks.proofs.ReadyLaws.{ready_cell, ready_frees, ready_closes}
use Rattle.plan_ticks.proofs.ticks_of.Goals as goal

pub invariant_of-result : goal.invariant_of-result
invariant_of-result c = record { on_board = ready_cell c.args.hall.now.ready _ (omega arith) }

pub returns-clause-frees : goal.returns-clause-frees
returns-clause-frees c = ready_frees c.args.hall.now.ready c.args.cell c.requires _

pub returns-clause-closes : goal.returns-clause-closes
returns-clause-closes c = ready_closes c.args.hall.now.ready c.args.cell c.requires _
