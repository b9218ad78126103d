-- `plan_steps::sweep_free` meets its contract: the ticks that are looked at are those that the sweep names.
-- Assumes nothing.
use mathlib.Core.Path.{◌∙◌}
use Rattle.board_ticks.specs.Ticks.{from_to}
use Rattle.plan_steps.proofs.Laws.{known}
use native.Mathlib.Omega.{arith}
use Rattle.plan_steps.proofs.sweep_free.Goals as goal

pub swept_ticks-ticks-requires : goal.swept_ticks-ticks-requires
swept_ticks-ticks-requires c =
    let k = known c.args.hall.now.ready in
    (omega (arith, k.short, c.requires.order, c.requires.in_time), omega (arith, k.short, c.requires.in_time))

pub returns : goal.returns
returns c =
    let ticks = c.swept_ticks-ticks.ensures in
    c.run_free.ensures.value ∙ (λ i. from_to (c.ticks_of.ensures.frees i) (ticks.0 i) (ticks.1 i))
