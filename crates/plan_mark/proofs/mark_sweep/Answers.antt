-- `plan_mark::mark_sweep` meets its contract: the ticks that are marked are those that the sweep names.
-- Assumes nothing.
use Prim.Native.Nat.{ℕ}
use mathlib.Core.Path.{ap₂}
use mathlib.Core.Path.{◌∙◌}
use Rattle.meaning.specs.Site.{site_of}
use Rattle.meaning.specs.Board.{mark}
use Rattle.meaning.specs.Board.{run_to}
use Rattle.plan_steps.proofs.Laws.{known}
use native.Mathlib.Omega.{arith}
use Rattle.plan_mark.proofs.mark_sweep.Goals as goal

pub swept_ticks-ticks-requires : goal.swept_ticks-ticks-requires
swept_ticks-ticks-requires c = let k = known c.requires.0 in
    let s = c.requires.1 in
    (omega (arith, k.short, s.order, s.in_time), omega (arith, k.short, s.in_time))

pub mark_run-requires : goal.mark_run-requires
mark_run-requires c = let s = c.requires.1 in
    let k = known c.requires.0 in
    (k.cell_on _ s.known, omega (arith, k.horizon, s.in_time, c.swept_ticks-ticks.ensures.1))

pub returns : goal.returns
returns c =
    let p = c.requires in
    let ticks = c.swept_ticks-ticks.ensures in
    c.mark_run.ensures (site_of c.args.file.now.bytes.now) (known p.0).horizon
    ∙ ap₂ (λ (x y : ℕ). mark (site_of c.args.file.now.bytes.now) c.args.tug (run_to c.args.w.cell x y) c.args.board.now) ticks.0 ticks.1
