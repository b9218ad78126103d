-- `plan_mark::mark_wait` meets its contract: the ticks that are marked are those of the wait.
-- Assumes nothing.
use mathlib.Core.Path.{◌∙◌}
use Rattle.meaning.specs.Site.{site_of}
use Rattle.meaning.specs.Board.{mark}
use Rattle.meaning.specs.Board.{run_to}
use Rattle.plan_steps.proofs.Laws.{known}
use native.Mathlib.Omega.{arith}
use Rattle.plan_mark.proofs.mark_wait.Goals as goal

pub after-last-requires : goal.after-last-requires
after-last-requires c = omega (arith, (known c.requires.0).short, c.requires.2)

pub mark_run-requires : goal.mark_run-requires
mark_run-requires c = let k = known c.requires.0 in
    let inside = k.cell _ c.requires.1.state in
    (k.cell_on _ (omega (arith, inside, c.state_cell-cell.ensures.0)), omega (arith, k.horizon, c.requires.2, c.number-2.ensures, c.after-last.ensures))

pub returns : goal.returns
returns c =
    let s = site_of c.args.file.now.bytes.now in
    c.mark_run.ensures s (known c.requires.0).horizon
    ∙ (λ i. mark s c.args.tug (run_to (c.state_cell-cell.ensures.0 i) (c.number.ensures i) ((c.number-2.ensures ∙ c.after-last.ensures) i)) c.args.board.now)
