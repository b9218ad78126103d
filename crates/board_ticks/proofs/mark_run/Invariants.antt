-- `board_ticks::mark_run` meets its contract. The invariant: what marking the ticks from tick on leaves is what marking them all leaves.
-- Assumes nothing.
use mathlib.Core.Path.{◌≡◌}
use Rattle.meaning.specs.Site.{Site}
use Rattle.meaning.specs.Board.{mark, run_to}
use Rattle.board_ticks.proofs.mark_run.Given as goal

abbrev pub invariant-loop-tick : goal.invariant-loop-tick
invariant-loop-tick l =
    (site : Site) → site.horizon ≡ l.horizon → mark site l.h (run_to l.cell l.tick l.last) l.board ≡ mark site l.h (run_to l.cell l.first l.last) l.initial.board
