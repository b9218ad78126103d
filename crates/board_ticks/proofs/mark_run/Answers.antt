-- `board_ticks::mark_run` meets its contract. The invariant: what marking the ticks from tick on leaves is what marking them all leaves.
-- Assumes nothing.
use Prim.Native.Nat.{ℕ, ◌+◌, ◌*◌}
use mathlib.Core.Path.{sym, ap, ◌∙◌}
use lib.ListN.{set}
use Rattle.meaning.specs.Limits.{header}
use Rattle.meaning.specs.Board.{mark, run_to}
use Rattle.board_ticks.proofs.TickLaws.{mark_next}
use native.Mathlib.Omega.{arith}
use Rattle.board_ticks.proofs.mark_run.Goals as goal

pub loop-tick-preserved : goal.loop-tick-preserved
loop-tick-preserved c = let t = c.loop-tick.tick in
    let board = c.loop-tick.board in
    λ site same.
    ap (λ (w : ℕ). mark site c.args.h (run_to c.args.cell (t + 1) c.args.last) (set board (header + c.args.cell * (w + 1) + t) c.args.h)) (sym same)
    ∙ sym (mark_next site c.args.h c.args.cell t c.args.last board (omega arith))
    ∙ c.loop-tick.invariant site same
