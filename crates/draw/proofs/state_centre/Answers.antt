-- `draw::state_centre` meets its contract.
-- Assumes nothing.
use Prim.Native.Nat.{ℕ, ◌<◌}
use mathlib.Core.Path.{sym, subst}
use Rattle.draw.proofs.Laws.{drawn_centres, drawn_cell}
use Rattle.draw.proofs.state_centre.Goals as goal

pub read_centre-requires : goal.read_centre-requires
read_centre-requires c = let d = c.args.drawing.now in
    (drawn_centres d.drawable, subst (λ (n : ℕ). n < d.sizes.centres) (sym c.state_cell-cell.ensures.0) (drawn_cell d.drawable _ c.requires))
