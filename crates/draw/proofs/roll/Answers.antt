-- `draw::roll` meets its contract.
-- Assumes nothing.
use Prim.Native.Nat.{ℕ, ◌<◌}
use mathlib.Core.Path.{sym, subst}
use lib.ListN.{length}
use Rattle.draw.specs.Drawings.{site_drawn}
use Rattle.draw.proofs.Laws.{drawn_start, drawn_from, drawn_to}
use Rattle.draw.proofs.roll.Goals as goal

pub find_motion-motion-requires : goal.find_motion-motion-requires
find_motion-motion-requires c = (drawn_start c.args.drawing.now.drawable, c.requires.0)

pub state_centre-old-requires : goal.state_centre-old-requires
state_centre-old-requires c = let d = c.args.drawing.now in
    subst (λ (n : ℕ). n < length (site_drawn d).states) (sym c.find_motion-motion.ensures.from) (drawn_from d.drawable _ c.requires.0)

pub state_centre-new-requires : goal.state_centre-new-requires
state_centre-new-requires c = let d = c.args.drawing.now in
    subst (λ (n : ℕ). n < length (site_drawn d).states) (sym c.find_motion-motion.ensures.to) (drawn_to d.drawable _ c.requires.0)
