-- `draw_pictures::standing` meets its contract.
-- Assumes nothing.
use mathlib.Core.Path.{ap₂, ◌∙◌}
use native.Mathlib.Omega.{arith}
use lib.Ieee.{Float}
use Rattle.draw_pictures.specs.declared.Picture.{Picture}
use Rattle.draw_pictures.specs.declared.Picture.TheVariants.{Standing}
use Rattle.draw_pictures.proofs.Theorems.{on_whole}
use Rattle.draw_pictures.proofs.standing.Goals as goal

pub returns : goal.returns
returns c = let a = c.args.c in
    ap₂ {C = Picture} (λ (x y : Float). Standing (record { x = x; y = y })) (c.from.ensures ∙ on_whole a.x (omega arith)) (c.from-2.ensures ∙ on_whole a.y (omega arith))
