-- `draw_pictures::rolling` meets its contract.
-- Assumes nothing.
use mathlib.Core.Path.{ap₂}
use lib.Ieee.{Float}
use Rattle.draw_pictures.specs.declared.Place.{Place}
use Rattle.draw_pictures.specs.declared.Picture.TheVariants.{Rolling}
use Rattle.draw_pictures.proofs.rolling.Goals as goal

pub returns : goal.returns
returns c = ap₂ Rolling (ap₂ {C = Place} (λ (x y : Float). record { x = x; y = y }) c.between-x.ensures c.between-y.ensures) c.share.ensures
