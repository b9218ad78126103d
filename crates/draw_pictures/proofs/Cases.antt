-- The cases of pictures in floats, by computation.
-- Assumes nothing.
use mathlib.Core.Path.{refl}
use lib.Ieee.{sub, mul, of_int, of_bits}
use Rattle.draw_pictures.specs.Cases.{FloatCases}

pub float_cases : FloatCases
unfolding sub mul of_int of_bits
float_cases = record {
  a_next = refl;
  a_slope_x = refl;
  a_slope_y = refl;
  far_1 = refl;
  far_15 = refl;
  farthest = refl;
  drawn_1 = refl;
  drawn_15 = refl;
  drawn_16 = refl;
  share_0 = refl;
  share_3 = refl;
  share_16 = refl;
  rolling = refl;
  standing = refl;
  off = refl;
  centre = refl;
}
