-- Pictures of 'Four in line' in 32-bit floats, bit by bit: 'Moving picture' of docs/FORMATS.md.
-- Assumes nothing.
use Rattle.std.specs.Prelude.{ℕ, ◌≡◌, Float}
use Rattle.std.specs.Float.{binary32}
use Rattle.std.specs.Float.Ieee.{of_bits}
use Rattle.meaning.specs.Pictures as Exact
use Rattle.draw_pictures.specs.declared.Picture.TheVariants.{OffFloor, Standing, Rolling}
use Rattle.draw_pictures.specs.Floats.{sixteenths, drawn, centre_of, shown}

-- the float with this bit pattern
abbrev pub bits : ℕ → Float
bits n = of_bits binary32 n

pub record FloatCases : Type 0 where
  -- 62.5, 1187.5, 93.75, 61439.0625, 4095.9375, and 65535
  pub a_next : sixteenths 1000 ≡ bits 1115291648
  pub a_slope_x : sixteenths 19000 ≡ bits 1150578688
  pub a_slope_y : sixteenths 1500 ≡ bits 1119584256
  pub far_1 : sixteenths 983025 ≡ bits 1198522128
  pub far_15 : sixteenths 65535 ≡ bits 1166016256
  pub farthest : sixteenths 1048560 ≡ bits 1199570688
  -- the same by the operations of the code, from 65535 to 0; at its end is 0, which is not negative
  pub drawn_1 : drawn 65535 0 1 ≡ bits 1198522128
  pub drawn_15 : drawn 65535 0 15 ≡ bits 1166016256
  pub drawn_16 : drawn 65535 0 16 ≡ bits 0
  -- the shares 0, 3/16 and 1
  pub share_0 : sixteenths 0 ≡ bits 0
  pub share_3 : sixteenths 3 ≡ bits 1044381696
  pub share_16 : sixteenths 16 ≡ bits 1065353216
  -- whole pictures: A's second motion at frame 3, a wait at (3000, 500), and nothing
  pub rolling : shown (Exact.rolling_at (record { x = 19000; y = 1500 }) 3) ≡ Rolling (record { x = bits 1150578688; y = bits 1119584256 }) (bits 1044381696)
  pub standing : shown (Exact.standing_at (record { x = 48000; y = 8000 })) ≡ Standing (record { x = bits 1161527296; y = bits 1140457472 })
  pub off : shown Exact.off_floor ≡ OffFloor
  -- a centre as the code reads it
  pub centre : centre_of (record { x = 2000; y = 500 }) ≡ record { x = 2000; y = 500 }
