-- Pictures in 32-bit floats: a number of sixteenths as a float, and with it each picture that is counted in sixteenths.
-- Assumes nothing.
use Rattle.std.specs.Prelude.{ℕ, pos, Float}
use Rattle.std.specs.Float.{binary32}
use Rattle.std.specs.Float.Ieee.{add, sub, mul, of_int, of_bits}
use Rattle.meaning.specs.Site as Site
use Rattle.meaning.specs.Pictures as Exact
use Rattle.site_read.specs.declared.Centre.{Centre}
use Rattle.draw_pictures.specs.declared.Place.{Place}
use Rattle.draw_pictures.specs.declared.Picture.{Picture}
use Rattle.draw_pictures.specs.declared.Picture.TheVariants.{OffFloor, Standing, Rolling}

-- ---- numbers

-- a whole number
abbrev pub float : ℕ → Float
float n = of_int binary32 (pos n)

-- 0.0625
abbrev pub sixteenth : Float
sixteenth = of_bits binary32 1031798784

-- n / 16
abbrev pub sixteenths : ℕ → Float
sixteenths n = mul binary32 (float n) sixteenth

-- the coordinate at frame k of a motion from x to y, by the operations of the code
abbrev pub drawn : ℕ → ℕ → ℕ → Float
drawn x y k = add binary32 (float x) (mul binary32 (sixteenths k) (sub binary32 (float y) (float x)))

-- ---- pictures

abbrev pub centre_of : Centre → Site.Centre
centre_of c = record { x = c.x; y = c.y }

abbrev pub float_place : Exact.Place → Place
float_place p = record { x = sixteenths p.x; y = sixteenths p.y }

-- a picture, with its place and its share in floats
abbrev pub shown : Exact.Picture → Picture
shown Exact.off_floor = OffFloor
shown (Exact.standing_at p) = Standing (float_place p)
shown (Exact.rolling_at p k) = Rolling (float_place p) (sixteenths k)
