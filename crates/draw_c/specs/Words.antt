-- What the draw call for C returns, and how its caller reads the answer back (include/dispatch.h says the same).
-- Assumes nothing.
use Rattle.std.specs.Prelude.{ℕ, zero, suc, Float, Result, Ok, Err}
use Rattle.std.specs.Float.{binary32}
use Rattle.std.specs.Float.Ieee.{of_bits}
use Rattle.draw_pictures.specs.declared.Picture.{Picture}
use Rattle.draw_pictures.specs.declared.Picture.TheVariants.{OffFloor, Standing, Rolling}
use Rattle.answers_c.specs.Words.{word_number, word_count}
use Rattle.draw_c.specs.declared.DrawnWord.{DrawnWord}

-- 0.0, where there is no number
abbrev pub none : Float
none = of_bits binary32 0

-- ---- the word: the number, and beside 0 the kind of picture times 2 ^ 8

abbrev pub picture_word : Picture → DrawnWord
picture_word OffFloor = record { word = 0; x = none; y = none; share = none }
picture_word (Standing p) = record { word = 256; x = p.x; y = p.y; share = none }
picture_word (Rolling p s) = record { word = 512; x = p.x; y = p.y; share = s }

abbrev pub drawn_word : Result Picture ℕ → DrawnWord
drawn_word (Ok p) = picture_word p
drawn_word (Err n) = record { word = n; x = none; y = none; share = none }

-- ---- read back

-- kind 0 is off the floor, 1 standing, 2 rolling
abbrev pub picture_by : ℕ → DrawnWord → Picture
picture_by zero r = OffFloor
picture_by (suc zero) r = Standing (record { x = r.x; y = r.y })
picture_by (suc (suc n)) r = Rolling (record { x = r.x; y = r.y }) r.share

-- a number is read as it stands in the word, also one that no call answers, so that no two are read alike
abbrev pub drawn_by : ℕ → DrawnWord → Result Picture ℕ
drawn_by zero r = Ok (picture_by (word_count r.word) r)
drawn_by (suc n) r = Err (suc n)

abbrev pub drawn_in : DrawnWord → Result Picture ℕ
drawn_in r = drawn_by (word_number r.word) r
