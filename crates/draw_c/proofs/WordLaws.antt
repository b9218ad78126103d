-- What a caller reads back is what the call answers.
-- Assumes nothing.
use Prim.Native.Nat.{ℕ, zero, suc, ◌%◌, ◌≤◌}
use native.Mathlib.Omega.{arith}
use mathlib.Core.Path.{◌≡◌, refl, ap}
use mathlib.Core.List.{List}
use Rattle.std.specs.Prelude.{Ok, Err}
use Rattle.meaning.specs.Answers.{lowest, answer}
use Rattle.meaning.specs.Site.{site_of}
use Rattle.meaning.specs.Light.{light_of}
use Rattle.meaning.specs.Pictures.{picture_of, draw_refusals, draw_meant}
use Rattle.answers.specs.Answers.{number_in}
use Rattle.answers_c.specs.Words.{word_number}
use Rattle.draw_pictures.specs.declared.Picture.{Picture}
use Rattle.draw_pictures.specs.declared.Picture.TheVariants.{OffFloor, Standing, Rolling}
use Rattle.draw_pictures.specs.Floats.{shown}
use Rattle.draw.specs.Drawn.{drawn_of}
use Rattle.draw.proofs.AnswerLaws.{draw_known}
use Rattle.draw_c.specs.declared.DrawnWord.{DrawnWord}
use Rattle.draw_c.specs.Words.{picture_word, drawn_word, drawn_by, drawn_in}

-- whatever the word, its number is the one that is read
pub number_read : (r : DrawnWord) → number_in (drawn_in r) ≡ word_number r.word
number_read r = by (word_number r.word)
  where
    by : (n : ℕ) → number_in (drawn_by n r) ≡ n
    by zero = refl
    by (suc n) = refl

picture_back : (p : Picture) → drawn_in (picture_word p) ≡ Ok p
picture_back OffFloor = refl
picture_back (Standing p) = refl
picture_back (Rolling p s) = refl

refused_back : (n : ℕ) → suc n ≤ 20 → drawn_in (drawn_word (Err (suc n))) ≡ Err (suc n)
refused_back n most =
    let small : suc n % 256 ≡ suc n = omega arith in
    ap (λ (m : ℕ). drawn_by m (drawn_word (Err (suc n)))) small

pub drawn_back : (file light : List ℕ) (i k : ℕ) → drawn_in (drawn_word (drawn_of (draw_meant file light i k))) ≡ drawn_of (draw_meant file light i k)
unfolding draw_meant answer
drawn_back file light i k = by (lowest (draw_refusals file light k)) (draw_known file light k)
  where
    by : (n : ℕ) → n ≤ 20 → let a = answer (picture_of (site_of file) (light_of light) i k) n in drawn_in (drawn_word (drawn_of a)) ≡ drawn_of a
    by zero most = picture_back (shown (picture_of (site_of file) (light_of light) i k))
    by (suc n) most = refused_back n most
