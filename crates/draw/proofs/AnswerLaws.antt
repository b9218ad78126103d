-- Laws of the answer of draw, by the lowest number that applies.
-- Assumes nothing.
use Prim.Native.Nat.{ℕ, zero, suc, ◌≤◌}
use native.Mathlib.Omega.{arith}
use mathlib.Core.Path.{◌≡◌, refl, sym, ap, ◌∙◌}
use mathlib.Core.List.{List}
use Rattle.std.specs.Prelude.{Result, Ok, Err, IsErr, IsErrAnd}
use Rattle.meaning.specs.Basics.{all}
use Rattle.meaning.specs.Answers.{lowest, accepted, answer}
use Rattle.meaning.specs.Site.{site_of, read_site, site_refusals}
use Rattle.meaning.specs.Light.{light_of}
use Rattle.meaning.specs.Pictures.{picture_of, picture_refusals, draw_refusals, draw_meant}
use Rattle.meaning.proofs.AnswersLaws.{lowest_most, lowest_front}
use Rattle.meaning.proofs.PictureLaws.{site_passed, draw_refused}
use Rattle.answers.specs.declared.Refusal.{Refusal}
use Rattle.answers.specs.Answers.{number, numbered}
use Rattle.answers.proofs.Laws.{number_least, HasRefusal}
use Rattle.draw_pictures.specs.declared.Picture.{Picture}
use Rattle.draw.specs.Drawn.{drawn_of}

module _ (file light : List ℕ) (k : ℕ) where
  -- the last number is 20
  pub draw_known : lowest (draw_refusals file light k) ≤ 20
  unfolding all draw_refusals site_refusals picture_refusals
  draw_known = lowest_most 20 (draw_refusals file light k) refl

  -- a refused site is refused with its own number
  pub site_first : (r : Refusal) → number r ≡ lowest (site_refusals file) → number r ≡ lowest (draw_refusals file light k)
  unfolding draw_refusals
  site_first r e = sym (lowest_front (site_refusals file) _ (number r) (sym e) (number_least r))

  -- no check of the site applied, and none of the picture
  pub all_passed : read_site file ≡ accepted (site_of file) → 0 ≡ lowest (picture_refusals (site_of file) light k) → lowest (draw_refusals file light k) ≡ 0
  all_passed read none = site_passed file light k read ∙ sym none

  module _ (i : ℕ) where
    -- the number that is meant is a refusal's
    pub drawn_known : HasRefusal (drawn_of (draw_meant file light i k))
    unfolding draw_meant answer
    drawn_known = by (lowest (draw_refusals file light k)) draw_known
      where
        by : (n : ℕ) → n ≤ 20 → HasRefusal (drawn_of (answer (picture_of (site_of file) (light_of light) i k) n))
        by zero most = tt
        by (suc n) most = (omega arith, most)

    -- a refusal that is passed on
    pub refused_drawn : (r : Refusal) → number r ≡ lowest (draw_refusals file light k)
        → (result : Result Picture Refusal) → IsErr result × IsErrAnd result (λ s. s ≡ r) → numbered result ≡ drawn_of (draw_meant file light i k)
    refused_drawn r first (Ok p) (err, told) = absurd told
    refused_drawn r first (Err s) (err, told) = ap (λ (q : Refusal). Err (number q)) told ∙ by_number (number r) (number_least r) (sym first)
      where
        by_number : (n : ℕ) → 1 ≤ n → lowest (draw_refusals file light k) ≡ n → Err n ≡ drawn_of (draw_meant file light i k)
        by_number zero least e = absurd (omega arith)
        by_number (suc n) least e = sym (ap drawn_of (draw_refused file light i k n e))
