-- The theorems about places in 32-bit floats.
-- Assumes nothing.
use Prim.Native.Nat.{ℕ, ◌+◌, ◌-◌, ◌*◌, ◌≤◌, ◌<◌}
use mathlib.Core.Path.{◌≡◌, sym, ap, ◌∙◌, subst}
use mathlib.Core.Bool.{true, false}
use native.Mathlib.Nat.{mul-le-mul}
use native.Mathlib.Omega.{arith}
use lib.Dec.{T, leb, lit<}
use lib.Ieee.{Float, binary32, sub, fits}
use lib.Ieee.Exact.{HasValue}
use lib.Ieee.Fits.{add-fits, mul-fits, of_int-fits}
use borrow.Author.Tests.{leb-true, leb-false}
use Rattle.meaning.specs.Pictures.{between}
use Rattle.meaning.proofs.BasicsLaws.{decide}
use Rattle.meaning.proofs.PictureLaws.{ahead_is, back_is}
use Rattle.draw_pictures.specs.Floats.{float, sixteenths, drawn}
use Rattle.draw_pictures.specs.Laws.{FloatsRight}
use Rattle.draw_pictures.proofs.OneFloat.{one_float}
use Rattle.draw_pictures.proofs.Sixteenths.{rescale, whole16, value16, diff_up, diff_down, prod_up, prod_down, sum_up, sum_down}

whole : (n : ℕ) → n < 65536 → HasValue (float n) false n 1
whole n h = rescale (float n) false (n * 16) 16 n 1 (lit< tt) (omega arith) (whole16 n (omega arith))

value : (n : ℕ) → n ≤ 16 * 65535 → HasValue (sixteenths n) false n 16
value n h = value16 n (omega arith)

only : (n : ℕ) (x : Float) → n ≤ 16 * 65535 → T (fits binary32 x) → HasValue x false n 16 → x ≡ sixteenths n
only n x h f v = one_float binary32 x (sixteenths n) false n 16 (lit< tt) f (mul-fits binary32 _ _) v (value n h)

-- a whole number, in sixteenths
pub on_whole : (n : ℕ) → n < 65536 → float n ≡ sixteenths (16 * n)
on_whole n h =
    let e : n * 16 ≡ 16 * n = omega arith in
    only (16 * n) (float n) (omega arith) (of_int-fits binary32 _) (subst (λ (a : ℕ). HasValue (float n) false a 16) e (whole16 n (omega arith)))

module _ (x y k : ℕ) (hx : x < 65536) (hy : y < 65536) (hk : k ≤ 16) where
  -- it has the value, so it is the float
  drawn_is : (n : ℕ) → n ≤ 16 * 65535 → HasValue (drawn x y k) false n 16 → n ≡ between k x y → drawn x y k ≡ sixteenths (between k x y)
  drawn_is n h v e = only n (drawn x y k) h (add-fits binary32 _ _) v ∙ ap sixteenths e

  pub exact : drawn x y k ≡ sixteenths (between k x y)
  exact =
      decide (leb x y)
      (λ q.
      let h = leb-true x y q in
      let part : k * (y - x) ≤ 16 * (y - x) = mul-le-mul hk (omega arith) in
      drawn_is (16 * x + k * (y - x)) (omega arith) (sum_up x y hx hy k hk h) (sym (ahead_is k x y hk h)))
      (λ q.
      let h = leb-false x y q in
      drawn_is (16 * x - k * (x - y)) (omega arith) (sum_down x y hx hy k hk h) (omega (arith, back_is k x y hk (omega arith))))

first_frame : (x y : ℕ) → x < 65536 → y < 65536 → drawn x y 0 ≡ float x
first_frame x y hx hy = exact x y 0 hx hy (omega arith) ∙ ap sixteenths (omega arith) ∙ sym (on_whole x hx)

last_frame : (x y : ℕ) → x < 65536 → y < 65536 → drawn x y 16 ≡ float y
last_frame x y hx hy = exact x y 16 hx hy (omega arith) ∙ ap sixteenths (omega arith) ∙ sym (on_whole y hy)

pub floats_right : FloatsRight
floats_right =
    record {
      value = value;
      only = only;
      whole = whole;
      share = λ k h. value k (omega arith);
      ahead = λ x y hx hy h. rescale (sub binary32 (float y) (float x)) false ((y - x) * 16) 16 (y - x) 1 (lit< tt) (omega arith) (diff_up x y hx hy h);
      back = λ x y hx hy h. rescale (sub binary32 (float y) (float x)) true ((x - y) * 16) 16 (x - y) 1 (lit< tt) (omega arith) (diff_down x y hx hy h);
      part_ahead = λ x y k hx hy hk h. prod_up x y hx hy k hk h;
      part_back = λ x y k hx hy hk h. prod_down x y hx hy k hk h;
      sum_ahead = λ x y k hx hy hk h. sum_up x y hx hy k hk h;
      sum_back = λ x y k hx hy hk h. sum_down x y hx hy k hk h;
      exact = exact;
      first_frame = first_frame;
      last_frame = last_frame;
    }
