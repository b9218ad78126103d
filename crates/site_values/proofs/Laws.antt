-- Laws of the tests of states and motions.
-- Assumes nothing.
use Prim.Native.Nat.{ℕ, zero, suc, ◌+◌, ◌≤◌, ◌<◌}
use mathlib.Core.Path.{◌≡◌, refl, sym}
use mathlib.Core.List.{List, [], ◌∷◌}
use mathlib.Core.Bool.{Bool, true, false, ◌&&◌, not}
use native.Mathlib.Omega.{arith}
use native.Mathlib.Numerals.{add-one}
use lib.ListN.{length, get_or, drop}
use lib.Seq.{drop-cons}
use lib.Dec.{leb, ltb, eqb}
use borrow.Author.Tests.{ltb-true}
use Rattle.std.specs.List.{list_all, range_with_len}
use Rattle.meaning.specs.Basics.{all}
use Rattle.meaning.specs.Site.{Motion, Site, cell_of, ends_good, sweeps_good, motion_good}
use Rattle.meaning.proofs.MotionLaws.{and_four}
use Rattle.site_sweeps.specs.Places.{sweeps_at}
use Rattle.site_read.specs.declared.Motion as ReadMotion
use Rattle.site_read.specs.Motions.{MotionIs}

-- ---- a test of what a list has from a number on

module _ {A : Type 0} (p : A → Bool) (d : A) where
  pub rest_none : (xs : List A) (i : ℕ) → length xs ≤ i → all p (drop i xs) ≡ true
  unfolding all
  rest_none [] zero h = refl
  rest_none [] (suc i) h = refl
  rest_none (x ∷ xs) zero h = absurd (omega arith)
  rest_none (x ∷ xs) (suc i) h = rest_none xs i (omega arith)

  pub rest_hit : (xs : List A) (i : ℕ) → i < length xs → p (get_or xs i d) ≡ true → all p (drop i xs) ≡ all p (drop (i + 1) xs)
  unfolding all
  rest_hit xs i h e = rw (drop-cons xs i d h, e, add-one i)

  pub rest_miss : (xs : List A) (i : ℕ) → i < length xs → p (get_or xs i d) ≡ false → all p (drop i xs) ≡ false
  unfolding all
  rest_miss xs i h e = rw (drop-cons xs i d h, e)

  -- a test of every number, of what stands at it
  pub range_rest : (xs : List A) (i n : ℕ) → i + n ≡ length xs → list_all (λ (k : ℕ). p (get_or xs k d)) (range_with_len i n) ≡ all p (drop i xs)
  unfolding all
  range_rest xs i zero h = sym (rest_none xs i (omega arith))
  range_rest xs i (suc n) h = rw (drop-cons xs i d (omega arith), range_rest xs (i + 1) n (omega arith), add-one i)

-- ---- a motion

-- the motion's test, by what was read of it
pub motion_test : (file : List ℕ) (site : Site) (m : Motion) (r : ReadMotion.Motion) (cells count : ℕ) → MotionIs file m r → cells ≡ site.cells → count ≡ length site.states →
    motion_good site m ≡ (ends_good count r.from r.to r.span
    && sweeps_good cells (cell_of site r.from) (cell_of site r.to) r.span (sweeps_at file r.first r.count))
unfolding motion_good
motion_test file site m r cells count s p q = rw (← s.from, ← s.to, ← s.span, ← s.sweeps, ← p, ← q)

pub ends_below : (n a b d : ℕ) → ends_good n a b d ≡ true → (a < n) × (b < n)
unfolding ends_good
ends_below n a b d e = let (x, y, _, _) = and_four (ltb a n) (ltb b n) (not (eqb a b)) (leb 1 d) e in (ltb-true a n x, ltb-true b n y)
