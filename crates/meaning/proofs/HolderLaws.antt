-- The holders of 9 are the cases of a byte's sort, at each end.
-- Assumes nothing.
use Prim.Native.Nat.{ℕ, ◌≤◌, ◌<◌}
use native.Mathlib.Omega.{arith}
use mathlib.Core.Path.{◌≡◌, refl}
use mathlib.Core.Bool.{Bool, true, false, false≢true}
use lib.Dec.{leb, eqb}
use borrow.Author.Tests.{leb-true, leb-false, eqb-false, le-leb, lt-leb, ne_eqb}
use Rattle.meaning.specs.Limits.{last_tug, last_closure}
use Rattle.meaning.specs.Board.{Sort, nobody, tug, closure, unknown, sort_of, tug_sort, closure_sort, holder_sort, is_tug, is_closure, is_holder}
use Rattle.meaning.specs.Laws.{HoldersRight}
use Rattle.meaning.proofs.BasicsLaws.{decide}

-- ---- a byte's sort, by its range

pub sort_tug : (h : ℕ) → 1 ≤ h → h ≤ last_tug → sort_of h ≡ tug
unfolding sort_of
sort_tug h lo hi = simp (ne_eqb h 0 (omega arith), le-leb h last_tug hi)

pub sort_closure : (h : ℕ) → last_tug < h → h ≤ last_closure → sort_of h ≡ closure
unfolding sort_of
sort_closure h lo hi = simp (ne_eqb h 0 (omega arith), lt-leb h last_tug lo, le-leb h last_closure hi)

pub sort_unknown : (h : ℕ) → last_closure < h → sort_of h ≡ unknown
unfolding sort_of
sort_unknown h lo = simp (ne_eqb h 0 (omega arith), lt-leb h last_tug (omega arith), lt-leb h last_closure lo)

-- a number whose sort passes a test is in the range of a sort that passes it
by_sort : {X : Type 0} (test : Sort → Bool) (h : ℕ) → test (sort_of h) ≡ true → (test nobody ≡ true → X) → (test tug ≡ true → 1 ≤ h → h ≤ last_tug → X)
    → (test closure ≡ true → last_tug < h → h ≤ last_closure → X) → (test unknown ≡ true → X) → X
unfolding sort_of
by_sort test h e at_0 at_tug at_closure above =
    decide (eqb h 0)
    (λ z. at_0 (rw z at e))
    (λ z.
    let pos : h ≡ 0 → ⊥ = eqb-false h 0 z in
    let lo : 1 ≤ h = omega arith in
    decide (leb h last_tug)
    (λ q. let hi = leb-true h last_tug q in at_tug (rw (sort_tug h lo hi) at e) lo hi)
    (λ q.
    let over = leb-false h last_tug q in
    decide (leb h last_closure)
    (λ r. let hi = leb-true h last_closure r in at_closure (rw (sort_closure h over hi) at e) over hi)
    (λ r. above (rw (sort_unknown h (leb-false h last_closure r)) at e))))

no : {X : Type 0} → false ≡ true → X
no e = absurd (false≢true e)

-- ---- tugs, closures, holders

tugs : (h : ℕ) → is_tug h ≡ true → (1 ≤ h) × (h ≤ last_tug)
unfolding is_tug
tugs h e = by_sort tug_sort h e no (λ _ lo hi. (lo, hi)) (λ x _ _. no x) no

closures : (h : ℕ) → is_closure h ≡ true → (last_tug < h) × (h ≤ last_closure)
unfolding is_closure
closures h e = by_sort closure_sort h e no (λ x _ _. no x) (λ _ lo hi. (lo, hi)) no

holders : (h : ℕ) → is_holder h ≡ true → (1 ≤ h) × (h ≤ last_closure)
unfolding is_holder
holders h e = by_sort holder_sort h e no (λ _ lo hi. (lo, omega arith)) (λ _ lo hi. (omega arith, hi)) no

all_tugs : (h : ℕ) → 1 ≤ h → h ≤ last_tug → is_tug h ≡ true
unfolding is_tug
all_tugs h lo hi = rw (sort_tug h lo hi)

all_closures : (h : ℕ) → last_tug < h → h ≤ last_closure → is_closure h ≡ true
unfolding is_closure
all_closures h lo hi = rw (sort_closure h lo hi)

all_holders : (h : ℕ) → 1 ≤ h → h ≤ last_closure → is_holder h ≡ true
unfolding is_holder
all_holders h lo hi =
    decide (leb h last_tug)
    (λ e. rw (sort_tug h lo (leb-true h last_tug e)))
    (λ e. rw (sort_closure h (leb-false h last_tug e) hi))

not_255 : is_holder 255 ≡ false
unfolding is_holder sort_of
not_255 = refl

pub holders_right : HoldersRight
holders_right = record {
  tugs = tugs;
  all_tugs = all_tugs;
  closures = closures;
  all_closures = all_closures;
  holders = holders;
  all_holders = all_holders;
  not_255 = not_255;
}
