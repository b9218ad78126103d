-- The least number of ticks that gets far enough is the fewest, and there is one such number.
-- Assumes nothing.
use Prim.Native.Nat.{ℕ, zero, suc, ◌+◌, ◌≤◌, ◌<◌}
use mathlib.Core.Path.{◌≡◌, ap, sym, subst}
use lib.Dec.{ltb}
use native.Mathlib.Omega.{arith}
use borrow.Author.Tests.{leb-true, leb-false, ltb-true, ltb-false, le-leb}
use Rattle.meaning.proofs.BasicsLaws.{decide, least_found, least_holds, least_below}
use Rattle.travel_runs.specs.Runs.{Run, distance, Fewest}
use Rattle.travel_runs.specs.Entries.{top_speed, farthest, covered, number_found, fewest}
use Rattle.travel_runs.proofs.RunLaws.{that_far, no_farther, farther}

pub is_fewest_lem : (d n : ℕ) → d ≤ farthest n → ((m : ℕ) → m < n → farthest m < d) → Fewest d n
is_fewest_lem d n far short =
    record {
      covers = let (speed, run, same) = that_far n in (speed, run, omega arith);
      none_sooner = λ m speed h run. omega (arith, no_farther m speed run, short m (omega arith));
    }

-- ---- one number

-- the fewest are no more than the ticks of any run that covers d
no_more : (d n : ℕ) → Fewest d n → (m : ℕ) (speed : ℕ → ℕ) → Run m speed → d ≤ distance speed m → n ≤ m
no_more d n few m speed run far =
    decide (ltb m n) (λ h. absurd (omega (arith, few.none_sooner m speed (ltb-true m n h) run))) (λ h. ltb-false m n h)

one : (d m n : ℕ) → Fewest d m → Fewest d n → m ≡ n
one d m n a b =
    let (u, run_a, far_a) = a.covers in
    let (v, run_b, far_b) = b.covers in
    omega (arith, no_more d m a n v run_b far_b, no_more d n b m u run_a far_a)

-- ---- entry d

-- on its way a run can have speed 1 at each tick, so d + 1 ticks cover d
slow : (n t : ℕ) → t < n → t ≤ distance (top_speed n) t
slow n zero h = omega arith
slow n (suc t) h = omega (arith, slow n t (omega arith))

enough : (d : ℕ) → d ≤ farthest (suc d)
unfolding farthest
enough d = omega (arith, slow (suc d) d (omega arith))

pub right : (d : ℕ) → Fewest d (fewest d)
unfolding fewest
right d =
    let (n, found) = least_found (covered d) 0 (d + 2) (suc d) (le-leb d (farthest (suc d)) (enough d)) (omega arith) (omega arith) in
    let far : d ≤ farthest n = leb-true d (farthest n) (least_holds (covered d) 0 (d + 2) n found) in
    let short : (m : ℕ) → m < n → farthest m < d = λ m h. leb-false d (farthest m) (least_below (covered d) 0 (d + 2) n found m (omega arith) h) in
    subst (λ (k : ℕ). Fewest d k) (sym (ap number_found found)) (is_fewest_lem d n far short)

pub no_other : (d n : ℕ) → Fewest d n → n ≡ fewest d
no_other d n a = one d n (fewest d) a (right d)

-- ---- counting up to entry d

-- n ticks that get that far are enough
pub at_most : (d n : ℕ) → d ≤ farthest n → fewest d ≤ n
at_most d n far =
    let (speed, run, same) = that_far n in
    no_more d (fewest d) (right d) n speed run (omega arith)

-- a run that does not cover d has fewer ticks than entry d
pub not_yet : (d n : ℕ) → farthest n < d → n < fewest d
not_yet d n short =
    let (speed, run, far) = (right d).covers in
    decide (ltb n (fewest d)) (λ h. ltb-true n (fewest d) h)
    (λ h. absurd (omega (arith, farther (fewest d) n (ltb-false n (fewest d) h), no_farther (fewest d) speed run)))

-- none passes d + 1
pub bounded : (d : ℕ) → fewest d ≤ suc d
bounded d = at_most d (suc d) (enough d)
