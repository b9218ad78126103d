-- How far runs get: at the highest speed all the way, and no farther.
-- Assumes nothing.
use Prim.Native.Nat.{ℕ, zero, suc, ◌+◌, ◌-◌, ◌≤◌}
use mathlib.Core.Path.{◌≡◌, refl, subst}
use native.Mathlib.Omega.{arith}
use Rattle.travel_runs.specs.Runs.{Run, distance}
use Rattle.travel_runs.specs.Entries.{top_speed, farthest}

-- ---- sums

sums : (u v : ℕ → ℕ) (n : ℕ) → ((t : ℕ) → t ≤ n → u t ≤ v t) → distance u n ≤ distance v n
sums u v zero below = below 0 (omega arith)
sums u v (suc n) below = omega (arith, sums u v n (λ t h. below t (omega arith)), below (suc n) (omega arith))

longer : (v : ℕ → ℕ) (n k : ℕ) → distance v n ≤ distance v (k + n)
longer v n zero = subst (λ (m : ℕ). distance v n ≤ distance v m) (let e : n ≡ 0 + n = omega arith in e) (omega arith)
longer v n (suc k) =
    subst (λ (m : ℕ). distance v n ≤ distance v m) (let e : suc (k + n) ≡ suc k + n = omega arith in e) (omega (arith, longer v n k))

-- ---- the highest speed is a run's

top_run : (n : ℕ) → Run n (top_speed n)
top_run n =
    record {
      from_rest = omega arith;
      to_rest = omega arith;
      gains = λ t h. omega arith;
      loses = λ t h. omega arith;
      limited = λ t h. omega arith;
    }

pub that_far : (n : ℕ) → (speed : ℕ → ℕ) × Run n speed × (distance speed n ≡ farthest n)
unfolding farthest
that_far n = (top_speed n, top_run n, refl)

-- ---- no run gets farther

module _ (n : ℕ) (v : ℕ → ℕ) (r : Run n v) where
  -- t ticks have gained at most t
  gained : (t : ℕ) → t ≤ n → v t ≤ t
  gained zero h = omega (arith, r.from_rest)
  gained (suc t) h = omega (arith, r.gains t (omega arith), gained t (omega arith))

  -- what is had k ticks before the end can be lost in them
  lost : (k t : ℕ) → t + k ≡ n → v t ≤ k
  lost zero t e = subst (λ (m : ℕ). v m ≤ 0) (let q : n ≡ t = omega arith in q) (omega (arith, r.to_rest))
  lost (suc k) t e = omega (arith, r.loses t (omega arith), lost k (suc t) (omega arith))

  below_top : (t : ℕ) → t ≤ n → v t ≤ top_speed n t
  below_top t h = omega (arith, r.limited t h, gained t h, lost (n - t) t (omega arith))

  pub no_farther : distance v n ≤ farthest n
  unfolding farthest
  no_farther = sums v (top_speed n) n below_top

-- ---- more ticks get as far

pub farther : (m n : ℕ) → m ≤ n → farthest m ≤ farthest n
unfolding farthest
farther m n h =
    let e : (n - m) + m ≡ n = omega arith in
    let same_ticks : distance (top_speed m) m ≤ distance (top_speed n) m = sums (top_speed m) (top_speed n) m (λ t k. omega arith) in
    let more_ticks : distance (top_speed n) m ≤ distance (top_speed n) n =
    subst (λ (k : ℕ). distance (top_speed n) m ≤ distance (top_speed n) k) e (longer (top_speed n) m (n - m)) in
    omega arith
