-- Runs of a set by the position at which they end: two runs that adjoin or overlap are one longer run.
-- Assumes nothing.
use Prim.Native.Nat.{ℕ, zero, suc, ◌+◌, ◌-◌, ◌≤◌, ◌<◌}
use native.Mathlib.Omega.{arith}
use mathlib.Core.Path.{◌≡◌, refl, ap, ap₂, ◌∙◌}
use mathlib.Core.Bool.{Bool, true, ◌&&◌, and-true}
use lib.Dec.{ltb, eqb}
use borrow.Author.Tests.{ltb-true, ltb-false, eqb-true, eqb-false}
use Rattle.meaning.proofs.BasicsLaws.{decide, and_left, and_right, same_test}
use Rattle.search_runs.specs.Runs.{ended}

module _ (g : ℕ → Bool) where
  -- each position of a run is in the set
  pub ended_at : (n u j : ℕ) → ended g n u ≡ true → j < n → g (u - j) ≡ true
  unfolding ended
  ended_at zero u j e h = absurd (omega arith)
  ended_at (suc n) u j e h =
      decide (eqb j n)
      (λ s. ap (λ (k : ℕ). g (u - k)) (eqb-true j n s) ∙ and_left (g (u - n)) (ended g n u) e)
      (λ s. ended_at n u j (and_right (g (u - n)) (ended g n u) e) (omega (arith, eqb-false j n s)))

  pub ended_made : (n u : ℕ) → ((j : ℕ) → j < n → g (u - j) ≡ true) → ended g n u ≡ true
  unfolding ended
  ended_made zero u f = refl
  ended_made (suc n) u f = ap₂ (λ (x y : Bool). x && y) (f n (omega arith)) (ended_made n u (λ j h. f j (omega arith)))

  -- a run of one position
  pub ended_one : (u : ℕ) → ended g 1 u ≡ g u
  unfolding ended
  ended_one u = let same : u - 0 ≡ u = omega arith in and-true (g (u - 0)) ∙ ap g same

  -- a run and the same one b positions earlier, with no gap between them
  pub ended_both : (a b u : ℕ) → b ≤ a → (ended g a u && ended g a (u - b)) ≡ ended g (a + b) u
  ended_both a b u few =
      same_test _ _
      (λ h.
      ended_made (a + b) u
      (λ j lt.
      decide (ltb j a)
      (λ e. ended_at a u j (and_left (ended g a u) (ended g a (u - b)) h) (ltb-true j a e))
      (λ e.
      let late : a ≤ j = ltb-false j a e in
      let same : u - j ≡ u - b - (j - b) = omega arith in
      ap g same ∙ ended_at a (u - b) (j - b) (and_right (ended g a u) (ended g a (u - b)) h) (omega arith))))
      (λ h.
      ap₂ (λ (x y : Bool). x && y)
      (ended_made a u (λ j lt. ended_at (a + b) u j h (omega arith)))
      (ended_made a (u - b)
      (λ j lt. let same : u - b - j ≡ u - (b + j) = omega arith in ap g same ∙ ended_at (a + b) u (b + j) h (omega arith))))
