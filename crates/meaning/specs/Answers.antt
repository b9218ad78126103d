-- Answers of calls: 'When the desk says no' of docs/FORMATS.md.
-- Assumes nothing.
use Rattle.std.specs.Prelude.{ℕ, zero, suc, ◌≤◌, ◌<◌, ◌≡◌, Bool, false, cond, List, [], ◌∷◌}
use Rattle.meaning.specs.Basics.{Each}

-- a number of the list of refusals, and whether it applies
pub record Refusal : Type 0 where
  pub number : ℕ
  pub applies : Bool

infix 68 ◌if◌
abbrev pub ◌if◌ : ℕ → Bool → Refusal
n if b = record { number = n; applies = b }

-- the lowest number that applies, 0 if none does: each list's numbers rise
unfoldable pub lowest : List Refusal → ℕ
lowest [] = 0
lowest (r ∷ rs) = cond r.applies r.number (lowest rs)

-- the numbers rise, from above n on
abbrev pub RiseFrom : ℕ → List Refusal → Type 0
RiseFrom n [] = Unit {0}
RiseFrom n (r ∷ rs) = (n < r.number) × RiseFrom r.number rs

-- none of the checks up to n applies
abbrev pub Clears : ℕ → List Refusal → Type 0
Clears n rs = Each (λ (r : Refusal). r.number ≤ n → r.applies ≡ false) rs

-- what a reader answers: what it read, or the number of the refusal
pub data Answer (A : Type 0) : Type 0 where
  accepted : A → Answer A
  refused : ℕ → Answer A

unfoldable pub answer : {A : Type 0} → A → ℕ → Answer A
answer a zero = accepted a
answer a (suc n) = refused (suc n)
