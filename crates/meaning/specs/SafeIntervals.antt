-- Safe intervals in the sense of Phillips and Likhachev, with the horizon for the infinite end.
-- Assumes nothing.
use Rattle.std.specs.Prelude.{ℕ, suc, ◌≤◌, ◌<◌, ◌≡◌, Bool, true, false, List, [], ◌∷◌}
use Rattle.meaning.specs.Basics.{Each, Some}
use Rattle.meaning.specs.Intervals.{Interval}

-- free throughout, and not to be lengthened on either side, but for the ends of time
pub record SafeInterval (p : ℕ → Bool) (horizon first last : ℕ) : Type 0 where
  pub ordered : first ≤ last
  pub in_time : last ≤ horizon
  pub safe : (t : ℕ) → first ≤ t → t ≤ last → p t ≡ true
  pub before : (t : ℕ) → suc t ≡ first → p t ≡ false
  pub after : last < horizon → p (suc last) ≡ false

-- in rising order: each begins after the last tick of the one before
abbrev pub RisingFrom : ℕ → List Interval → Type 0
RisingFrom t [] = Unit {0}
RisingFrom t (i ∷ is) = (t ≤ i.first) × RisingFrom (suc i.last) is

-- the list has all safe intervals and only those, in rising order
pub record AllSafeIntervals (p : ℕ → Bool) (horizon : ℕ) (list : List Interval) : Type 0 where
  pub rising : RisingFrom 0 list
  pub only : Each (λ (i : Interval). SafeInterval p horizon i.first i.last) list
  pub all : (first last : ℕ) → SafeInterval p horizon first last → Some (λ (i : Interval). (i.first ≡ first) × (i.last ≡ last)) list
