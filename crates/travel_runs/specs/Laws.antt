-- The theorems about travel times: one statement, proved in proofs/Theorems.antt.
-- Assumes nothing.
use Rattle.std.specs.Prelude.{ℕ, ◌≤◌, ◌≡◌}
use Rattle.travel_runs.specs.Runs.{Run, distance, Fewest}
use Rattle.travel_runs.specs.Entries.{farthest, fewest}
use Rattle.travel_runs.specs.Travel.{TravelDesk, TravelExact, TravelDemand}

pub record TravelRight : Type 1 where
  -- no run of n ticks gets farther than `farthest n`, and some run gets there
  pub no_farther : (n : ℕ) (speed : ℕ → ℕ) → Run n speed → distance speed n ≤ farthest n
  pub that_far : (n : ℕ) → (speed : ℕ → ℕ) × Run n speed × (distance speed n ≡ farthest n)
  -- `fewest d` is the fewest ticks, for every distance, and nothing else is
  pub right : (d : ℕ) → Fewest d (fewest d)
  pub no_other : (d n : ℕ) → Fewest d n → n ≡ fewest d
  -- entries that 'Travel times' of docs/FORMATS.md names
  pub named : (fewest 0 ≡ 0) × (fewest 1 ≡ 2) × (fewest 2 ≡ 3) × (fewest 3 ≡ 4) × (fewest 4 ≡ 4)
      × (fewest 225 ≡ 30) × (fewest 226 ≡ 31) × (fewest 511 ≡ 50)
  -- a call that returns what is meant returns what is said in words
  pub demand : (desk : TravelDesk) → TravelExact desk → TravelDemand desk
