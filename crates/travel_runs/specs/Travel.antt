-- The travel call: what it returns, and what that is in words. Nothing is lent to it.
-- Assumes nothing.
use Rattle.std.specs.Prelude.{ℕ, zero, suc, ◌≤◌, ◌<◌, ◌≡◌, List, [], ◌∷◌}
use Rattle.meaning.specs.Answers.{lowest}
use Rattle.meaning.specs.Calls.{travel_refusals}
use Rattle.travel_runs.specs.Runs.{Fewest}
use Rattle.travel_runs.specs.Entries.{fewest}

-- 0 and the values beside it, or a refusal's number alone
pub record Returned : Type 0 where
  pub number : ℕ
  pub values : List ℕ

abbrev pub returned_by : ℕ → ℕ → Returned
returned_by d zero = record { number = 0; values = fewest d ∷ [] }
returned_by d (suc n) = record { number = suc n; values = [] }

-- what 'Travel times' of docs/FORMATS.md says that a call with d returns
unfoldable pub travel_meant : ℕ → Returned
travel_meant d = returned_by d (lowest (travel_refusals d))

-- ---- the same in words

-- `desk d returned`: with this distance the call may return this
abbrev pub TravelDesk : Type 1
TravelDesk = ℕ → Returned → Type 0

abbrev pub TravelExact : TravelDesk → Type 0
TravelExact desk = (d : ℕ) (r : Returned) → desk d r → r ≡ travel_meant d

pub record TravelDemand (desk : TravelDesk) : Type 0 where
  -- a call with d gives entry d, the fewest ticks, beside its 0
  pub entry : (d : ℕ) (r : Returned) → desk d r → d ≤ 511 → (n : ℕ) × Fewest d n × (r ≡ record { number = 0; values = n ∷ [] })
  -- 19, a distance above 511
  pub refused : (d : ℕ) (r : Returned) → desk d r → 511 < d → r ≡ record { number = 19; values = [] }
