-- What is meant of the travel call is what 'Travel times' of docs/FORMATS.md says in words.
-- Assumes nothing.
use Prim.Native.Nat.{ℕ, ◌≤◌, ◌<◌}
use mathlib.Core.Path.{◌≡◌, ap, ◌∙◌}
use mathlib.Core.List.{[], ◌∷◌}
use native.Mathlib.Omega.{arith}
use borrow.Author.Tests.{le-ltb, lt-ltb}
use Rattle.meaning.specs.Answers.{lowest}
use Rattle.meaning.specs.Calls.{travel_refusals}
use Rattle.meaning.specs.Limits.{last_distance}
use Rattle.travel_runs.specs.Travel.{returned_by, travel_meant, TravelDesk, TravelExact, TravelDemand}
use Rattle.travel_runs.specs.Entries.{fewest}
use Rattle.travel_runs.proofs.EntryLaws.{right}

-- the number, of a distance that has an entry and of one that has none
number_0 : (d : ℕ) → d ≤ 511 → lowest (travel_refusals d) ≡ 0
unfolding lowest travel_refusals
number_0 d h = simp (le-ltb last_distance d (omega arith))

number_19 : (d : ℕ) → 511 < d → lowest (travel_refusals d) ≡ 19
unfolding lowest travel_refusals
number_19 d h = simp (lt-ltb last_distance d (omega arith))

-- so what is returned
pub meant_entry : (d : ℕ) → d ≤ 511 → travel_meant d ≡ record { number = 0; values = fewest d ∷ [] }
unfolding travel_meant
meant_entry d h = ap (returned_by d) (number_0 d h)

pub meant_refused : (d : ℕ) → 511 < d → travel_meant d ≡ record { number = 19; values = [] }
unfolding travel_meant
meant_refused d h = ap (returned_by d) (number_19 d h)

pub demand : (desk : TravelDesk) → TravelExact desk → TravelDemand desk
demand desk exact =
    record {
      entry = λ d r p h. (fewest d, right d, exact d r p ∙ meant_entry d h);
      refused = λ d r p h. exact d r p ∙ meant_refused d h;
    }
