-- A list of refusals in two parts, whatever the order of its numbers.
-- Assumes nothing.
use Rattle.std.specs.Prelude.{ℕ, cond, List, [], ◌∷◌, eqb}
use Rattle.meaning.specs.Answers.{Refusal}

-- from the one with the number n on
abbrev pub from_number : ℕ → List Refusal → List Refusal
from_number n [] = []
from_number n (r ∷ rs) = cond (eqb r.number n) (r ∷ rs) (from_number n rs)

-- up to the one with the number n
abbrev pub up_to_number : ℕ → List Refusal → List Refusal
up_to_number n [] = []
up_to_number n (r ∷ rs) = r ∷ cond (eqb r.number n) [] (up_to_number n rs)
