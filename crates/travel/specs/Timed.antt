-- The answer of the travel call and what is returned: the number and values of docs/FORMATS.md for each case, and the answer for these.
-- Assumes nothing.
use Rattle.std.specs.Prelude.{ℕ, Result}
use Rattle.travel_runs.specs.Travel.{Returned}
use Rattle.answers.specs.declared.Refusal.{Refusal}
use Rattle.answers.specs.Answers.{number_of, counted_values, counted_by}

abbrev pub timed_returned : Result ℕ Refusal → Returned
timed_returned r = record { number = number_of r; values = counted_values r }

abbrev pub timed_of : Returned → Result ℕ ℕ
timed_of r = counted_by r.number r.values
