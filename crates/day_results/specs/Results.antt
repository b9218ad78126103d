-- What a call and a turn of the day come to.
-- Assumes nothing.
use Rattle.std.specs.Prelude.{ℕ, Result, Ok, Err}
use Rattle.std.proofs.Common.{ControlFlow, Continue, Break}
use Rattle.answers.specs.declared.Refusal.{Refusal}
use Rattle.answers.specs.declared.Granted.{Granted}
use Rattle.answers.specs.Answers.{number, number_of}
use Rattle.day_results.specs.declared.CallResult.{CallResult}
use Rattle.day_results.specs.declared.Outcome.{Outcome}

abbrev pub changed_result : Result Unit Refusal → ℕ → CallResult
changed_result a light = record { number = number_of a; arrival = 0; light = light }

abbrev pub routed_result : Result Granted Refusal → ℕ → CallResult
routed_result (Ok g) last = record { number = 0; arrival = g.arrival; light = g.len }
routed_result (Err r) last = record { number = number r; arrival = 0; light = last }

-- the outcome of a turn after which the program ends
abbrev pub last_turn : ℕ → ℕ → Outcome
last_turn light text = record { text = text; next = Break light }

-- the length of the last granted light after a turn, be it the last one or not
abbrev pub kept_light : ControlFlow ℕ ℕ → ℕ
kept_light (Continue light) = light
kept_light (Break light) = light
