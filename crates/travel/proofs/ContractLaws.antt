-- What the contract of travel promises is what is meant. `Learnt` and its arguments are those of crates/desk_board/proofs/ContractLaws.antt.
-- Assumes nothing.
use Prim.Native.Nat.{ℕ}
use mathlib.Core.Path.{◌≡◌, refl}
use contract.Lifetimes.{Lfts}
use lib.Dec.{ltb}
use borrow.Author.Tests.{ltb-true, ltb-false}
use Rattle.std.specs.Prelude.{Result}
use Rattle.meaning.specs.Limits.{last_distance}
use Rattle.meaning.proofs.BasicsLaws.{decide}
use Rattle.travel_runs.specs.Travel.{travel_meant}
use Rattle.travel_runs.proofs.CallLaws.{meant_entry, meant_refused}
use Rattle.answers.specs.declared.Refusal.{Refusal}
use Rattle.answers.specs.Answers.{named}
use Rattle.travel.specs.Timed.{timed_returned, timed_of}
use Rattle.travel.proofs.travel.Reads as travel_reads

pub travel_meant_lem : (κs : Lfts 0) (d d' : ℕ) (r : Result ℕ Refusal) → travel_reads.Learnt κs (d, tt) r (d', tt) → timed_returned r ≡ travel_meant d
travel_meant_lem κs d d' r p = λ i. record { number = p.0 i; values = p.1 i }

-- the answer for what is meant has its number and its values
pub timed_back : (d : ℕ) → timed_returned (named (timed_of (travel_meant d))) ≡ travel_meant d
timed_back d =
    decide (ltb last_distance d)
    (λ e. let is = meant_refused d (ltb-true last_distance d e) in rw is refl)
    (λ e. let is = meant_entry d (ltb-false last_distance d e) in rw is refl)
