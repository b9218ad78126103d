-- The answers of the public calls: the number and values of docs/FORMATS.md for each case, and the case for each number.
-- Assumes nothing.
use Rattle.std.specs.Prelude.{ℕ, zero, suc, ◌-◌, List, [], ◌∷◌, get_or, Result, Ok, Err}
use Rattle.meaning.specs.Calls.{Done}
use Rattle.answers.specs.declared.Granted.{Granted}
use Rattle.answers.specs.declared.Refusal.{Refusal}
use Rattle.answers.specs.declared.Refusal.TheVariants as R

-- ---- refusals

abbrev pub number : Refusal → ℕ
number R.SiteTooLong = 1
number R.SiteCut = 2
number R.SiteHead = 3
number R.SiteLayout = 4
number R.StateCell = 5
number R.Motion = 6
number R.BoardLength = 7
number R.LightLayout = 8
number R.HolderRange = 9
number R.OutOfRange = 10
number R.GoalRolling = 11
number R.HolderStands = 12
number R.HolderAbsent = 13
number R.AreaShort = 14
number R.LastEdition = 15
number R.StaleLight = 16
number R.Conflict = 17
number R.NoPlan = 18
number R.TooFar = 19
number R.NoPicture = 20

-- ---- every call: 0 if it is accepted

abbrev pub number_of : {A : Type 0} → Result A Refusal → ℕ
number_of (Ok x) = 0
number_of (Err r) = number r

-- ---- interval, travel: beside 0 the count, whatever the error is

abbrev pub counted_values : {E : Type 0} → Result ℕ E → List ℕ
counted_values (Ok n) = n ∷ []
counted_values (Err e) = []

-- ---- route: beside 0 the light's length and the arrival

abbrev pub granted_values : {E : Type 0} → Result Granted E → List ℕ
granted_values (Ok g) = g.len ∷ g.arrival ∷ []
granted_values (Err e) = []

-- ---- the answer for each number, whose error is the number itself, so that no two numbers have one answer

abbrev pub number_in : {A : Type 0} → Result A ℕ → ℕ
number_in (Ok x) = 0
number_in (Err n) = n

-- no accepted call is Err 0
abbrev pub answer_of : ℕ → Result Unit ℕ
answer_of zero = Ok tt
answer_of (suc n) = Err (suc n)

abbrev pub counted_by : ℕ → List ℕ → Result ℕ ℕ
counted_by zero values = Ok (get_or values 0 0)
counted_by (suc n) values = Err (suc n)

abbrev pub counted_of : Done → Result ℕ ℕ
counted_of d = counted_by d.number d.values

abbrev pub granted_by : ℕ → List ℕ → Result Granted ℕ
granted_by zero values = Ok (record { len = get_or values 0 0; arrival = get_or values 1 0 })
granted_by (suc n) values = Err (suc n)

abbrev pub granted_of : Done → Result Granted ℕ
granted_of d = granted_by d.number d.values

-- ---- a call's answer with the refusal's number in its place

abbrev pub numbered : {A : Type 0} → Result A Refusal → Result A ℕ
numbered (Ok x) = Ok x
numbered (Err r) = Err (number r)

-- ---- and with the refusal for its number

-- every refusal, by rising numbers
abbrev pub every_refusal : List Refusal
every_refusal =
    R.SiteTooLong
    ∷ R.SiteCut
    ∷ R.SiteHead
    ∷ R.SiteLayout
    ∷ R.StateCell
    ∷ R.Motion
    ∷ R.BoardLength
    ∷ R.LightLayout
    ∷ R.HolderRange
    ∷ R.OutOfRange
    ∷ R.GoalRolling
    ∷ R.HolderStands
    ∷ R.HolderAbsent
    ∷ R.AreaShort
    ∷ R.LastEdition
    ∷ R.StaleLight
    ∷ R.Conflict
    ∷ R.NoPlan
    ∷ R.TooFar
    ∷ R.NoPicture
    ∷ []

-- of a number from 1 to 20; the first stands for any other, which has none. So what is said of a call or of a word says its number
-- (above), and this serves only to show that a number tells its refusal, and that claims about calls are not empty.
abbrev pub refusal_of : ℕ → Refusal
refusal_of n = get_or every_refusal (n - 1) R.SiteTooLong

abbrev pub named : {A : Type 0} → Result A ℕ → Result A Refusal
named (Ok x) = Ok x
named (Err n) = Err (refusal_of n)
