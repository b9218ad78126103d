-- The word that a call for C returns, and how its caller reads the number and the values back (include/dispatch.h says the same).
-- Assumes nothing.
use Rattle.std.specs.Prelude.{ℕ, zero, suc, ◌+◌, ◌*◌, ◌/◌, ◌%◌, List, [], ◌∷◌, Result, Ok, Err}
use Rattle.answers.specs.declared.Granted.{Granted}

-- ---- the word: the number, and beside 0 the count or the light's length times 2 ^ 8 and the arrival times 2 ^ 32

-- of answers with a number in the refusal's place, since the number is what stands in the word, and each has its own
abbrev pub counted_word : Result ℕ ℕ → ℕ
counted_word (Ok n) = n * 256
counted_word (Err n) = n

abbrev pub granted_word : Result Granted ℕ → ℕ
granted_word (Ok g) = g.len * 256 + g.arrival * 4294967296
granted_word (Err n) = n

-- ---- read back

-- the low 8 bits
abbrev pub word_number : ℕ → ℕ
word_number w = w % 256

-- an interval's count, or the ticks of a travel time: the bits from 8 on
abbrev pub word_count : ℕ → ℕ
word_count w = w / 256

-- a route's length: the bits 8 to 31; its arrival: the bits from 32 on
abbrev pub word_length : ℕ → ℕ
word_length w = w / 256 % 16777216

abbrev pub word_arrival : ℕ → ℕ
word_arrival w = w / 4294967296

-- there are values beside 0 alone
abbrev pub beside : ℕ → List ℕ → List ℕ
beside zero values = values
beside (suc n) values = []

abbrev pub counted_in : ℕ → List ℕ
counted_in w = beside (word_number w) (word_count w ∷ [])

abbrev pub granted_in : ℕ → List ℕ
granted_in w = beside (word_number w) (word_length w ∷ word_arrival w ∷ [])
