-- The bits of words that stand one after the other, and whether one of several is set.
-- Assumes nothing.
use Rattle.std.specs.Prelude.{ℕ, zero, suc, ◌-◌, Bool, false, cond, ◌||◌, ltb}
use Rattle.search_ticks.specs.Bits.{bit}

-- the test holds at one of the n numbers from i on
unfoldable pub any_from : (ℕ → Bool) → ℕ → ℕ → Bool
any_from p i zero = false
any_from p i (suc n) = p i || any_from p (suc i) n

-- bit j of the word lo, followed by the word hi
unfoldable pub bit_of_two : ℕ → ℕ → ℕ → Bool
bit_of_two lo hi j = cond (ltb j 64) (bit lo j) (bit hi (j - 64))

-- bit j of three words
unfoldable pub bit_of_three : ℕ → ℕ → ℕ → ℕ → Bool
bit_of_three before here after j = cond (ltb j 64) (bit before j) (bit_of_two here after (j - 64))
