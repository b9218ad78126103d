-- The bits of a number, and the words that the loops over rows compute.
-- Assumes nothing.
use Rattle.std.specs.Prelude.{ℕ, zero, suc, ◌+◌, ◌-◌, ◌*◌, ◌/◌, ◌%◌, ◌^◌, Bool, ◌==◌, bit_and, bit_or, bit_xor}

unfoldable pub odd : ℕ → Bool
odd n = n % 2 == 1

unfoldable pub bit : ℕ → ℕ → Bool
bit w zero = odd w
bit w (suc i) = bit (w / 2) i

-- the 64 bits from bit r of the word lo, followed by the word hi
unfoldable pub window_of : ℕ → ℕ → ℕ → ℕ
window_of lo hi r = bit_or (lo / 2 ^ r) (((hi * 2 ^ 1) % 2 ^ 64 * 2 ^ (63 - r)) % 2 ^ 64)

-- the bits of f that are in x or above one of them in its run: the carry of f + x runs through each run of f
unfoldable pub run_of : ℕ → ℕ → ℕ
run_of f x = bit_and (bit_or (bit_xor ((f + x) % 2 ^ 64) f) x) f

-- a word of waits: its reached bits x, its free bits f, and c, 1 where the bit below is reached and free
unfoldable pub fill_of : ℕ → ℕ → ℕ → ℕ
fill_of f x c = run_of f (bit_and (bit_or x c) f)
