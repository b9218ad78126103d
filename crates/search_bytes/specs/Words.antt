-- The board's bytes as words of bits, set where the byte is 0, and the words by which 64 of them are computed.
-- Assumes nothing.
use Rattle.std.specs.Prelude.{ℕ, zero, suc, ◌+◌, ◌*◌, ◌/◌, ◌%◌, ◌^◌, cond, List, [], ◌∷◌, eqb, get_or}
use Rattle.std.specs.Int.Bits.{bit_and, bit_or, bit_xor}

unfoldable pub free_bit : ℕ → ℕ
free_bit b = cond (eqb b 0) 1 0

-- bytes of the board as bits, the first one lowest: set where the byte is 0
unfoldable pub free_word : List ℕ → ℕ
free_word [] = 0
free_word (b ∷ bytes) = free_word bytes * 2 + free_bit b

-- ---- eight bytes at a time

-- the n bytes from place p on as one number, the first one lowest
unfoldable pub word_of_bytes : List ℕ → ℕ → ℕ → ℕ
word_of_bytes board p zero = 0
word_of_bytes board p (suc n) = word_of_bytes board (suc p) n * 256 + get_or board p 0

-- the highest bit of each byte of x that is not 0
unfoldable pub held_of : ℕ → ℕ
held_of x = bit_and (bit_or (bit_and x 0x7f7f_7f7f_7f7f_7f7f + 0x7f7f_7f7f_7f7f_7f7f) x) 0x8080_8080_8080_8080

-- the bits that the mask has, exchanged with those that stand k higher
unfoldable pub exchanged : ℕ → ℕ → ℕ → ℕ
exchanged k mask x =
    let t : ℕ = bit_and (bit_xor x (x / 2 ^ k)) mask in
    bit_xor (bit_xor x t) (t * 2 ^ k % 2 ^ 64)

-- bit i of byte j as bit j of byte i
unfoldable pub turned_of : ℕ → ℕ
turned_of x = exchanged 28 0xf0f0_f0f0 (exchanged 14 0x0000_cccc_0000_cccc (exchanged 7 0x00aa_00aa_00aa_00aa x))
