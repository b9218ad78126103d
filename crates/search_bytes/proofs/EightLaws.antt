-- Bytes one after the other as one number, and the highest bit of each byte of it that is not 0.
-- Assumes nothing.
use Prim.Native.Nat.{ℕ, zero, suc, ◌+◌, ◌-◌, ◌*◌, ◌/◌, ◌%◌, ◌^◌, ◌≤◌, ◌<◌}
use native.Mathlib.Nat.{zero-add}
use native.Mathlib.Omega.{arith}
use mathlib.Core.Path.{◌≡◌, refl, sym, ap, ap₂, ◌∙◌}
use mathlib.Core.Bool.{Bool, true, false, cond, ◌&&◌, not, and-true, and-false}
use mathlib.Core.List.{List, [], ◌∷◌}
use Rattle.std.specs.Int.{w64, from_le_bytes}
use lib.Bits.{bit_and, bit_or, and_le_r, and_block, or_block, or_lt}
use lib.Pow.{low, high}
use lib.Dec.{ltb, eqb}
use lib.ListN.{get_or}
use borrow.Author.Tests.{ltb-true, ltb-false, eqb-true, eqb-false}
use Rattle.meaning.proofs.BasicsLaws.{decide, all_from_at}
use Rattle.search_ticks.specs.Bits.{odd, bit}
use Rattle.search_ticks.proofs.BitLaws.{bit_shr, bit_rem, bit_scaled_low}
use Rattle.search_ticks.proofs.RowLaws.{zero_bit}
use Rattle.search_bytes.specs.Words.{word_of_bytes, held_of}

-- each number of the list is a byte
abbrev pub AreBytes : List ℕ → Type 0
AreBytes b = (i : ℕ) → get_or b i 0 < 256

-- ---- eight bytes as one number

pub word_eight : (b : List ℕ) (p : ℕ)
    → from_le_bytes w64 (get_or b p 0 ∷ get_or b (p + 1) 0 ∷ get_or b (p + 2) 0 ∷ get_or b (p + 3) 0 ∷ get_or b (p + 4) 0 ∷ get_or b (p + 5) 0 ∷ get_or b (p + 6) 0 ∷ get_or b (p + 7) 0 ∷ [])
    ≡ word_of_bytes b p 8
unfolding word_of_bytes
word_eight b p =
    let e₁ : p + 1 ≡ suc p = omega arith in
    let e₂ : p + 2 ≡ suc (suc p) = omega arith in
    let e₃ : p + 3 ≡ suc (suc (suc p)) = omega arith in
    let e₄ : p + 4 ≡ suc (suc (suc (suc p))) = omega arith in
    let e₅ : p + 5 ≡ suc (suc (suc (suc (suc p)))) = omega arith in
    let e₆ : p + 6 ≡ suc (suc (suc (suc (suc (suc p))))) = omega arith in
    let e₇ : p + 7 ≡ suc (suc (suc (suc (suc (suc (suc p)))))) = omega arith in
    rw (e₁, e₂, e₃, e₄, e₅, e₆, e₇) (omega arith)

-- ---- the bytes that are not 0

-- the number of n bytes, each of which is d
unfoldable pub alike : ℕ → ℕ → ℕ
alike d zero = 0
alike d (suc n) = alike d n * 256 + d

-- held_of, for numbers of n bytes
unfoldable pub held_in : ℕ → ℕ → ℕ
held_in n x = bit_and (bit_or (bit_and x (alike 127 n) + alike 127 n) x) (alike 128 n)

held_eight : (x : ℕ) → held_of x ≡ held_in 8 x
unfolding held_of held_in alike
held_eight x = refl

-- no byte's sum is carried into the next byte
held_next : (n x y : ℕ) → y < 256 → held_in (suc n) (x * 256 + y) ≡ held_in n x * 256 + bit_and (bit_or (bit_and y 127 + 127) y) 128
unfolding held_in alike
held_next n x y h =
    let a : ℕ = bit_and x (alike 127 n) + alike 127 n in
    let few = and_le_r y 127 in
    let e : bit_and (x * 256 + y) (alike 127 n * 256 + 127) + (alike 127 n * 256 + 127) ≡ (bit_and x (alike 127 n) + alike 127 n) * 256 + (bit_and y 127 + 127) =
    omega (arith, and_block 8 x (alike 127 n) y 127 h (omega arith)) in
    ap (λ (s : ℕ). bit_and (bit_or s (x * 256 + y)) (alike 128 n * 256 + 128)) e
    ∙ ap (λ (s : ℕ). bit_and s (alike 128 n * 256 + 128)) (or_block 8 (bit_and x (alike 127 n) + alike 127 n) x (bit_and y 127 + 127) y (omega arith) h)
    ∙ and_block 8 (bit_or (bit_and x (alike 127 n) + alike 127 n) x) (alike 128 n) (bit_or (bit_and y 127 + 127) y) 128 (or_lt 8 (bit_and y 127 + 127) y (omega arith) h) (omega arith)

-- one byte
byte_right : ℕ → Bool
byte_right y = eqb (bit_and (bit_or (bit_and y 127 + 127) y) 128) (cond (eqb y 0) 0 128)

held_byte : (y : ℕ) → y < 256 → bit_and (bit_or (bit_and y 127 + 127) y) 128 ≡ cond (eqb y 0) 0 128
unfolding byte_right
held_byte y h = eqb-true _ _ (ap byte_right (sym (zero-add y)) ∙ all_from_at byte_right 0 256 y refl h)

-- the bits of a byte that is 0 or 128
top_bit : (i : ℕ) → i < 8 → bit 128 i ≡ eqb i 7
unfolding bit odd
top_bit i h = decide (eqb i 7) (λ e. let same : i ≡ 7 = eqb-true i 7 e in rw same) (λ e. bit_scaled_low 7 i 1 (omega (arith, eqb-false i 7 e)) ∙ sym e)

byte_bit : (y i : ℕ) → i < 8 → bit (cond (eqb y 0) 0 128) i ≡ (eqb i 7 && not (eqb y 0))
byte_bit y i h = by (eqb y 0)
  where
    by : (z : Bool) → bit (cond z 0 128) i ≡ (eqb i 7 && not z)
    by true = zero_bit i ∙ sym (and-false (eqb i 7))
    by false = top_bit i h ∙ sym (and-true (eqb i 7))

-- the bits of a sum whose lower part ends below bit k
low_bit : (k h l i : ℕ) → l < 2 ^ k → i < k → bit (h * 2 ^ k + l) i ≡ bit l i
low_bit k h l i few lt = sym (bit_rem k i (h * 2 ^ k + l) lt) ∙ ap (λ (x : ℕ). bit x i) (low h k few)

high_bit : (k h l i : ℕ) → l < 2 ^ k → bit (h * 2 ^ k + l) (k + i) ≡ bit h i
high_bit k h l i few = sym (bit_shr k i (h * 2 ^ k + l)) ∙ ap (λ (x : ℕ). bit x i) (high h k few)

module _ (b : List ℕ) (bytes : AreBytes b) where
  held_part : (n p : ℕ) → held_in (suc n) (word_of_bytes b p (suc n)) ≡ held_in n (word_of_bytes b (suc p) n) * 2 ^ 8 + cond (eqb (get_or b p 0) 0) 0 128
  unfolding word_of_bytes
  held_part n p =
      held_next n (word_of_bytes b (suc p) n) (get_or b p 0) (bytes p)
      ∙ ap (λ (x : ℕ). held_in n (word_of_bytes b (suc p) n) * 256 + x) (held_byte (get_or b p 0) (bytes p))

  byte_small : (p : ℕ) → cond (eqb (get_or b p 0) 0) 0 128 < 2 ^ 8
  byte_small p = by (eqb (get_or b p 0) 0)
    where
      by : (z : Bool) → cond z 0 128 < 256
      by true = omega arith
      by false = omega arith

  held_bits : (n p i : ℕ) → i / 8 < n → bit (held_in n (word_of_bytes b p n)) i ≡ (eqb (i % 8) 7 && not (eqb (get_or b (p + i / 8) 0) 0))
  held_bits zero p i h = absurd (omega arith)
  held_bits (suc n) p i h =
      ap (λ (x : ℕ). bit x i) (held_part n p)
      ∙ decide (ltb i 8)
      (λ e.
      let few : i < 8 = ltb-true i 8 e in
      let digit : i ≡ i % 8 = omega arith in
      let place : p ≡ p + i / 8 = omega arith in
      low_bit 8 (held_in n (word_of_bytes b (suc p) n)) _ i (byte_small p) few
      ∙ byte_bit (get_or b p 0) i few
      ∙ ap₂ (λ (x y : ℕ). eqb x 7 && not (eqb (get_or b y 0) 0)) digit place)
      (λ e.
      let many : 8 ≤ i = ltb-false i 8 e in
      let split : i ≡ 8 + (i - 8) = omega arith in
      let digit : (i - 8) % 8 ≡ i % 8 = omega arith in
      let place : suc p + (i - 8) / 8 ≡ p + i / 8 = omega arith in
      ap (λ (x : ℕ). bit (held_in n (word_of_bytes b (suc p) n) * 2 ^ 8 + cond (eqb (get_or b p 0) 0) 0 128) x) split
      ∙ high_bit 8 (held_in n (word_of_bytes b (suc p) n)) _ (i - 8) (byte_small p)
      ∙ held_bits n (suc p) (i - 8) (omega arith)
      ∙ ap₂ (λ (x y : ℕ). eqb x 7 && not (eqb (get_or b y 0) 0)) digit place)

  pub held_bit : (p i : ℕ) → i < 64 → bit (held_of (word_of_bytes b p 8)) i ≡ (eqb (i % 8) 7 && not (eqb (get_or b (p + i / 8) 0) 0))
  held_bit p i h = ap (λ (x : ℕ). bit x i) (held_eight (word_of_bytes b p 8)) ∙ held_bits 8 p i (omega arith)
