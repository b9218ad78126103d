-- 64 bytes as 64 bits: the rows of eight bits that the loop gathers, turned so that byte i gives bit i.
-- Assumes nothing.
use Prim.Native.Nat.{ℕ, zero, suc, ◌+◌, ◌-◌, ◌*◌, ◌/◌, ◌%◌, ◌^◌, ◌≤◌, ◌<◌}
use native.Mathlib.Nat.{pow-suc, zero-add}
use native.Mathlib.Numerals.{add-one}
use native.Mathlib.Omega.{arith}
use mathlib.Core.Path.{◌≡◌, refl, sym, ap, ap₂, ◌∙◌}
use mathlib.Core.Bool.{Bool, true, false, cond, ◌&&◌, ◌||◌, not, and_comm, or-false, not-not, false≢true, true≢false}
use mathlib.Core.List.{List, [], ◌∷◌}
use lib.Bits.{bit_and, bit_or, bit_xor, and_le_r, or_lt, xor_lt}
use lib.Dec.{ltb, leb, eqb}
use lib.ListN.{length, get_or}
use borrow.Author.Tests.{ltb-true, ltb-false, leb-true, leb-false, le-leb, lt-leb, eqb-true, eqb-false}
use Rattle.meaning.specs.Basics.{every, all_from}
use Rattle.meaning.proofs.BasicsLaws.{decide, all_from_at, every_at}
use Rattle.search_ticks.specs.Bits.{odd, bit}
use Rattle.search_ticks.proofs.BitLaws.{even_of, odd_of, digits, xor, bit_and_lem, bit_or_lem, bit_xor_lem, bit_past, bit_shr, bit_rem, bit_scaled, bit_scaled_low}
use Rattle.search_ticks.proofs.RowLaws.{zero_bit}
use Rattle.search_ticks.proofs.SetLaws.{full, not_is_xor}
use Rattle.search_bytes.specs.Words.{word_of_bytes, held_of, exchanged, turned_of, free_word}
use Rattle.search_bytes.proofs.EightLaws.{AreBytes, held_bit}
use Rattle.search_bytes.proofs.WordLaws.{free_small, free_bits}

-- ---- a number is known by its bits

same_digit : (a b : ℕ) → odd a ≡ odd b → a % 2 ≡ b % 2
same_digit a b e = digits a b
    (λ x y. x ∙ sym y)
    (λ x y. absurd (false≢true (sym (even_of a x) ∙ e ∙ odd_of b y)))
    (λ x y. absurd (true≢false (sym (odd_of a x) ∙ e ∙ even_of b y)))
    (λ x y. x ∙ sym y)

pub same_bits : (n a b : ℕ) → a < 2 ^ n → b < 2 ^ n → ((i : ℕ) → i < n → bit a i ≡ bit b i) → a ≡ b
unfolding bit
same_bits zero a b h k e = omega arith
same_bits (suc n) a b h k e =
    let half : a / 2 ≡ b / 2 = same_bits n (a / 2) (b / 2) (omega (arith, pow-suc 2 n)) (omega (arith, pow-suc 2 n)) (λ i lt. e (suc i) (omega arith)) in
    omega (arith, half, same_digit a b (e 0 (omega arith)))

-- ---- bits exchanged with those that stand k higher

-- where bit i of the exchanged number comes from
abbrev source : ℕ → ℕ → ℕ → ℕ
source k mask i = cond (bit mask i) (k + i) (cond (leb k i && bit mask (i - k)) (i - k) i)

-- bit i does not go both up and down
abbrev clear : ℕ → ℕ → ℕ → Bool
clear k mask i = not (bit mask i && (leb k i && bit mask (i - k)))

module _ (k mask x : ℕ) where
  -- the bits that change
  changes : ℕ
  changes = bit_and (bit_xor x (x / 2 ^ k)) mask

  change_bit : (i : ℕ) → bit changes i ≡ (bit mask i && xor (bit x i) (bit x (k + i)))
  unfolding changes
  change_bit i =
      bit_and_lem i (bit_xor x (x / 2 ^ k)) mask ∙ and_comm (bit (bit_xor x (x / 2 ^ k)) i) (bit mask i)
      ∙ ap (λ (b : Bool). bit mask i && b) (bit_xor_lem i x (x / 2 ^ k) ∙ ap (xor (bit x i)) (bit_shr k i x))

  up_bit : (i : ℕ) → i < 64 → bit (changes * 2 ^ k % 2 ^ 64) i ≡ (leb k i && bit changes (i - k))
  up_bit i h =
      bit_rem 64 i (changes * 2 ^ k) h
      ∙ decide (leb k i)
      (λ e.
      let le : k ≤ i = leb-true k i e in
      let split : i ≡ k + (i - k) = omega arith in
      ap (λ (j : ℕ). bit (changes * 2 ^ k) j) split ∙ bit_scaled k (i - k) changes ∙ ap (λ (b : Bool). b && bit changes (i - k)) (sym e))
      (λ e. bit_scaled_low k i changes (omega (arith, leb-false k i e)) ∙ ap (λ (b : Bool). b && bit changes (i - k)) (sym e))

  -- the bit, from those at i, k higher and k lower; u and d say which way it goes
  table : (here over under u d : Bool) → not (u && d) ≡ true
      → xor (xor here (u && xor here over)) (d && xor under here) ≡ cond u over (cond d under here)
  table here over under true true e = absurd (false≢true e)
  table true true under true false e = refl
  table true false under true false e = refl
  table false true under true false e = refl
  table false false under true false e = refl
  table true over true false true e = refl
  table true over false false true e = refl
  table false over true false true e = refl
  table false over false false true e = refl
  table true over under false false e = refl
  table false over under false false e = refl

  -- the bit at the source, by the same cases
  chosen : (u l d : Bool) (i : ℕ) → bit x (cond u (k + i) (cond (l && d) (i - k) i)) ≡ cond u (bit x (k + i)) (cond (l && d) (bit x (i - k)) (bit x i))
  chosen true l d i = refl
  chosen false true true i = refl
  chosen false true false i = refl
  chosen false false d i = refl

  -- the changed bit k lower, where there is one
  lower : (i : ℕ) (l : Bool) → leb k i ≡ l → (l && bit changes (i - k)) ≡ ((l && bit mask (i - k)) && xor (bit x (i - k)) (bit x i))
  lower i false e = refl
  lower i true e =
      let le : k ≤ i = leb-true k i e in
      let same : k + (i - k) ≡ i = omega arith in
      change_bit (i - k) ∙ ap (λ (j : ℕ). bit mask (i - k) && xor (bit x (i - k)) (bit x j)) same

  exchanged_is : exchanged k mask x ≡ bit_xor (bit_xor x changes) (changes * 2 ^ k % 2 ^ 64)
  unfolding exchanged changes
  exchanged_is = refl

  pub exchange_bit : (i : ℕ) → i < 64 → clear k mask i ≡ true → bit (exchanged k mask x) i ≡ bit x (source k mask i)
  exchange_bit i h e =
      ap (λ (n : ℕ). bit n i) exchanged_is
      ∙ bit_xor_lem i (bit_xor x changes) (changes * 2 ^ k % 2 ^ 64)
      ∙ ap₂ xor (bit_xor_lem i x changes ∙ ap (xor (bit x i)) (change_bit i)) (up_bit i h ∙ lower i (leb k i) refl)
      ∙ table (bit x i) (bit x (k + i)) (bit x (i - k)) (bit mask i) (leb k i && bit mask (i - k)) e
      ∙ sym (chosen (bit mask i) (leb k i) (bit mask (i - k)) i)

-- ---- three exchanges turn the square of eight rows of eight bits

abbrev first : ℕ → ℕ
first i = source 28 0xf0f0_f0f0 i

abbrev second : ℕ → ℕ
second i = source 14 0x0000_cccc_0000_cccc i

abbrev third : ℕ → ℕ
third i = source 7 0x00aa_00aa_00aa_00aa i

right : ℕ → Bool
right i =
    every
    (clear 28 0xf0f0_f0f0 i ∷ ltb (first i) 64 ∷ clear 14 0x0000_cccc_0000_cccc (first i) ∷ ltb (second (first i)) 64
    ∷ clear 7 0x00aa_00aa_00aa_00aa (second (first i)) ∷ eqb (third (second (first i))) (8 * (i % 8) + i / 8) ∷ bit full i ∷ [])

all_right : all_from right 0 64 ≡ true
unfolding right every bit odd
all_right = refl

module _ (i : ℕ) (h : i < 64) where
  right_at : right i ≡ true
  right_at = ap right (sym (zero-add i)) ∙ all_from_at right 0 64 i all_right h

  turn_bit : (x : ℕ) → bit (turned_of x) i ≡ bit x (8 * (i % 8) + i / 8)
  unfolding turned_of right
  turn_bit x =
      exchange_bit 28 0xf0f0_f0f0 (exchanged 14 0x0000_cccc_0000_cccc (exchanged 7 0x00aa_00aa_00aa_00aa x)) i h (every_at _ right_at 0)
      ∙ exchange_bit 14 0x0000_cccc_0000_cccc (exchanged 7 0x00aa_00aa_00aa_00aa x) (first i) (ltb-true _ 64 (every_at _ right_at 1)) (every_at _ right_at 2)
      ∙ exchange_bit 7 0x00aa_00aa_00aa_00aa x (second (first i)) (ltb-true _ 64 (every_at _ right_at 3)) (every_at _ right_at 4)
      ∙ ap (bit x) (eqb-true _ _ (every_at _ right_at 5))

  -- all 64 bits the other way
  flip_bit : (x : ℕ) → bit (bit_xor x full) i ≡ not (bit x i)
  unfolding right
  flip_bit x = bit_xor_lem i x full ∙ ap (xor (bit x i)) (every_at _ right_at 6) ∙ other (bit x i)
    where
      other : (b : Bool) → xor b true ≡ not b
      other true = refl
      other false = refl

-- ---- the loop: eight bytes a turn

unfoldable pub gathered : List ℕ → ℕ → ℕ
gathered b zero = 0
gathered b (suc j) = bit_or (gathered b j / 2 ^ 1) (held_of (word_of_bytes b (8 * j) 8))

pub gathered_none : (b : List ℕ) → 0 ≡ gathered b 0
unfolding gathered
gathered_none b = refl

pub gathered_more : (b : List ℕ) (j x y z : ℕ) → x ≡ gathered b j → y ≡ word_of_bytes b (8 * j) 8 → z ≡ held_of y
    → bit_or (x / 2 ^ 1) z ≡ gathered b (j + 1)
unfolding gathered
gathered_more b j x y z e f g = rw (add-one j, e, g, f)

gathered_small : (b : List ℕ) (j : ℕ) → gathered b j < 2 ^ 64
unfolding gathered held_of
gathered_small b zero = omega arith
gathered_small b (suc j) =
    let w : ℕ = word_of_bytes b (8 * j) 8 in
    or_lt 64 (gathered b j / 2 ^ 1) (held_of w) (omega (arith, gathered_small b j))
    (omega (arith, and_le_r (bit_or (bit_and w 0x7f7f_7f7f_7f7f_7f7f + 0x7f7f_7f7f_7f7f_7f7f) w) 0x8080_8080_8080_8080))

module _ (b : List ℕ) (bytes : AreBytes b) where
  -- n is at least 8, and byte q of the eight from 8 * (n - 8) on is not 0
  came : ℕ → ℕ → Bool
  came n q = leb 8 n && not (eqb (get_or b (8 * (n - 8) + q) 0) 0)

  came_soon : (n q : ℕ) → n < 8 → came n q ≡ false
  unfolding came
  came_soon n q h = ap (λ (t : Bool). t && not (eqb (get_or b (8 * (n - 8) + q) 0) 0)) (lt-leb 8 n h)

  came_late : (n q : ℕ) → 8 ≤ n → came n q ≡ not (eqb (get_or b (8 * (n - 8) + q) 0) 0)
  unfolding came
  came_late n q h = ap (λ (t : Bool). t && not (eqb (get_or b (8 * (n - 8) + q) 0) 0)) (le-leb 8 n h)

  -- the rows that have come stand one bit lower after each turn
  gathered_bit : (j i : ℕ) → j ≤ 8 → i < 64 → bit (gathered b j) i ≡ came (i % 8 + j) (i / 8)
  unfolding gathered
  gathered_bit zero i few h = zero_bit i ∙ sym (came_soon (i % 8 + 0) (i / 8) (omega arith))
  gathered_bit (suc j) i few h =
      bit_or_lem i (gathered b j / 2 ^ 1) (held_of (word_of_bytes b (8 * j) 8))
      ∙ ap₂ ◌||◌ (bit_shr 1 i (gathered b j)) (held_bit b bytes (8 * j) i h)
      ∙ decide (eqb (i % 8) 7)
      (λ e.
      let last : i % 8 ≡ 7 = eqb-true (i % 8) 7 e in
      let place : 8 * j + i / 8 ≡ 8 * (i % 8 + suc j - 8) + i / 8 = omega arith in
      let none : bit (gathered b j) (1 + i) ≡ false =
      decide (ltb (1 + i) 64)
      (λ u. gathered_bit j (1 + i) (omega arith) (ltb-true (1 + i) 64 u) ∙ came_soon ((1 + i) % 8 + j) ((1 + i) / 8) (omega arith))
      (λ u. bit_past 64 (1 + i) (gathered b j) (gathered_small b j) (ltb-false (1 + i) 64 u)) in
      ap₂ (λ (s t : Bool). s || t && not (eqb (get_or b (8 * j + i / 8) 0) 0)) none e
      ∙ ap (λ (q : ℕ). not (eqb (get_or b q 0) 0)) place ∙ sym (came_late (i % 8 + suc j) (i / 8) (omega arith)))
      (λ e.
      let other : i % 8 ≡ 7 → ⊥ = eqb-false (i % 8) 7 e in
      let digit : (1 + i) % 8 + j ≡ i % 8 + suc j = omega arith in
      let place : (1 + i) / 8 ≡ i / 8 = omega arith in
      ap₂ (λ (s t : Bool). s || t && not (eqb (get_or b (8 * j + i / 8) 0) 0))
      (gathered_bit j (1 + i) (omega arith) (omega arith) ∙ ap₂ came digit place) e
      ∙ or-false (came (i % 8 + suc j) (i / 8)))

  low_part : (r q : ℕ) → q < 8 → (8 * r + q) % 8 ≡ q
  low_part r q h = omega arith

  high_part : (r q : ℕ) → q < 8 → (8 * r + q) / 8 ≡ r
  high_part r q h = omega arith

  turned_bit : (i : ℕ) → i < 64 → bit (turned_of (gathered b 8)) i ≡ not (eqb (get_or b i 0) 0)
  turned_bit i h =
      let from : ℕ = 8 * (i % 8) + i / 8 in
      let digit : from % 8 ≡ i / 8 = low_part (i % 8) (i / 8) (omega arith) in
      let row : from / 8 ≡ i % 8 = high_part (i % 8) (i / 8) (omega arith) in
      let place : 8 * (from % 8 + 8 - 8) + from / 8 ≡ i = omega arith in
      turn_bit i h (gathered b 8)
      ∙ gathered_bit 8 from (omega arith) (omega arith)
      ∙ came_late (from % 8 + 8) (from / 8) (omega arith)
      ∙ ap (λ (q : ℕ). not (eqb (get_or b q 0) 0)) place

  pub gathered_all : (j x y : ℕ) → length b ≡ 64 → 8 ≤ j → j ≤ 8 → x ≡ gathered b j → y ≡ turned_of x → y < 2 ^ 64
      → full - y ≡ free_word b
  gathered_all j x y sized most few e f fits =
      let all : j ≡ 8 = omega arith in
      let is : y ≡ turned_of (gathered b 8) = f ∙ ap turned_of (e ∙ ap (gathered b) all) in
      not_is_xor y fits
      ∙ same_bits 64 (bit_xor y full) (free_word b)
      (xor_lt 64 y full fits (omega arith))
      (rw sized at (free_small b))
      (λ i h.
      flip_bit i h y
      ∙ ap not (ap (λ (n : ℕ). bit n i) is ∙ turned_bit i h)
      ∙ not-not (eqb (get_or b i 0) 0)
      ∙ sym (free_bits b i (omega arith)))
