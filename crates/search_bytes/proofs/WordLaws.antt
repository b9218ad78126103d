-- A word of the board's bytes: its bits, the loop from the last byte down, and bytes of 0 alone.
-- Assumes nothing.
use Prim.Native.Nat.{ℕ, zero, suc, ◌+◌, ◌-◌, ◌*◌, ◌/◌, ◌^◌, ◌≤◌, ◌<◌}
use native.Mathlib.Nat.{pow-suc}
use native.Mathlib.Omega.{arith}
use mathlib.Core.Path.{◌≡◌, ap, ◌∙◌}
use mathlib.Core.List.{List, [], ◌∷◌}
use lib.Pow.{pow_mono}
use lib.Dec.{eqb}
use lib.ListN.{length, get_or, drop}
use lib.Bits.{bit_or}
use Rattle.std.proofs.Common.{fold, drop-cons, refl}
use Rattle.meaning.proofs.BasicsLaws.{decide}
use Rattle.search_ticks.specs.Bits.{odd, bit}
use Rattle.search_ticks.proofs.BitLaws.{odd_of, even_of, or_zero}
use Rattle.search_bytes.specs.Words.{free_bit, free_word}

bit_small : (x : ℕ) → free_bit x < 2
unfolding free_bit
bit_small x = decide (eqb x 0) (λ e. rw e (omega arith)) (λ e. rw e (omega arith))

pub free_small : (b : List ℕ) → free_word b < 2 ^ length b
unfolding free_word
free_small [] = omega arith
free_small (x ∷ b) = omega (arith, free_small b, bit_small x, pow-suc 2 (length b))

pub free_fits : (b : List ℕ) → length b < 64 → free_word b * 2 + 1 < 2 ^ 64
free_fits b h = omega (arith, free_small b, pow_mono {i = length b} {j = 63} (omega arith))

odd_bit : (x y : ℕ) → odd (x * 2 + free_bit y) ≡ eqb y 0
unfolding free_bit
odd_bit x y = decide (eqb y 0) (λ e. rw e (odd_of (x * 2 + 1) (omega arith))) (λ e. rw e (even_of (x * 2 + 0) (omega arith)))

pub free_bits : (b : List ℕ) (i : ℕ) → i < length b → bit (free_word b) i ≡ eqb (get_or b i 0) 0
unfolding bit free_word
free_bits [] i h = absurd (omega arith)
free_bits (x ∷ b) zero h = odd_bit (free_word b) x
free_bits (x ∷ b) (suc i) h =
    let e : (free_word b * 2 + free_bit x) / 2 ≡ free_word b = omega (arith, bit_small x) in
    rw e (free_bits b i (omega arith))

-- the loop from the last byte down
pub free_none : (b : List ℕ) → 0 ≡ free_word (drop (length b) b)
unfolding free_word
free_none [] = refl
free_none (x ∷ b) = free_none b

free_step : (b : List ℕ) (j w x : ℕ) → j < length b → w ≡ free_word (drop (suc j) b) → x ≡ free_bit (get_or b j 0) → w * 2 + x ≡ free_word (drop j b)
unfolding free_word
free_step b j w x inside e f = rw (drop-cons b j 0, e, f)

pub free_more : (b : List ℕ) (i w x : ℕ) → 0 < i → i ≤ length b → w ≡ free_word (drop i b) → x ≡ free_bit (get_or b (i - 1) 0)
    → w * 2 + x ≡ free_word (drop (i - 1) b)
free_more b i w x some most e f =
    let last : i ≡ suc (i - 1) = omega arith in
    free_step b (i - 1) w x (omega arith) (e ∙ ap (λ (k : ℕ). free_word (drop k b)) last) f

-- a union that is 0 is of bytes of 0 alone
pub union_zero : (b : List ℕ) (a : ℕ) → fold bit_or a b ≡ 0 → (a ≡ 0) × (free_word b + 1 ≡ 2 ^ length b)
unfolding free_word free_bit
union_zero [] a e = (e, omega arith)
union_zero (x ∷ b) a e =
    let rest = union_zero b (bit_or a x) e in
    let both = or_zero a x rest.0 in
    (both.0, rw both.1 (omega (arith, rest.1, pow-suc 2 (length b))))

pub zero_full : (b : List ℕ) → length b ≡ 64 → fold bit_or 0 b ≡ 0 → 18446744073709551615 ≡ free_word b
zero_full b all e = omega (arith, rw all at (union_zero b 0 e).1)
