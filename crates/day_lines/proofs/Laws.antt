-- Laws of a line's text: a number's digits, what is written after what stands there, and the whole line.
-- Assumes nothing.
use Prim.Native.Nat.{ℕ, zero, suc, ◌+◌, ◌-◌, ◌*◌, ◌/◌, ◌%◌, ◌^◌, ◌≤◌, ◌<◌}
use native.Mathlib.Omega.{arith}
use native.Mathlib.Nat.{pow-succ', one-le-pow, pow-le-pow_right}
use native.Mathlib.Numerals.{sub-one}
use mathlib.Core.Path.{◌≡◌, sym, ap, ◌∙◌}
use mathlib.Core.List.{List, [], ◌∷◌, ◌++◌, append_assoc}
use lib.ListN.{length, take, set, length-append}
use lib.Seq.{length-take-le, take_at}
use lib.Dec.{leb}
use borrow.Author.Tests.{lt-ltb, le-ltb, leb-true, leb-false}
use Rattle.day_lines.specs.Digits.{hex_digit_ascii, last_digits, IsDigitCount}
use Rattle.meaning.proofs.BasicsLaws.{decide}
use Rattle.meaning.specs.Day.{decimal_by, decimal, text_of}

-- ---- a number's digits

glyph_decimal : (n : ℕ) → hex_digit_ascii (n % 10) ≡ 48 + n % 10
glyph_decimal n = simp (lt-ltb (n % 10) 10 (omega arith))

-- a number below 10 has one digit
pub digit_alone : (digits : List ℕ) (n : ℕ) → 0 < length digits → n < 10 → take 1 (set digits 0 (48 + n)) ≡ hex_digit_ascii (n % 10) ∷ []
digit_alone [] n room h = absurd (omega arith)
digit_alone (d ∷ ds) n room h =
    let same : n % 10 ≡ n = omega arith in
    ap (λ (m : ℕ). m ∷ []) (sym (glyph_decimal n ∙ ap (λ (m : ℕ). 48 + m) same))

-- the first of two or more digits is not 0
fewest_least : (k n : ℕ) → IsDigitCount 10 1 n (suc (suc k)) → 10 * 10 ^ k ≤ n
fewest_least k n h = rw (sub-one, pow-succ' 10 k) at (h.2 (omega arith))

-- a tenth of the number has one digit less
fewest_tenth : (k n : ℕ) → IsDigitCount 10 1 n (suc (suc k)) → IsDigitCount 10 1 (n / 10) (suc k)
fewest_tenth k n h = (
  omega arith,
  omega (arith, h.1, pow-succ' 10 (suc k)),
  λ more. rw sub-one (omega (arith, fewest_least k n h)),
)

-- the fewest digits are those of the meaning, for any bound above the number
spelled : (k bound n : ℕ) → IsDigitCount 10 1 n k → n < bound → last_digits 10 k n ≡ decimal_by bound n
spelled zero bound n h below = absurd (omega arith)
spelled (suc k) zero n h below = absurd (omega arith)
spelled (suc zero) (suc bound) n h below = simp (lt-ltb n 10 h.1, glyph_decimal n)
spelled (suc (suc k)) (suc bound) n h below =
    let ten : 10 ≤ n = omega (arith, fewest_least k n h, one-le-pow k 10 (omega arith)) in
    simp (le-ltb n 10 ten, glyph_decimal n)
    (ap (λ (front : List ℕ). front ++ ((48 + n % 10) ∷ []))
    (spelled (suc k) bound (n / 10) (fewest_tenth k n h) (omega arith)))

digits_decimal : (n k : ℕ) → IsDigitCount 10 1 n k → last_digits 10 k n ≡ decimal n
unfolding decimal
digits_decimal n k h = spelled k (suc n) n h (omega arith)

-- a number of 64 bits has no more than 20
pub at_most_twenty : (n k : ℕ) → n < 2 ^ 64 → IsDigitCount 10 1 n k → k ≤ 20
at_most_twenty n k small h =
    decide (leb k 20) (λ e. leb-true k 20 e)
    (λ e.
    let more : 20 < k = leb-false k 20 e in
    absurd (omega (arith, h.2 (omega arith), pow-le-pow_right {n = 10} (omega arith) {i = 20} {j = k - 1} (omega arith))))

-- ---- a number's digits after what stands there

-- a text put at a place stands after what was there before it
put_after : (at : ℕ) (line text rest : List ℕ) → at ≤ length line
    → take (at + length text) (take at line ++ (text ++ rest)) ≡ take at line ++ text
put_after at line text rest h =
    ap (take (at + length text)) (sym (append_assoc (take at line) text rest))
    ∙ take_at (take at line ++ text) rest (at + length text) (length-append (take at line) text ∙ ap (λ (n : ℕ). n + length text) (length-take-le at line h))

-- the digits are copied to the front of what is left of the line
pub number_put : (at n count size : ℕ) (line text kept last rest : List ℕ)
    → at ≤ length line
    → IsDigitCount 10 1 n count
    → text ≡ last_digits 10 count n
    → size ≡ length text
    → last ≡ text ++ kept
    → take (at + size) (take at line ++ (last ++ rest)) ≡ take at line ++ decimal n
number_put at n count size line text kept last rest room fewest spelt long copied =
    rw (copied, long)
    (ap (λ (l : List ℕ). take (at + length text) (take at line ++ l)) (append_assoc text kept rest)
    ∙ put_after at line text (kept ++ rest) room
    ∙ ap (λ (l : List ℕ). take at line ++ l) (spelt ∙ digits_decimal n count fewest))

-- ---- the whole line, number by number

pub line_text : (number edition arrival : ℕ) (a b c d e f : List ℕ)
    → a ≡ decimal number
    → b ≡ a ++ (32 ∷ [])
    → c ≡ b ++ decimal edition
    → d ≡ c ++ (32 ∷ [])
    → e ≡ d ++ decimal arrival
    → f ≡ e ++ (10 ∷ [])
    → f ≡ text_of (record { number = number; edition = edition; arrival = arrival })
line_text number edition arrival a b c d e f ea eb ec ed ee ef =
    rw (ef, ee, ed, ec, eb, ea) (simp append_assoc)
