-- What the operations on words do to their bits.
-- Assumes nothing.
use Rattle.std.proofs.Common.{◌≡◌, ℕ, zero, suc, ◌+◌, ◌-◌, ◌*◌, ◌/◌, ◌%◌, ◌^◌, ◌<◌, ◌≤◌, Bool, true, false, not, ◌&&◌, ◌||◌, ltb, sym, refl, ap, ◌∙◌, add-zero, suc-add, pow-suc, zero-add, div-one, add-one, arith, pow_pos, shr-shr, ltb-false, ltb-true}
use mathlib.Core.Bool.{false≢true, or-false}
use lib.Bits.{bit_and, bit_or, bit_xor, and_le_l, and_le_r, or_add_and, and_step, or_step, xor_step, and_shr, or_shr, xor_shr, shifted_even, shifted_half}
use lib.Pow.{shl-shr, field, mod-mod-pow}
use Rattle.meaning.proofs.BasicsLaws.{and_right}
use Rattle.search_ticks.specs.Bits.{odd, bit, window_of, run_of, fill_of}

-- both words are 0
pub or_zero : (a b : ℕ) → bit_or a b ≡ 0 → (a ≡ 0) × (b ≡ 0)
or_zero a b e = (omega (arith, or_add_and a b, and_le_l a b, and_le_r a b), omega (arith, or_add_and a b, and_le_l a b, and_le_r a b))

-- a digit is 0 or 1
pub digit : {C : Type 0} (a : ℕ) → (a % 2 ≡ 0 → C) → (a % 2 ≡ 1 → C) → C
digit {C} a f g = by (a % 2) refl
  where
    by : (d : ℕ) → a % 2 ≡ d → C
    by zero e = f e
    by (suc zero) e = g e
    by (suc (suc d)) e = absurd (omega arith)

pub even_of : (n : ℕ) → n % 2 ≡ 0 → odd n ≡ false
unfolding odd
even_of n e = rw e

pub odd_of : (n : ℕ) → n % 2 ≡ 1 → odd n ≡ true
unfolding odd
odd_of n e = rw e

-- both digits' cases at once
pub digits : {C : Type 0} (a b : ℕ) → (a % 2 ≡ 0 → b % 2 ≡ 0 → C) → (a % 2 ≡ 0 → b % 2 ≡ 1 → C)
    → (a % 2 ≡ 1 → b % 2 ≡ 0 → C) → (a % 2 ≡ 1 → b % 2 ≡ 1 → C) → C
digits a b f g h k = digit a (λ e. digit b (f e) (g e)) (λ e. digit b (h e) (k e))

odd_same : (a b : ℕ) → a % 2 ≡ b % 2 → odd a ≡ odd b
unfolding odd
odd_same a b e = rw e

odd_and : (a b : ℕ) → odd (bit_and a b) ≡ (odd a && odd b)
odd_and a b = digits a b
    (λ e f. rw (even_of a e) (even_of (bit_and a b) (rw (and_step a b, e, f) (omega arith))))
    (λ e f. rw (even_of a e) (even_of (bit_and a b) (rw (and_step a b, e, f) (omega arith))))
    (λ e f. rw (odd_of a e, even_of b f) (even_of (bit_and a b) (rw (and_step a b, e, f) (omega arith))))
    (λ e f. rw (odd_of a e, odd_of b f) (odd_of (bit_and a b) (rw (and_step a b, e, f) (omega arith))))

odd_or : (a b : ℕ) → odd (bit_or a b) ≡ (odd a || odd b)
odd_or a b = digits a b
    (λ e f. rw (even_of a e, even_of b f) (even_of (bit_or a b) (rw (or_step a b, e, f) (omega arith))))
    (λ e f. rw (even_of a e, odd_of b f) (odd_of (bit_or a b) (rw (or_step a b, e, f) (omega arith))))
    (λ e f. rw (odd_of a e) (odd_of (bit_or a b) (rw (or_step a b, e, f) (omega arith))))
    (λ e f. rw (odd_of a e) (odd_of (bit_or a b) (rw (or_step a b, e, f) (omega arith))))

half_and : (a b : ℕ) → bit_and a b / 2 ≡ bit_and (a / 2) (b / 2)
half_and a b = and_shr a b 1

half_or : (a b : ℕ) → bit_or a b / 2 ≡ bit_or (a / 2) (b / 2)
half_or a b = or_shr a b 1

pub bit_and_lem : (i a b : ℕ) → bit (bit_and a b) i ≡ (bit a i && bit b i)
unfolding bit
bit_and_lem zero a b = odd_and a b
bit_and_lem (suc i) a b = rw (half_and a b) (bit_and_lem i (a / 2) (b / 2))

pub bit_or_lem : (i a b : ℕ) → bit (bit_or a b) i ≡ (bit a i || bit b i)
unfolding bit
bit_or_lem zero a b = odd_or a b
bit_or_lem (suc i) a b = rw (half_or a b) (bit_or_lem i (a / 2) (b / 2))

-- a number has no bits past its size
pub bit_past : (n i a : ℕ) → a < 2 ^ n → n ≤ i → bit a i ≡ false
unfolding bit odd
bit_past zero zero a h l = let z : a ≡ 0 = omega arith in rw z
bit_past zero (suc i) a h l = let z : a ≡ 0 = omega arith in rw z (bit_past zero i 0 (omega arith) (omega arith))
bit_past (suc n) zero a h l = absurd (omega arith)
bit_past (suc n) (suc i) a h l = bit_past n i (a / 2) (let e = pow-suc 2 n in omega arith) (omega arith)

-- a shift to the right
pub bit_shr : (k i a : ℕ) → bit (a / 2 ^ k) i ≡ bit a (k + i)
unfolding bit
bit_shr zero i a = rw (div-one a, zero-add i)
bit_shr (suc k) i a =
    let n : suc k ≡ 1 + k = omega arith in
    let e : a / 2 ^ suc k ≡ a / 2 / 2 ^ k = ap (λ (j : ℕ). a / 2 ^ j) n ∙ sym (shr-shr a 1 k) in
    rw (e, suc-add k i) (bit_shr k i (a / 2))

-- a product with a power of two
pub bit_scaled : (k i a : ℕ) → bit (a * 2 ^ k) (k + i) ≡ bit a i
bit_scaled k i a = sym (bit_shr k i (a * 2 ^ k)) ∙ rw (shl-shr a k)

pub bit_scaled_low : (k i a : ℕ) → i < k → bit (a * 2 ^ k) i ≡ false
unfolding bit
bit_scaled_low zero i a h = absurd (omega arith)
bit_scaled_low (suc k) zero a h = even_of _ (shifted_even a k)
bit_scaled_low (suc k) (suc i) a h = rw (shifted_half a k) (bit_scaled_low k i a (omega arith))

-- a remainder keeps the bits below
pub bit_rem : (n i a : ℕ) → i < n → bit (a % 2 ^ n) i ≡ bit a i
unfolding bit
bit_rem zero i a h = absurd (omega arith)
bit_rem (suc n) zero a h = odd_same (a % 2 ^ suc n) a (rw (← add-one n) (mod-mod-pow a n 1))
bit_rem (suc n) (suc i) a h =
    let e : a % 2 ^ suc n / 2 ≡ a / 2 % 2 ^ n = rw (← add-one n) (field a n 1) in
    rw e (bit_rem n i (a / 2) (omega arith))

-- ---- the window of two words

upper_low : (hi r i : ℕ) → r + i < 64 → bit (((hi * 2 ^ 1) % 2 ^ 64 * 2 ^ (63 - r)) % 2 ^ 64) i ≡ false
upper_low hi r i h = bit_rem 64 i _ (omega arith) ∙ by (ltb i (63 - r)) refl
  where
    z : ℕ
    z = (hi * 2 ^ 1) % 2 ^ 64

    by : (b : Bool) → ltb i (63 - r) ≡ b → bit ((hi * 2 ^ 1) % 2 ^ 64 * 2 ^ (63 - r)) i ≡ false
    by true e = bit_scaled_low (63 - r) i _ (ltb-true i (63 - r) e)
    by false e =
        let f : i ≡ (63 - r) + 0 = omega (arith, ltb-false i (63 - r) e) in
        ap (λ (x : ℕ). bit ((hi * 2 ^ 1) % 2 ^ 64 * 2 ^ (63 - r)) x) f
        ∙ bit_scaled (63 - r) 0 _ ∙ bit_rem 64 0 (hi * 2 ^ 1) (omega arith) ∙ bit_scaled_low 1 0 hi (omega arith)

upper_high : (hi r j : ℕ) → r < 64 → j < r → bit (((hi * 2 ^ 1) % 2 ^ 64 * 2 ^ (63 - r)) % 2 ^ 64) (64 - r + j) ≡ bit hi j
upper_high hi r j a h =
    let f : 64 - r + j ≡ (63 - r) + (1 + j) = omega arith in
    bit_rem 64 (64 - r + j) _ (omega arith)
    ∙ ap (λ (x : ℕ). bit ((hi * 2 ^ 1) % 2 ^ 64 * 2 ^ (63 - r)) x) f
    ∙ bit_scaled (63 - r) (1 + j) _ ∙ bit_rem 64 (1 + j) (hi * 2 ^ 1) (omega arith) ∙ bit_scaled 1 j hi

pub window_low : (lo hi r i : ℕ) → r + i < 64 → bit (window_of lo hi r) i ≡ bit lo (r + i)
unfolding window_of
window_low lo hi r i h = bit_or_lem i (lo / 2 ^ r) (((hi * 2 ^ 1) % 2 ^ 64 * 2 ^ (63 - r)) % 2 ^ 64) ∙ rw (bit_shr r i lo, upper_low hi r i h) (or-false _)

pub window_high : (lo hi r j : ℕ) → lo < 2 ^ 64 → r < 64 → j < r → bit (window_of lo hi r) (64 - r + j) ≡ bit hi j
unfolding window_of
window_high lo hi r j l a h =
    let p : bit lo (r + (64 - r + j)) ≡ false = bit_past 64 _ lo l (omega arith) in
    bit_or_lem (64 - r + j) (lo / 2 ^ r) (((hi * 2 ^ 1) % 2 ^ 64 * 2 ^ (63 - r)) % 2 ^ 64) ∙ rw (bit_shr r (64 - r + j) lo, p, upper_high hi r j a h)

-- ---- waits by one addition

abbrev pub xor : Bool → Bool → Bool
xor true b = not b
xor false b = b

abbrev pub num : Bool → ℕ
num true = 1
num false = 0

odd_xor : (a b : ℕ) → odd (bit_xor a b) ≡ xor (odd a) (odd b)
odd_xor a b = digits a b
    (λ e f. rw (even_of a e, even_of b f) (even_of (bit_xor a b) (rw (xor_step a b, e, f) (omega arith))))
    (λ e f. rw (even_of a e, odd_of b f) (odd_of (bit_xor a b) (rw (xor_step a b, e, f) (omega arith))))
    (λ e f. rw (odd_of a e, even_of b f) (odd_of (bit_xor a b) (rw (xor_step a b, e, f) (omega arith))))
    (λ e f. rw (odd_of a e, odd_of b f) (even_of (bit_xor a b) (rw (xor_step a b, e, f) (omega arith))))

pub bit_xor_lem : (i a b : ℕ) → bit (bit_xor a b) i ≡ xor (bit a i) (bit b i)
unfolding bit
bit_xor_lem zero a b = odd_xor a b
bit_xor_lem (suc i) a b = rw (xor_shr a b 1) (bit_xor_lem i (a / 2) (b / 2))

-- a word with every bit
pub bit_full : (n i : ℕ) → i < n → bit (2 ^ n - 1) i ≡ true
unfolding bit
bit_full zero i h = absurd (omega arith)
bit_full (suc n) zero h = odd_of _ (let e = pow-suc 2 n in omega (arith, pow_pos n))
bit_full (suc n) (suc i) h =
    let e : (2 ^ suc n - 1) / 2 ≡ 2 ^ n - 1 = (let p = pow-suc 2 n in omega (arith, pow_pos n)) in
    rw e (bit_full n i (omega arith))

-- the carry into bit i of f + x + c
unfoldable pub carry : ℕ → ℕ → ℕ → Bool → Bool
carry zero f x c = c
carry (suc i) f x c = carry i (f / 2) (x / 2) (odd f && (odd x || c))

-- x has no bit that f lacks
abbrev pub Under : ℕ → ℕ → Type 0
Under x f = (i : ℕ) → bit x i ≡ true → bit f i ≡ true

module _ where
  -- one digit of the sum
  sum_digit : (f x : ℕ) (c : Bool) → odd (f + x + num c) ≡ xor (xor (odd f) (odd x)) c
  sum_digit f x true = digits f x
      (λ e h. rw (even_of f e, even_of x h) (odd_of (f + x + 1) (omega arith)))
      (λ e h. rw (even_of f e, odd_of x h) (even_of (f + x + 1) (omega arith)))
      (λ e h. rw (odd_of f e, even_of x h) (even_of (f + x + 1) (omega arith)))
      (λ e h. rw (odd_of f e, odd_of x h) (odd_of (f + x + 1) (omega arith)))
  sum_digit f x false = digits f x
      (λ e h. rw (even_of f e, even_of x h) (even_of (f + x + 0) (omega arith)))
      (λ e h. rw (even_of f e, odd_of x h) (odd_of (f + x + 0) (omega arith)))
      (λ e h. rw (odd_of f e, even_of x h) (odd_of (f + x + 0) (omega arith)))
      (λ e h. rw (odd_of f e, odd_of x h) (even_of (f + x + 0) (omega arith)))

  sum_half : (f x : ℕ) (c : Bool) → (odd x ≡ true → odd f ≡ true) → (f + x + num c) / 2 ≡ f / 2 + x / 2 + num (odd f && (odd x || c))
  sum_half f x c u = digits f x
      (λ e h. rw (even_of f e) (low c e h))
      (λ e h. absurd (false≢true (sym (even_of f e) ∙ u (odd_of x h))))
      (λ e h. rw (odd_of f e, even_of x h) (mid c e h))
      (λ e h. rw (odd_of f e, odd_of x h) (top c e h))
    where
      low : (c : Bool) → f % 2 ≡ 0 → x % 2 ≡ 0 → (f + x + num c) / 2 ≡ f / 2 + x / 2 + 0
      low true e h = omega arith
      low false e h = omega arith

      mid : (c : Bool) → f % 2 ≡ 1 → x % 2 ≡ 0 → (f + x + num c) / 2 ≡ f / 2 + x / 2 + num c
      mid true e h = omega arith
      mid false e h = omega arith

      top : (c : Bool) → f % 2 ≡ 1 → x % 2 ≡ 1 → (f + x + num c) / 2 ≡ f / 2 + x / 2 + 1
      top true e h = omega arith
      top false e h = omega arith

sum_bit : (i f x : ℕ) (c : Bool) → Under x f → bit (f + x + num c) i ≡ xor (xor (bit f i) (bit x i)) (carry i f x c)
unfolding bit carry
sum_bit zero f x c u = sum_digit f x c
sum_bit (suc i) f x c u = rw (sum_half f x c (u zero)) (sum_bit i (f / 2) (x / 2) _ (λ j. u (suc j)))

-- the carry out of a bit
carry_next : (i f x : ℕ) (c : Bool) → carry (suc i) f x c ≡ (bit f i && (bit x i || carry i f x c))
unfolding bit carry
carry_next zero f x c = refl
carry_next (suc i) f x c = carry_next i (f / 2) (x / 2) (odd f && (odd x || c))

table : (f x c : Bool) → ((xor (xor (xor f x) c) f || x) && f) ≡ (f && (x || c))
table true true true = refl
table true true false = refl
table true false true = refl
table true false false = refl
table false true true = refl
table false true false = refl
table false false true = refl
table false false false = refl

run_carry : (i f x : ℕ) → i < 64 → Under x f → bit (run_of f x) i ≡ carry (suc i) f x false
unfolding run_of
run_carry i f x h u =
    let s : bit ((f + x) % 2 ^ 64) i ≡ xor (xor (bit f i) (bit x i)) (carry i f x false) =
    bit_rem 64 i (f + x) h ∙ ap (λ (n : ℕ). bit n i) (sym (add-zero (f + x))) ∙ sum_bit i f x false u in
    bit_and_lem i (bit_or (bit_xor ((f + x) % 2 ^ 64) f) x) f
    ∙ rw (bit_or_lem i (bit_xor ((f + x) % 2 ^ 64) f) x, bit_xor_lem i ((f + x) % 2 ^ 64) f, s, carry_next i f x false) (table (bit f i) (bit x i) (carry i f x false))

under_and : (a f : ℕ) → Under (bit_and a f) f
under_and a f i h = and_right (bit a i) (bit f i) (sym (bit_and_lem i a f) ∙ h)

one_table : (f x c : Bool) → (f && (((x || c) && f) || false)) ≡ (f && (x || c))
one_table true true c = refl
one_table true false true = refl
one_table true false false = refl
one_table false x c = refl

next_table : (f x c : Bool) → (f && (((x || false) && f) || c)) ≡ (f && (x || c))
next_table true true c = refl
next_table true false c = refl
next_table false x c = refl

start : (f x : ℕ) → carry 0 f x false ≡ false
unfolding carry
start f x = refl

pub fill_first : (f x c : ℕ) → bit (fill_of f x c) 0 ≡ (bit f 0 && (bit x 0 || bit c 0))
unfolding fill_of
fill_first f x c =
    run_carry 0 f (bit_and (bit_or x c) f) (omega arith) (under_and (bit_or x c) f) ∙ carry_next 0 f (bit_and (bit_or x c) f) false
    ∙ rw (bit_and_lem 0 (bit_or x c) f, bit_or_lem 0 x c, start f (bit_and (bit_or x c) f)) (one_table (bit f 0) (bit x 0) (bit c 0))

pub fill_next : (i f x c : ℕ) → c < 2 → suc i < 64 → bit (fill_of f x c) (suc i) ≡ (bit f (suc i) && (bit x (suc i) || bit (fill_of f x c) i))
unfolding fill_of
fill_next i f x c l h =
    let below = run_carry i f (bit_and (bit_or x c) f) (omega arith) (under_and (bit_or x c) f) in
    run_carry (suc i) f (bit_and (bit_or x c) f) h (under_and (bit_or x c) f) ∙ carry_next (suc i) f (bit_and (bit_or x c) f) false
    ∙ rw (bit_and_lem (suc i) (bit_or x c) f, bit_or_lem (suc i) x c, bit_past 1 (suc i) c l (omega arith), ← below)
    (next_table (bit f (suc i)) (bit x (suc i)) (bit (run_of f (bit_and (bit_or x c) f)) i))
