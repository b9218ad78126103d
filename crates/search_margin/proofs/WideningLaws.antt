-- Bits widened: by doubling, and to both sides of a word.
-- Assumes nothing.
use Prim.Native.Nat.{ℕ, zero, suc, ◌+◌, ◌-◌, ◌*◌, ◌/◌, ◌%◌, ◌^◌, ◌≤◌, ◌<◌}
use native.Mathlib.Nat.{div-le_self}
use native.Mathlib.Omega.{arith}
use mathlib.Core.Path.{◌≡◌, refl, sym, ap, ap₂, ◌∙◌}
use mathlib.Core.Bool.{Bool, true, false, ◌||◌, or-false, true≢false}
use lib.Bits.{bit_or, or_lt}
use lib.Dec.{ltb, eqb}
use borrow.Author.Tests.{ltb-true, ltb-false, lt-ltb, le-ltb, eqb-true, eqb-false}
use Rattle.meaning.proofs.BasicsLaws.{decide}
use Rattle.search_ticks.specs.Bits.{bit, window_of}
use Rattle.search_ticks.proofs.BitLaws.{or_zero, bit_or_lem, bit_shr, window_low, window_high}
use Rattle.search_ticks.proofs.RowLaws.{zero_bit}
use Rattle.search_margin.specs.Widening.{any_from, bit_of_two, bit_of_three}

-- ---- one of several

or_fails : (x y : Bool) → (x || y) ≡ false → (x ≡ false) × (y ≡ false)
or_fails true y h = absurd (true≢false h)
or_fails false y h = (refl, h)

-- two tests that fail in the same cases are equal
same_fail : (x y : Bool) → (x ≡ false → y ≡ false) → (y ≡ false → x ≡ false) → x ≡ y
same_fail true true f g = refl
same_fail true false f g = g refl
same_fail false y f g = sym (f refl)

-- the test holds nowhere in a run, and at none of its places
pub none_in : (p : ℕ → Bool) (i n x : ℕ) → any_from p i n ≡ false → i ≤ x → x < i + n → p x ≡ false
unfolding any_from
none_in p i zero x h lo hi = absurd (omega arith)
none_in p i (suc n) x h lo hi =
    let both = or_fails (p i) (any_from p (suc i) n) h in
    decide (eqb x i)
    (λ e. let same : x ≡ i = eqb-true x i e in rw same both.0)
    (λ e. let other : x ≡ i → ⊥ = eqb-false x i e in none_in p (suc i) n x both.1 (omega arith) (omega arith))

pub none_from : (p : ℕ → Bool) (i n : ℕ) → ((x : ℕ) → i ≤ x → x < i + n → p x ≡ false) → any_from p i n ≡ false
unfolding any_from
none_from p i zero h = refl
none_from p i (suc n) h = simp (h i (omega arith) (omega arith), none_from p (suc i) n (λ x lo hi. h x (omega arith) (omega arith)))

-- two runs that meet or overlap
any_join : (p : ℕ → Bool) (i k d : ℕ) → d ≤ k → (any_from p i k || any_from p (d + i) k) ≡ any_from p i (k + d)
any_join p i k d h =
    same_fail _ _
    (λ e.
    let both = or_fails (any_from p i k) (any_from p (d + i) k) e in
    none_from p i (k + d) (λ x lo hi.
    decide (ltb x (i + k))
    (λ u. none_in p i k x both.0 lo (ltb-true x (i + k) u))
    (λ u. let late : i + k ≤ x = ltb-false x (i + k) u in none_in p (d + i) k x both.1 (omega arith) (omega arith))))
    (λ e.
    let first : any_from p i k ≡ false = none_from p i k (λ x lo hi. none_in p i (k + d) x e lo (omega arith)) in
    let second : any_from p (d + i) k ≡ false = none_from p (d + i) k (λ x lo hi. none_in p i (k + d) x e (omega arith) (omega arith)) in
    rw (first, second))

any_one : (p : ℕ → Bool) (i : ℕ) → any_from p i 1 ≡ p i
unfolding any_from
any_one p i = or-false (p i)

-- the same run of another test
any_same : (p q : ℕ → Bool) (i j n : ℕ) → ((x : ℕ) → x < n → p (i + x) ≡ q (j + x)) → any_from p i n ≡ any_from q j n
unfolding any_from
any_same p q i j zero h = refl
any_same p q i j (suc n) h =
    let first : p i ≡ q j = ap p (omega arith) ∙ h 0 (omega arith) ∙ ap q (omega arith) in
    let rest : any_from p (suc i) n ≡ any_from q (suc j) n =
    any_same p q (suc i) (suc j) n (λ x lt. ap p (omega arith) ∙ h (suc x) (omega arith) ∙ ap q (omega arith)) in
    ap₂ (λ (a b : Bool). a || b) first rest

-- ---- words one after the other

two_low : (lo hi j : ℕ) → j < 64 → bit_of_two lo hi j ≡ bit lo j
unfolding bit_of_two
two_low lo hi j h = simp (lt-ltb j 64 h)

two_high : (lo hi j : ℕ) → 64 ≤ j → bit_of_two lo hi j ≡ bit hi (j - 64)
unfolding bit_of_two
two_high lo hi j h = simp (le-ltb j 64 h)

three_first : (x y z j : ℕ) → j < 64 → bit_of_three x y z j ≡ bit x j
unfolding bit_of_three
three_first x y z j h = simp (lt-ltb j 64 h)

three_later : (x y z j : ℕ) → 64 ≤ j → bit_of_three x y z j ≡ bit_of_two y z (j - 64)
unfolding bit_of_three
three_later x y z j h = simp (le-ltb j 64 h)

-- three words that hold a test of their bits, one after the other
pub three_hold : (p : ℕ → Bool) (x y z start : ℕ) → ((j : ℕ) → j < 64 → bit x j ≡ p (start + j)) → ((j : ℕ) → j < 64 → bit y j ≡ p (start + 64 + j))
    → ((j : ℕ) → j < 64 → bit z j ≡ p (start + 128 + j)) → (j : ℕ) → j < 192 → bit_of_three x y z j ≡ p (start + j)
three_hold p x y z start f g h j lt =
    decide (ltb j 64)
    (λ u. let first : j < 64 = ltb-true j 64 u in three_first x y z j first ∙ f j first)
    (λ u.
    let later : 64 ≤ j = ltb-false j 64 u in
    three_later x y z j later
    ∙ decide (ltb (j - 64) 64)
    (λ v. let second : j - 64 < 64 = ltb-true (j - 64) 64 v in two_low y z (j - 64) second ∙ g (j - 64) second ∙ ap p (omega arith))
    (λ v. let third : 64 ≤ j - 64 = ltb-false (j - 64) 64 v in two_high y z (j - 64) third ∙ h (j - 64 - 64) (omega arith) ∙ ap p (omega arith)))

window_bit : (lo hi r i : ℕ) → lo < 2 ^ 64 → r < 64 → i < 64 → bit (window_of lo hi r) i ≡ bit_of_two lo hi (r + i)
window_bit lo hi r i fit digit h =
    decide (ltb (r + i) 64)
    (λ e. let low : r + i < 64 = ltb-true (r + i) 64 e in window_low lo hi r i low ∙ sym (two_low lo hi (r + i) low))
    (λ e.
    let high : 64 ≤ r + i = ltb-false (r + i) 64 e in
    let place : i ≡ 64 - r + (r + i - 64) = omega arith in
    ap (λ (x : ℕ). bit (window_of lo hi r) x) place
    ∙ window_high lo hi r (r + i - 64) fit digit (omega arith)
    ∙ sym (two_high lo hi (r + i) high))

window_lt : (lo hi r : ℕ) → lo < 2 ^ 64 → window_of lo hi r < 2 ^ 64
unfolding window_of
window_lt lo hi r fit =
    or_lt 64 (lo / 2 ^ r) (((hi * 2 ^ 1) % 2 ^ 64 * 2 ^ (63 - r)) % 2 ^ 64) (omega (arith, div-le_self lo (2 ^ r))) (omega arith)

-- ---- widening by doubling

-- each bit of two words, joined with the one d later
low_joined : (a b d i : ℕ) → a < 2 ^ 64 → d < 64 → i < 64 → bit (bit_or a (window_of a b d)) i ≡ (bit_of_two a b i || bit_of_two a b (d + i))
low_joined a b d i fit digit h =
    bit_or_lem i a (window_of a b d) ∙ ap₂ (λ (x y : Bool). x || y) (sym (two_low a b i h)) (window_bit a b d i fit digit h)

two_joined : (a b d i : ℕ) → a < 2 ^ 64 → d < 64
    → bit_of_two (bit_or a (window_of a b d)) (bit_or b (b / 2 ^ d)) i ≡ (bit_of_two a b i || bit_of_two a b (d + i))
two_joined a b d i fit digit =
    decide (ltb i 64)
    (λ e. let low : i < 64 = ltb-true i 64 e in two_low _ _ i low ∙ low_joined a b d i fit digit low)
    (λ e.
    let high : 64 ≤ i = ltb-false i 64 e in
    let place : d + (i - 64) ≡ d + i - 64 = omega arith in
    two_high _ _ i high
    ∙ bit_or_lem (i - 64) b (b / 2 ^ d)
    ∙ ap₂ (λ (x y : Bool). x || y) (sym (two_high a b i high)) (bit_shr d (i - 64) b ∙ ap (bit b) place ∙ sym (two_high a b (d + i) (omega arith))))

-- the words a and b are lo and hi, each bit joined with the k - 1 after it
pub record Doubled (lo hi n a b k : ℕ) : Type 0 where
  pub some : 1 ≤ k
  pub most : k ≤ n
  pub fits : a < 2 ^ 64
  pub bits : (i : ℕ) → bit_of_two a b i ≡ any_from (bit_of_two lo hi) i k

pub doubled_one : (lo hi n : ℕ) → lo < 2 ^ 64 → 1 ≤ n → Doubled lo hi n lo hi 1
doubled_one lo hi n fit h = record { some = omega arith; most = h; fits = fit; bits = λ i. sym (any_one (bit_of_two lo hi) i) }

module _ {lo hi n a b k : ℕ} (g : Doubled lo hi n a b k) where
  joined : (d i : ℕ) → d ≤ k → (bit_of_two a b i || bit_of_two a b (d + i)) ≡ any_from (bit_of_two lo hi) i (k + d)
  joined d i few = ap₂ (λ (x y : Bool). x || y) (g.bits i) (g.bits (d + i)) ∙ any_join (bit_of_two lo hi) i k d few

  pub doubled_turn : (w : ℕ) → k ≤ n - k → n ≤ 64 → w ≡ window_of a b k → Doubled lo hi n (bit_or a w) (bit_or b (b / 2 ^ k)) (k + k)
  doubled_turn w more short e =
      let digit : k < 64 = omega (arith, g.some) in
      rw e
      (record {
        some = omega (arith, g.some);
        most = omega (arith, g.most);
        fits = or_lt 64 a (window_of a b k) g.fits (window_lt a b k g.fits);
        bits = λ i. two_joined a b k i g.fits digit ∙ joined k i (omega arith);
      })

  -- the last step: n is less than twice k
  pub spread_done : (w : ℕ) → n - k < k → n ≤ 64 → w ≡ window_of a b (n - k) → (i : ℕ) → i < 64 → bit (bit_or a w) i ≡ any_from (bit_of_two lo hi) i n
  spread_done w few short e i lt =
      let all : k + (n - k) ≡ n = omega (arith, g.most) in
      rw e
      (low_joined a b (n - k) i g.fits (omega (arith, g.some)) lt ∙ joined (n - k) i (omega arith) ∙ ap (any_from (bit_of_two lo hi) i) all)

-- ---- to both sides of a word

-- the two words that begin m bits before `here`
module _ (before here after m : ℕ) (fit : before < 2 ^ 64) (fits : here < 2 ^ 64) (some : 1 ≤ m) (few : m < 32) where
  around : (lo hi i : ℕ) → lo ≡ window_of before here (64 - m) → hi ≡ window_of here after (64 - m) → i < 128
      → bit_of_two lo hi i ≡ bit_of_three before here after (64 - m + i)
  around lo hi i e f h =
      decide (ltb i 64)
      (λ u.
      let low : i < 64 = ltb-true i 64 u in
      two_low lo hi i low
      ∙ ap (λ (w : ℕ). bit w i) e
      ∙ window_bit before here (64 - m) i fit (omega arith) low
      ∙ two_in_three (64 - m + i) (omega arith))
      (λ u.
      let high : 64 ≤ i = ltb-false i 64 u in
      let place : 64 - m + (i - 64) ≡ 64 - m + i - 64 = omega arith in
      two_high lo hi i high
      ∙ ap (λ (w : ℕ). bit w (i - 64)) f
      ∙ window_bit here after (64 - m) (i - 64) fits (omega arith) (omega arith)
      ∙ ap (bit_of_two here after) place
      ∙ sym (three_later before here after (64 - m + i) (omega arith)))
    where
      two_in_three : (j : ℕ) → j < 128 → bit_of_two before here j ≡ bit_of_three before here after j
      two_in_three j lt =
          decide (ltb j 64)
          (λ u. let low : j < 64 = ltb-true j 64 u in two_low before here j low ∙ sym (three_first before here after j low))
          (λ u.
          let high : 64 ≤ j = ltb-false j 64 u in
          two_high before here j high ∙ sym (two_low here after (j - 64) (omega arith)) ∙ sym (three_later before here after j high))

  pub widened_done : (lo hi w : ℕ) → lo ≡ window_of before here (64 - m) → hi ≡ window_of here after (64 - m)
      → ((i : ℕ) → i < 64 → bit w i ≡ any_from (bit_of_two lo hi) i (2 * m + 1))
      → (i : ℕ) → i < 64 → bit w i ≡ any_from (bit_of_three before here after) (64 + i - m) (2 * m + 1)
  widened_done lo hi w e f h i lt =
      h i lt
      ∙ any_same (bit_of_two lo hi) (bit_of_three before here after) i (64 + i - m) (2 * m + 1)
      (λ x u. around lo hi (i + x) e f (omega arith) ∙ ap (bit_of_three before here after) (omega arith))

-- a word widened, where three words hold a test of their bits
pub widened_hold : (p : ℕ → Bool) (x y z start m w : ℕ) → m < 32 → ((j : ℕ) → j < 192 → bit_of_three x y z j ≡ p (start + j))
    → ((i : ℕ) → i < 64 → bit w i ≡ any_from (bit_of_three x y z) (64 + i - m) (2 * m + 1))
    → (i : ℕ) → i < 64 → bit w i ≡ any_from p (start + 64 + i - m) (2 * m + 1)
widened_hold p x y z start m w few h g i lt =
    g i lt
    ∙ any_same (bit_of_three x y z) p (64 + i - m) (start + 64 + i - m) (2 * m + 1) (λ k u. h (64 + i - m + k) (omega arith) ∙ ap p (omega arith))

-- nothing to widen
pub spread_none : (lo hi n : ℕ) → bit_or lo hi ≡ 0 → (i : ℕ) → i < 64 → bit 0 i ≡ any_from (bit_of_two lo hi) i n
spread_none lo hi n e i h =
    let both = or_zero lo hi e in
    zero_bit i
    ∙ sym (none_from (bit_of_two lo hi) i n (λ x low high.
    decide (ltb x 64)
    (λ u. two_low lo hi x (ltb-true x 64 u) ∙ ap (λ (w : ℕ). bit w x) both.0 ∙ zero_bit x)
    (λ u. two_high lo hi x (ltb-false x 64 u) ∙ ap (λ (w : ℕ). bit w (x - 64)) both.1 ∙ zero_bit (x - 64))))
