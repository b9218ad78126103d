-- The loop that changes a row word by word, the bits of the changed row, and the sum of the words, which grows with every new bit.
-- Assumes nothing.
use Rattle.std.proofs.Common.{◌≡◌, ℕ, zero, suc, ◌+◌, ◌-◌, ◌*◌, ◌/◌, ◌%◌, ◌<◌, ◌≤◌, Bool, false, eqb, ltb, List, [], ◌∷◌, length, get_or, set, replicate, sym, refl, ap, ◌∙◌, ap₂, suc-mul, add-one, arith, length-set, get_or-set_other, get_or-set_same, ltb-false, ltb-true, eqb-true}
use lib.Bits.{bit_or, bit_xor, and_le_l, and_le_r, or_add_and, xor_add_and, xor_self}
use lib.ListN.{length-replicate, get_or-replicate, get_or-eq_default}
use lib.Seq.{set-get_or}
use borrow.Author.Tests.{eqb-false}
use Rattle.meaning.proofs.BasicsLaws.{decide}
use Rattle.search_sizes.specs.Sizes.{block_ticks}
use Rattle.search_ticks.specs.Bits.{bit, window_of}
use Rattle.search_ticks.specs.Rows.{at, Words, total, Grown, Put}
use Rattle.search_ticks.proofs.BitLaws.{or_zero, bit_past, window_low, window_high}

pub zeros_at : (n i : ℕ) → get_or (replicate {A = ℕ} n 0) i 0 ≡ 0
zeros_at n i =
    decide (ltb i n)
    (λ e. get_or-replicate {A = ℕ} n i 0 0 (ltb-true i n e))
    (λ e. get_or-eq_default (replicate n 0) 0 {n = i} (omega (arith, ltb-false i n e, length-replicate {A = ℕ} n 0)))

pub zero_bit : (i : ℕ) → bit 0 i ≡ false
zero_bit i = bit_past 0 i 0 (omega arith) (omega arith)

-- ---- words i to i + k of the row at b become g of their number and what they were
unfoldable pub map_row : (ℕ → ℕ → ℕ) → ℕ → ℕ → ℕ → List ℕ → List ℕ
map_row g b zero i l = l
map_row g b (suc k) i l = map_row g b k (suc i) (set l (b + i) (g i (get_or l (b + i) 0)))

module _ (g : ℕ → ℕ → ℕ) (b : ℕ) where
  pub map_length : (k i : ℕ) (l : List ℕ) → length (map_row g b k i l) ≡ length l
  unfolding map_row
  map_length zero i l = refl
  map_length (suc k) i l = map_length k (suc i) _ ∙ length-set l (b + i) _

  pub map_before : (k i : ℕ) (l : List ℕ) (j : ℕ) → j < b + i → get_or (map_row g b k i l) j 0 ≡ get_or l j 0
  unfolding map_row
  map_before zero i l j h = refl
  map_before (suc k) i l j h = map_before k (suc i) _ j (omega arith) ∙ get_or-set_other l (b + i) j _ 0 (λ e. omega arith)

  map_after : (k i : ℕ) (l : List ℕ) (j : ℕ) → b + i + k ≤ j → get_or (map_row g b k i l) j 0 ≡ get_or l j 0
  unfolding map_row
  map_after zero i l j h = refl
  map_after (suc k) i l j h = map_after k (suc i) _ j (omega arith) ∙ get_or-set_other l (b + i) j _ 0 (λ e. omega arith)

  map_in : (k i : ℕ) (l : List ℕ) (j : ℕ) → b + i + k ≤ length l → i ≤ j → j < i + k → get_or (map_row g b k i l) (b + j) 0 ≡ g j (get_or l (b + j) 0)
  unfolding map_row
  map_in zero i l j n a h = absurd (omega arith)
  map_in (suc k) i l j n a h =
      let v : ℕ = g i (get_or l (b + i) 0) in
      let m : length (set l (b + i) (g i (get_or l (b + i) 0))) ≡ length l = length-set l (b + i) _ in
      decide (ltb i j)
      (λ e.
      let lt : i < j = ltb-true i j e in
      map_in k (suc i) (set l (b + i) (g i (get_or l (b + i) 0))) j (omega arith) lt (omega arith)
      ∙ ap (g j) (get_or-set_other l (b + i) (b + j) _ 0 (λ x. omega arith)))
      (λ e.
      let eq : j ≡ i = omega (arith, ltb-false i j e) in
      rw eq (map_before k (suc i) (set l (b + i) (g i (get_or l (b + i) 0))) (b + i) (omega arith) ∙ get_or-set_same l (b + i) _ 0 (omega arith)))

  -- the loop's turns, by what is left to do
  pub map_turn : (i : ℕ) (l : List ℕ) (w : List ℕ) → i < 4 → map_row g b (4 - i) i l ≡ w → map_row g b (4 - (i + 1)) (i + 1) (set l (b + i) (g i (get_or l (b + i) 0))) ≡ w
  unfolding map_row
  map_turn i l w h e =
      let n : 4 - i ≡ suc (4 - (i + 1)) = omega arith in
      let z : map_row g b (suc (4 - (i + 1))) i l ≡ w = sym (ap (λ (k : ℕ). map_row g b k i l) n) ∙ e in
      step (4 - (i + 1)) z
    where
      step : (k : ℕ) → map_row g b (suc k) i l ≡ w → map_row g b k (i + 1) (set l (b + i) (g i (get_or l (b + i) 0))) ≡ w
      step k z = rw (add-one i) z

  pub map_end : (i : ℕ) (l w : List ℕ) → 4 ≤ i → i ≤ 4 → map_row g b (4 - i) i l ≡ w → l ≡ w
  unfolding map_row
  map_end i l w a h e =
      let n : 4 - i ≡ 0 = omega arith in
      shut (4 - i) n e
    where
      shut : (k : ℕ) → k ≡ 0 → map_row g b k i l ≡ w → l ≡ w
      shut zero n z = z
      shut (suc k) n z = absurd (omega arith)

  -- the bits of a changed row, and of the others
  pub map_bit : (l : List ℕ) (j : ℕ) → b + 4 ≤ length l → b * 64 ≤ j → j < b * 64 + block_ticks → at (map_row g b 4 0 l) j ≡ bit (g (j / 64 - b) (get_or l (j / 64) 0)) (j % 64)
  unfolding at
  map_bit l j n a h =
      let e : j / 64 ≡ b + (j / 64 - b) = omega arith in
      ap (λ (x : ℕ). bit x (j % 64))
      (ap (λ (x : ℕ). get_or (map_row g b 4 0 l) x 0) e
      ∙ map_in 4 0 l (j / 64 - b) (omega arith) (omega arith) (omega arith)
      ∙ ap (λ (x : ℕ). g (j / 64 - b) (get_or l x 0)) (sym e))

  pub map_bit_before : (l : List ℕ) (j : ℕ) → j < b * 64 → at (map_row g b 4 0 l) j ≡ at l j
  unfolding at
  map_bit_before l j h = ap (λ (x : ℕ). bit x (j % 64)) (map_before 4 0 l (j / 64) (omega arith))

  pub map_bit_after : (l : List ℕ) (j : ℕ) → b * 64 + block_ticks ≤ j → at (map_row g b 4 0 l) j ≡ at l j
  unfolding at
  map_bit_after l j h = ap (λ (x : ℕ). bit x (j % 64)) (map_after 4 0 l (j / 64) (omega arith))

-- ---- a window of a list of words
pub window_at : (l : List ℕ) (w r i : ℕ) → Words l → r < 64 → i < 64 → bit (window_of (get_or l w 0) (get_or l (w + 1) 0) r) i ≡ at l (w * 64 + r + i)
unfolding at
window_at l w r i fit a h = decide (ltb (r + i) 64)
    (λ e.
    let lt : r + i < 64 = ltb-true (r + i) 64 e in
    let d : (w * 64 + r + i) / 64 ≡ w = omega arith in
    let m : (w * 64 + r + i) % 64 ≡ r + i = omega arith in
    window_low (get_or l w 0) (get_or l (w + 1) 0) r i lt ∙ rw (d, m))
    (λ e.
    let ge : 64 ≤ r + i = ltb-false (r + i) 64 e in
    let d : (w * 64 + r + i) / 64 ≡ w + 1 = omega arith in
    let m : (w * 64 + r + i) % 64 ≡ r + i - 64 = omega arith in
    let n : i ≡ 64 - r + (r + i - 64) = omega arith in
    ap (λ (x : ℕ). bit (window_of (get_or l w 0) (get_or l (w + 1) 0) r) x) n
    ∙ window_high (get_or l w 0) (get_or l (w + 1) 0) r (r + i - 64) (fit w) a (omega arith) ∙ rw (d, m))

-- ---- a loop that has changed four words from place b on

pub put_done : (g : ℕ → ℕ → ℕ) (l₀ l : List ℕ) (b : ℕ) (test : ℕ → Bool) → b + 4 ≤ length l₀ → l ≡ map_row g b 4 0 l₀
    → ((i : ℕ) → i < block_ticks → bit (g (i / 64) (get_or l₀ (b + i / 64) 0)) (i % 64) ≡ test i) → Put l₀ l (b * 64) test
put_done g l₀ l b test room e h =
    record {
      here = λ i lt.
          let word : (b * 64 + i) / 64 - b ≡ i / 64 = omega arith in
          let place : (b * 64 + i) / 64 ≡ b + i / 64 = omega arith in
          let digit : (b * 64 + i) % 64 ≡ i % 64 = omega arith in
          ap (λ (k : List ℕ). at k (b * 64 + i)) e
          ∙ map_bit g b l₀ (b * 64 + i) room (omega arith) (omega arith)
          ∙ ap₂ (λ (x y : ℕ). bit x y) (ap₂ (λ (x y : ℕ). g x (get_or l₀ y 0)) word place) digit
          ∙ h i lt;
      before = λ j lt. ap (λ (k : List ℕ). at k j) e ∙ map_bit_before g b l₀ j lt;
      after = λ j le. ap (λ (k : List ℕ). at k j) e ∙ map_bit_after g b l₀ j le;
      sized = ap length e ∙ map_length g b 4 0 l₀;
    }

-- ---- the sum of the words
total_set : (l : List ℕ) (i v : ℕ) → i < length l → total (set l i v) + get_or l i 0 ≡ total l + v
unfolding total
total_set [] i v h = absurd (omega arith)
total_set (x ∷ l) zero v h = omega arith
total_set (x ∷ l) (suc i) v h = omega (arith, total_set l i v (omega arith))

pub total_bound : (l : List ℕ) (n : ℕ) → ((i : ℕ) → get_or l i 0 < n) → total l ≤ length l * n
unfolding total
total_bound [] n h = omega arith
total_bound (x ∷ l) n h = omega (arith, h 0, total_bound l n (λ i. h (suc i)), suc-mul (length l) n)

pub grown_start : (l : List ℕ) → Grown l l 0
grown_start l = record { same = λ e. refl; more = λ h. absurd (omega arith); sized = refl }

pub grown_turn : (l₀ l : List ℕ) (d k y : ℕ) → k < length l → Grown l₀ l d → Grown l₀ (set l k (bit_or (get_or l k 0) y)) (bit_or d (bit_xor (bit_or (get_or l k 0) y) (get_or l k 0)))
grown_turn l₀ l d k y h g = go (get_or l k 0) (bit_or (get_or l k 0) y) refl (or_ge (get_or l k 0) y)
  where
    or_ge : (a b : ℕ) → a ≤ bit_or a b
    or_ge a b = omega (arith, or_add_and a b, and_le_r a b)

    xor_same : (a b : ℕ) → bit_xor a b ≡ 0 → a ≡ b
    xor_same a b e = omega (arith, xor_add_and a b, and_le_l a b, and_le_r a b)

    go : (old new : ℕ) → get_or l k 0 ≡ old → old ≤ new → Grown l₀ (set l k new) (bit_or d (bit_xor new old))
    go old new e ge = record {
      same = λ z. let p = or_zero d (bit_xor new old) z in
          let q : new ≡ get_or l k 0 = xor_same new old p.1 ∙ sym e in
          ap (λ (x : ℕ). set l k x) q ∙ set-get_or l k 0 ∙ g.same p.0;
      more = λ z. decide (eqb d 0)
          (λ u. let dz : d ≡ 0 = eqb-true d 0 u in
          let ne : new ≡ old → ⊥ =
          λ x.
          let w : bit_or d (bit_xor new old) ≡ 0 =
          ap (λ (n : ℕ). bit_or n (bit_xor new old)) dz ∙ ap (λ (n : ℕ). bit_xor n old) x ∙ xor_self old in
          omega arith in
          let s : l ≡ l₀ = g.same dz in
          let t = ap total s in
          omega (arith, total_set l k new h))
          (λ u. omega (arith, eqb-false d 0 u, g.more (omega (arith, eqb-false d 0 u)), total_set l k new h));
      sized = length-set l k new ∙ g.sized;
    }

-- ---- the words from place b on joined with others

module _ (g : ℕ → ℕ) (b : ℕ) where
  abbrev pub join_word : ℕ → ℕ → ℕ
  join_word i w = bit_or w (g i)

  -- i words are joined, and those that follow are as at the start
  pub record Joining (l₀ l : List ℕ) (d i : ℕ) : Type 0 where
    pub grown : Grown l₀ l d
    pub left : map_row join_word b (4 - i) i l ≡ map_row join_word b 4 0 l₀
    pub rest : (j : ℕ) → i ≤ j → get_or l (b + j) 0 ≡ get_or l₀ (b + j) 0

  pub joining_start : (l : List ℕ) → Joining l l 0 0
  joining_start l = record { grown = grown_start l; left = refl; rest = λ j h. refl }

  pub joining_turn : {l : List ℕ} {d : ℕ} (l₀ : List ℕ) (i x : ℕ) → i < 4 → b + i < length l → x ≡ g i → Joining l₀ l d i
      → Joining l₀ (set l (b + i) (bit_or (get_or l (b + i) 0) x)) (bit_or d (bit_xor (bit_or (get_or l (b + i) 0) x) (get_or l (b + i) 0))) (i + 1)
  joining_turn {l} {d} l₀ i x h n e s =
      rw e
      (record {
        grown = grown_turn l₀ l d (b + i) (g i) n s.grown;
        left = map_turn join_word b i l (map_row join_word b 4 0 l₀) h s.left;
        rest = λ j later. get_or-set_other l (b + i) (b + j) _ 0 (λ e. omega arith) ∙ s.rest j (omega arith);
      })

  pub put_joined : (l₀ l : List ℕ) (d i : ℕ) (test : ℕ → Bool) → b + 4 ≤ length l₀ → 4 ≤ i → i ≤ 4 → Joining l₀ l d i
      → ((j : ℕ) → j < block_ticks → bit (bit_or (get_or l₀ (b + j / 64) 0) (g (j / 64))) (j % 64) ≡ test j) → Put l₀ l (b * 64) test
  put_joined l₀ l d i test room past most s h =
      put_done join_word l₀ l b test room (map_end join_word b i l (map_row join_word b 4 0 l₀) past most s.left) h
