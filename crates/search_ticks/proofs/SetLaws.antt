-- What each loop over the words of a row does to the set of ticks.
-- Assumes nothing.
use Rattle.std.proofs.Common.{◌≡◌, ℕ, zero, suc, ◌+◌, ◌-◌, ◌*◌, ◌/◌, ◌%◌, ◌^◌, ◌<◌, ◌≤◌, Bool, true, false, ◌&&◌, ◌||◌, eqb, ltb, List, length, get_or, set, sym, refl, ap, ◌∙◌, ap₂, add-zero, add-one, arith, length-set, get_or-set_other, get_or-set_same, ltb-false, ltb-true, eq-eqb, ne_eqb, eqb-true}
use mathlib.Core.Bool.{false≢true, or-false, and_comm}
use lib.Bits.{bit_and, bit_or, bit_xor, and_le_r, xor_add_and}
use Rattle.std.proofs.lemmas.Nat.{and_mask}
use borrow.Author.Tests.{eqb-false}
use Rattle.meaning.proofs.BasicsLaws.{decide, and_left, and_right, same_test}
use Rattle.search_sizes.specs.Sizes.{block_words, block_ticks, blocks, window_words, window_ticks, row_words, row_ticks, ticks, block_start, span_limit}
use Rattle.search_ticks.specs.Bits.{odd, bit, window_of, run_of, fill_of}
use Rattle.search_ticks.specs.Rows.{at, has, Words, Grown, Put, Changed, pushed, waited, filled, Seeded}
use Rattle.search_ticks.proofs.BitLaws.{or_zero, bit_and_lem, bit_or_lem, bit_xor_lem, bit_shr, bit_rem, bit_scaled, bit_scaled_low, bit_past, bit_full, xor, fill_first, fill_next}
use Rattle.search_ticks.proofs.RowLaws.{zero_bit, map_row, map_turn, map_end, put_done, window_at, grown_start, grown_turn, Joining, put_joined}

-- ---- places

-- the bits of the words from w on
pub word_bit : (l : List ℕ) (w i : ℕ) → bit (get_or l (w + i / 64) 0) (i % 64) ≡ at l (w * 64 + i)
unfolding at
word_bit l w i =
    let place : w + i / 64 ≡ (w * 64 + i) / 64 = omega arith in
    let digit : i % 64 ≡ (w * 64 + i) % 64 = omega arith in
    ap₂ (λ (x y : ℕ). bit (get_or l x 0) y) place digit

-- the bits of row s, from a word w that is u positions behind its start
pub row_bit : (l : List ℕ) (s w u i : ℕ) → w * 64 ≡ s * row_ticks + u → bit (get_or l (w + i / 64) 0) (i % 64) ≡ has l s (u + i)
unfolding has
row_bit l s w u i e = word_bit l w i ∙ ap (at l) (omega arith)

-- a block that is put is a block of its row
pub changed_of_put : {l₀ l : List ℕ} {place : ℕ} {test : ℕ → Bool} (s b : ℕ) → b < blocks → place ≡ s * row_ticks + block_start b → Put l₀ l place test
    → Changed l₀ l s b test
unfolding has
changed_of_put {l₀} {l} {place} s b few start p =
    record {
      here = λ i lt. ap (at l) (omega arith) ∙ p.here i lt;
      early = λ u lt. p.before (s * row_ticks + u) (omega arith);
      late = λ u past lt. p.after (s * row_ticks + u) (omega arith);
      others = λ x u ne lt.
          decide (ltb x s)
          (λ e. p.before (x * row_ticks + u) (omega (arith, ltb-true x s e)))
          (λ e. p.after (x * row_ticks + u) (omega (arith, ltb-false x s e, ne)));
      sized = p.sized;
    }

-- ---- a bit

pub is_bit : (l : List ℕ) (s t : ℕ) → eqb (get_or l (s * row_words + block_words + t / 64) 0 / 2 ^ (t % 64) % 2) 1 ≡ has l s (block_ticks + t)
unfolding bit odd
is_bit l s t =
    let word : ℕ = get_or l (s * row_words + block_words + t / 64) 0 in
    bit_shr (t % 64) 0 (get_or l (s * row_words + block_words + t / 64) 0) ∙ ap (bit word) (add-zero (t % 64))
    ∙ row_bit l s (s * row_words + block_words) block_ticks t (omega arith)

power_bit : (k i : ℕ) → i < 64 → bit (1 * 2 ^ k % 2 ^ 64) i ≡ eqb i k
unfolding bit odd
power_bit k i h =
    bit_rem 64 i (1 * 2 ^ k) h
    ∙ decide (ltb i k)
    (λ e.
    let lt : i < k = ltb-true i k e in
    bit_scaled_low k i 1 lt ∙ sym (ne_eqb i k (λ same. omega arith)))
    (λ e.
    let split : i ≡ k + (i - k) = omega (arith, ltb-false i k e) in
    ap (bit (1 * 2 ^ k)) split ∙ bit_scaled k (i - k) 1
    ∙ decide (eqb i k)
    (λ u. let same : i - k ≡ 0 = omega (arith, eqb-true i k u) in rw (u, same))
    (λ u. rw u (bit_past 1 (i - k) 1 (omega arith) (omega (arith, ltb-false i k e, eqb-false i k u)))))

-- bit k of the word at p is set
set_bit : (l : List ℕ) (p k j : ℕ) → p < length l → k < 64
    → at (set l p (bit_or (get_or l p 0) (1 * 2 ^ k % 2 ^ 64))) j ≡ (at l j || eqb j (p * 64 + k))
unfolding at
set_bit l p k j room few =
    decide (eqb (j / 64) p)
    (λ e.
    let same : j / 64 ≡ p = eqb-true (j / 64) p e in
    let digit : eqb (j % 64) k ≡ eqb j (p * 64 + k) =
    same_test (eqb (j % 64) k) (eqb j (p * 64 + k))
    (λ q. eq-eqb j (p * 64 + k) (omega (arith, eqb-true (j % 64) k q)))
    (λ q. eq-eqb (j % 64) k (omega (arith, eqb-true j (p * 64 + k) q))) in
    ap (λ (w : ℕ). bit (get_or (set l p (bit_or (get_or l p 0) (1 * 2 ^ k % 2 ^ 64))) w 0) (j % 64)) same
    ∙ ap (λ (w : ℕ). bit w (j % 64)) (get_or-set_same l p _ 0 room)
    ∙ bit_or_lem (j % 64) (get_or l p 0) (1 * 2 ^ k % 2 ^ 64)
    ∙ ap₂ (λ (x y : Bool). x || y) (ap (λ (w : ℕ). bit (get_or l w 0) (j % 64)) (sym same)) (power_bit k (j % 64) (omega arith) ∙ digit))
    (λ e.
    let other : j / 64 ≡ p → ⊥ = eqb-false (j / 64) p e in
    ap (λ (w : ℕ). bit w (j % 64)) (get_or-set_other l p (j / 64) _ 0 other)
    ∙ sym (or-false (bit (get_or l (j / 64) 0) (j % 64)))
    ∙ ap (λ (x : Bool). bit (get_or l (j / 64) 0) (j % 64) || x) (sym (ne_eqb j (p * 64 + k) (λ q. other (omega arith)))))

-- two positions are one where row and position are
same_place : (x u s v : ℕ) → u < row_ticks → v < row_ticks → eqb (x * row_ticks + u) (s * row_ticks + v) ≡ (eqb x s && eqb u v)
same_place x u s v h k =
    same_test (eqb (x * row_ticks + u) (s * row_ticks + v)) (eqb x s && eqb u v)
    (λ e.
    let q : x * row_ticks + u ≡ s * row_ticks + v = eqb-true (x * row_ticks + u) (s * row_ticks + v) e in
    let row : x ≡ s = omega arith in
    rw (eq-eqb x s row) (eq-eqb u v (omega arith)))
    (λ e.
    let row : x ≡ s = eqb-true x s (and_left (eqb x s) (eqb u v) e) in
    let place : u ≡ v = eqb-true u v (and_right (eqb x s) (eqb u v) e) in
    eq-eqb (x * row_ticks + u) (s * row_ticks + v) (omega arith))

pub seed_done : (l : List ℕ) (s t : ℕ) → t < ticks → s * row_words + row_words ≤ length l
    → Seeded l (set l (s * row_words + block_words + t / 64) (bit_or (get_or l (s * row_words + block_words + t / 64) 0) (1 * 2 ^ (t % 64) % 2 ^ 64))) s t
unfolding has
seed_done l s t early room =
    let place : ℕ = s * row_words + block_words + t / 64 in
    let bits : (s * row_words + block_words + t / 64) * 64 + t % 64 ≡ s * row_ticks + (block_ticks + t) = omega arith in
    record {
      bits = λ x u h.
          set_bit l place (t % 64) (x * row_ticks + u) (omega arith) (omega arith)
          ∙ ap (λ (b : Bool). at l (x * row_ticks + u) || b)
          (ap (eqb (x * row_ticks + u)) bits ∙ same_place x u s (block_ticks + t) h (omega arith));
      sized = length-set l place _;
    }

-- ---- a union of words that is 0

-- the first n words are 0
abbrev pub Zeros : (ℕ → ℕ) → ℕ → Type 0
Zeros g n = (j : ℕ) → j < n → g j ≡ 0

pub zeros_none : (g : ℕ → ℕ) → Zeros g 0
zeros_none g j h = absurd (omega arith)

pub zeros_more : (g : ℕ → ℕ) (i all : ℕ) → (all ≡ 0 → Zeros g i) → bit_or all (g i) ≡ 0 → Zeros g (i + 1)
zeros_more g i all h e j lt =
    let both = or_zero all (g i) e in
    decide (eqb j i)
    (λ u. let same : j ≡ i = eqb-true j i u in rw same both.1)
    (λ u. let other : j ≡ i → ⊥ = eqb-false j i u in h both.0 j (omega arith))

-- the words of list l from w on
abbrev pub word_from : List ℕ → ℕ → ℕ → ℕ
word_from l w i = get_or l (w + i) 0

pub zeros_window : (l : List ℕ) (s b n : ℕ) → window_words ≤ n → Zeros (word_from l (s * row_words + b * block_words)) n
    → (i : ℕ) → i < window_ticks → has l s (block_ticks * b + i) ≡ false
zeros_window l s b n most z i h =
    sym (row_bit l s (s * row_words + b * block_words) (block_ticks * b) i (omega arith))
    ∙ ap (λ (w : ℕ). bit w (i % 64)) (z (i / 64) (omega arith)) ∙ zero_bit (i % 64)

-- ---- the ticks of a row, span later

-- the windows from bit r of word a on
pub later_bit : (l : List ℕ) (from span b a r i : ℕ) → Words l → r < 64 → span ≤ span_limit → a * 64 + r + span ≡ from * row_ticks + block_start b
    → bit (window_of (get_or l (a + i / 64) 0) (get_or l (a + i / 64 + 1) 0) r) (i % 64) ≡ has l from (block_start b + i - span)
unfolding has
later_bit l from span b a r i fit digit few e =
    window_at l (a + i / 64) r (i % 64) fit digit (omega arith) ∙ ap (at l) (omega arith)

-- ---- a push

-- what the row of k from word c on has of the ticks that come, by windows from bit r of word a on
unfoldable pub come_word : List ℕ → List ℕ → ℕ → ℕ → ℕ → ℕ → ℕ
come_word l k a c r i = bit_and (window_of (get_or l (a + i) 0) (get_or l (a + i + 1) 0) r) (get_or k (c + i) 0)

come_bit : (l k : List ℕ) (from m span block a c r i : ℕ) → Words l → r < 64 → span ≤ span_limit
    → a * 64 + r + span ≡ from * row_ticks + block_start block → c * 64 ≡ m * block_ticks
    → bit (come_word l k a c r (i / 64)) (i % 64) ≡ (has l from (block_start block + i - span) && at k (m * block_ticks + i))
unfolding come_word
come_bit l k from m span block a c r i fit digit short read mask =
    bit_and_lem (i % 64) (window_of (get_or l (a + i / 64) 0) (get_or l (a + i / 64 + 1) 0) r) (get_or k (c + i / 64) 0)
    ∙ ap₂ (λ (x y : Bool). x && y)
    (later_bit l from span block a r i fit digit short read)
    (word_bit k c i ∙ ap (at k) (omega arith))

-- the words below i that have come
pub record Come (l k : List ℕ) (a c r : ℕ) (x : List ℕ) (i : ℕ) : Type 0 where
  pub sized : length x ≡ block_words
  pub words : (j : ℕ) → j < i → get_or x j 0 ≡ come_word l k a c r j

pub come_turn : (l k : List ℕ) (a c r : ℕ) (x : List ℕ) (i w : ℕ) → i < block_words → w ≡ window_of (get_or l (a + i) 0) (get_or l (a + i + 1) 0) r
    → Come l k a c r x i → Come l k a c r (set x i (bit_and w (get_or k (c + i) 0))) (i + 1)
unfolding come_word
come_turn l k a c r x i w room e h =
    record {
      sized = length-set x i _ ∙ h.sized;
      words = λ j lt.
          decide (eqb j i)
          (λ u. let same : j ≡ i = eqb-true j i u in rw (same, e) (get_or-set_same x i _ 0 (omega (arith, h.sized))))
          (λ u. let other : j ≡ i → ⊥ = eqb-false j i u in get_or-set_other x i j _ 0 other ∙ h.words j (omega arith));
    }

pub push_done : (l₀ l k : List ℕ) (from to m span block a b c r d i : ℕ) → Words l₀ → b + block_words ≤ length l₀ → block < blocks
    → r < 64 → span ≤ span_limit → a * 64 + r + span ≡ from * row_ticks + block_start block → b * 64 ≡ to * row_ticks + block_start block
    → c * 64 ≡ m * block_ticks → block_words ≤ i → i ≤ block_words → Joining (come_word l₀ k a c r) b l₀ l d i
    → Changed l₀ l to block (pushed l₀ k from to m span block)
push_done l₀ l k from to m span block a b c r d i fit room few digit short read write mask past most s =
    changed_of_put to block few write
    (put_joined (come_word l₀ k a c r) b l₀ l d i (pushed l₀ k from to m span block) room past most s
    (λ j h.
    bit_or_lem (j % 64) (get_or l₀ (b + j / 64) 0) (come_word l₀ k a c r (j / 64))
    ∙ ap₂ (λ (x y : Bool). x || y) (row_bit l₀ to b (block_start block) j write) (come_bit l₀ k from m span block a c r j fit digit short read mask)))

-- ---- what a push could set

abbrev pub full : ℕ
full = 18446744073709551615

-- `!w`, as bits
pub not_is_xor : (w : ℕ) → w < 2 ^ 64 → full - w ≡ bit_xor w full
not_is_xor w h = omega (arith, xor_add_and w full, and_mask w 64)

unfoldable pub news_word : List ℕ → List ℕ → ℕ → ℕ → ℕ → ℕ → ℕ → ℕ
news_word l f a b d r i = bit_and (bit_and (window_of (get_or l (a + i) 0) (get_or l (a + i + 1) 0) r) (get_or f (d + i) 0)) (full - get_or l (b + i) 0)

pub news_turn : (l f : List ℕ) (a b d r i all y : ℕ) → y ≡ window_of (get_or l (a + i) 0) (get_or l (a + i + 1) 0) r
    → (all ≡ 0 → Zeros (news_word l f a b d r) i) → bit_or all (bit_and (bit_and y (get_or f (d + i) 0)) (full - get_or l (b + i) 0)) ≡ 0
    → Zeros (news_word l f a b d r) (i + 1)
unfolding news_word
news_turn l f a b d r i all y e h z =
    zeros_more (news_word l f a b d r) i all h (ap (λ (w : ℕ). bit_or all (bit_and (bit_and w (get_or f (d + i) 0)) (full - get_or l (b + i) 0))) (sym e) ∙ z)

no_new : (come free old : Bool) → (come && free && xor old true) ≡ false → come ≡ true → free ≡ true → old ≡ true
no_new true true true e p q = refl
no_new true true false e p q = sym e
no_new true false old e p q = absurd (false≢true q)
no_new false free old e p q = absurd (false≢true p)

pub news_done : (l f : List ℕ) (from to c span block a b d r n : ℕ) → Words l → r < 64 → span ≤ span_limit
    → a * 64 + r + span ≡ from * row_ticks + block_start block → b * 64 ≡ to * row_ticks + block_start block → d * 64 ≡ c * window_ticks + block_ticks
    → block_words ≤ n → Zeros (news_word l f a b d r) n
    → (i : ℕ) → i < block_ticks → has l from (block_start block + i - span) ≡ true → at f (c * window_ticks + block_ticks + i) ≡ true
    → has l to (block_start block + i) ≡ true
unfolding news_word
news_done l f from to c span block a b d r n fit digit short read old_at free_at most z i h =
    let come : ℕ = window_of (get_or l (a + i / 64) 0) (get_or l (a + i / 64 + 1) 0) r in
    let free : ℕ = get_or f (d + i / 64) 0 in
    let old : ℕ = get_or l (b + i / 64) 0 in
    no_new (has l from (block_start block + i - span)) (at f (c * window_ticks + block_ticks + i)) (has l to (block_start block + i))
    (ap₂ (λ (x y : Bool). x && y)
    (ap₂ (λ (x y : Bool). x && y)
    (sym (later_bit l from span block a r i fit digit short read))
    (ap (at f) (omega arith) ∙ sym (word_bit f d i))
    ∙ sym (bit_and_lem (i % 64) come free))
    (ap₂ xor (sym (row_bit l to b (block_start block) i old_at)) (sym (bit_full 64 (i % 64) (omega arith)))
    ∙ sym (bit_xor_lem (i % 64) old full)
    ∙ sym (ap (λ (w : ℕ). bit w (i % 64)) (not_is_xor old (fit (b + i / 64)))))
    ∙ sym (bit_and_lem (i % 64) (bit_and come free) (full - old))
    ∙ ap (λ (w : ℕ). bit w (i % 64)) (z (i / 64) (omega arith))
    ∙ zero_bit (i % 64))

-- ---- waits

-- the carry into word i
unfoldable pub carry_in : List ℕ → List ℕ → ℕ → ℕ → ℕ → ℕ
carry_in l f a b zero = bit_and (get_or l (a - 1) 0) (get_or f (b - 1) 0) / 2 ^ 63
carry_in l f a b (suc i) = fill_of (get_or f (b + i) 0) (get_or l (a + i) 0) (carry_in l f a b i) / 2 ^ 63

unfoldable pub fill_word : List ℕ → List ℕ → ℕ → ℕ → ℕ → ℕ → ℕ
fill_word l f a b i w = bit_or w (fill_of (get_or f (b + i) 0) (get_or l (a + i) 0) (carry_in l f a b i))

-- what is done, the carry, and the words that are still as at the start
pub record Filling (l₀ f : List ℕ) (a b : ℕ) (l : List ℕ) (c d i : ℕ) : Type 0 where
  pub grown : Grown l₀ l d
  pub left : map_row (fill_word l₀ f a b) a (block_words - i) i l ≡ map_row (fill_word l₀ f a b) a block_words 0 l₀
  pub carried : c ≡ carry_in l₀ f a b i
  pub rest : (j : ℕ) → i ≤ j → get_or l (a + j) 0 ≡ get_or l₀ (a + j) 0

pub filling_start : (l f : List ℕ) (a b c : ℕ) → c ≡ bit_and (get_or l (a - 1) 0) (get_or f (b - 1) 0) / 2 ^ 63 → Filling l f a b l c 0 0
unfolding carry_in
filling_start l f a b c e = record { grown = grown_start l; left = refl; carried = e; rest = λ j h. refl }

pub filling_turn : (l₀ f : List ℕ) (a b : ℕ) (l : List ℕ) (c d i y c' : ℕ) → i < block_words → a + i < length l
    → y ≡ fill_of (get_or f (b + i) 0) (get_or l (a + i) 0) c → c' ≡ y / 2 ^ 63 → Filling l₀ f a b l c d i
    → Filling l₀ f a b (set l (a + i) (bit_or (get_or l (a + i) 0) y)) c' (bit_or d (bit_xor (bit_or (get_or l (a + i) 0) y) (get_or l (a + i) 0))) (i + 1)
unfolding carry_in fill_word
filling_turn l₀ f a b l c d i y c' h n e last g =
    let z : y ≡ fill_of (get_or f (b + i) 0) (get_or l₀ (a + i) 0) (carry_in l₀ f a b i) =
    e ∙ ap₂ (λ (u v : ℕ). fill_of (get_or f (b + i) 0) u v) (g.rest i (omega arith)) g.carried in
    record {
      grown = grown_turn l₀ l d (a + i) y n g.grown;
      left = rw z (map_turn (fill_word l₀ f a b) a i l _ h g.left);
      carried = rw (last, add-one i, z);
      rest = λ j k. get_or-set_other l (a + i) (a + j) _ 0 (λ x. omega arith) ∙ g.rest j (omega arith);
    }

fill_lt : (x y z : ℕ) → x < 2 ^ 64 → fill_of x y z < 2 ^ 64
unfolding fill_of run_of
fill_lt x y z h = omega (arith, and_le_r (bit_or (bit_xor ((x + bit_and (bit_or y z) x) % 2 ^ 64) x) (bit_and (bit_or y z) x)) x)

-- the sets that the words of l from a on and of f from b on hold, with the bit before them as number 0
pub record Held (l : List ℕ) (a : ℕ) (set : ℕ → Bool) : Type 0 where
  pub first : bit (get_or l (a - 1) 0) 63 ≡ set 0
  pub later : (i : ℕ) → bit (get_or l (a + i / 64) 0) (i % 64) ≡ set (suc i)

module _ (l f : List ℕ) (a b : ℕ) (free set : ℕ → Bool) (fit : Words f) (frees : Held f b free) (sets : Held l a set) where
  abbrev run : ℕ → ℕ → Bool
  run n j = bit (fill_of (get_or f (b + n) 0) (get_or l (a + n) 0) (carry_in l f a b n)) j

  carry_lt : (i : ℕ) → carry_in l f a b i < 2
  unfolding carry_in
  carry_lt zero = omega (arith, and_le_r (get_or l (a - 1) 0) (get_or f (b - 1) 0), fit (b - 1))
  carry_lt (suc i) = omega (arith, fill_lt (get_or f (b + i) 0) (get_or l (a + i) 0) (carry_in l f a b i) (fit (b + i)))

  -- the carry into the first word is the bit before it, and into another word the run's last bit of the word before
  carry_first : bit (carry_in l f a b 0) 0 ≡ waited free set 0
  unfolding carry_in waited
  carry_first =
      bit_shr 63 0 _ ∙ bit_and_lem 63 (get_or l (a - 1) 0) (get_or f (b - 1) 0)
      ∙ and_comm (bit (get_or l (a - 1) 0) 63) (bit (get_or f (b - 1) 0) 63)
      ∙ ap₂ (λ (x y : Bool). x && y) frees.first sets.first

  carry_bit : (n : ℕ) → bit (carry_in l f a b (suc n)) 0 ≡ run n 63
  unfolding carry_in
  carry_bit n = bit_shr 63 0 _

  held_word : (k : List ℕ) (w : ℕ) (test : ℕ → Bool) → Held k w test → (t n j : ℕ) → t / 64 ≡ n → t % 64 ≡ j → bit (get_or k (w + n) 0) j ≡ test (suc t)
  held_word k w test h t n j e d = ap₂ (λ (m i : ℕ). bit (get_or k (w + m) 0) i) (sym e) (sym d) ∙ h.later t

  -- a bit of a word: what comes into it is known
  run_bit : (t n j : ℕ) (come : Bool) → t / 64 ≡ n → t % 64 ≡ j → run n j ≡ (bit (get_or f (b + n) 0) j && (bit (get_or l (a + n) 0) j || come))
      → come ≡ waited free set t → run (t / 64) (t % 64) ≡ waited free set (suc t)
  unfolding waited
  run_bit t n j come e d step known =
      ap₂ run e d ∙ step
      ∙ ap₂ (λ (x y : Bool). x && y) (held_word f b free frees t n j e d)
      (ap₂ (λ (x y : Bool). x || y) (held_word l a set sets t n j e d) known)

  run_is : (t : ℕ) → run (t / 64) (t % 64) ≡ waited free set (suc t)
  run_is zero = run_bit 0 0 0 _ refl refl (fill_first (get_or f (b + 0) 0) (get_or l (a + 0) 0) (carry_in l f a b 0)) carry_first
  run_is (suc t) = decide (eqb (t % 64) 63)
      (λ e.
      let last : t % 64 ≡ 63 = eqb-true (t % 64) 63 e in
      let n : ℕ = suc (t / 64) in
      run_bit (suc t) (suc (t / 64)) 0 _ (omega arith) (omega arith)
      (fill_first (get_or f (b + n) 0) (get_or l (a + n) 0) (carry_in l f a b n))
      (carry_bit (t / 64) ∙ ap (run (t / 64)) (sym last) ∙ run_is t))
      (λ e.
      let inner : t % 64 ≡ 63 → ⊥ = eqb-false (t % 64) 63 e in
      let n : ℕ = t / 64 in
      run_bit (suc t) (t / 64) (suc (t % 64)) _ (omega arith) (omega arith)
      (fill_next (t % 64) (get_or f (b + n) 0) (get_or l (a + n) 0) (carry_in l f a b n) (carry_lt n) (omega arith))
      (run_is t))

-- the words of l from w on, and one bit before them
pub held : (l : List ℕ) (w : ℕ) (place : ℕ → ℕ) → 1 ≤ w → ((j : ℕ) → place j + 1 ≡ w * 64 + j) → Held l w (λ (j : ℕ). at l (place j))
unfolding at
held l w place some e =
    record {
      first =
          let word : w - 1 ≡ place 0 / 64 = omega (arith, e 0) in
          let digit : 63 ≡ place 0 % 64 = omega (arith, e 0) in
          ap₂ (λ (x y : ℕ). bit (get_or l x 0) y) word digit;
      later = λ i. word_bit l w i ∙ ap (at l) (omega (arith, e (suc i)));
    }

pub fill_done : (l₀ l f : List ℕ) (s c block a b e d i : ℕ) → Words f → a + block_words ≤ length l₀ → block < blocks
    → a * 64 ≡ s * row_ticks + block_start block → b * 64 ≡ c * window_ticks + block_ticks → block_words ≤ i → i ≤ block_words
    → Filling l₀ f a b l e d i → Changed l₀ l s block (filled l₀ f s c block)
unfolding fill_word has
fill_done l₀ l f s c block a b e d i fit room few row frees past most p =
    changed_of_put s block few row
    (put_done (fill_word l₀ f a b) l₀ l a (filled l₀ f s c block) room (map_end (fill_word l₀ f a b) a i l _ past most p.left)
    (λ t h.
    bit_or_lem (t % 64) (get_or l₀ (a + t / 64) 0) (fill_of (get_or f (b + t / 64) 0) (get_or l₀ (a + t / 64) 0) (carry_in l₀ f a b (t / 64)))
    ∙ ap₂ (λ (x y : Bool). x || y)
    (row_bit l₀ s a (block_start block) t row)
    (run_is l₀ f a b (λ (j : ℕ). at f (c * window_ticks + 255 + j)) (λ (j : ℕ). has l₀ s (block_ticks * block + 255 + j)) fit
    (held f b (λ (j : ℕ). c * window_ticks + 255 + j) (omega arith) (λ j. omega arith))
    (held l₀ a (λ (j : ℕ). s * row_ticks + (block_ticks * block + 255 + j)) (omega arith) (λ j. omega arith)) t)))
