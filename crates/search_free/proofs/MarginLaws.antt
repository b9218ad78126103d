-- The free ticks of a cell at a margin, from the words of held ticks around them.
-- Assumes nothing.
use Prim.Native.Nat.{ℕ, ◌+◌, ◌-◌, ◌*◌, ◌/◌, ◌%◌, ◌^◌, ◌≤◌, ◌<◌, min}
use native.Mathlib.Omega.{arith}
use mathlib.Core.Path.{◌≡◌, refl, sym, ap, ap₂, ◌∙◌}
use mathlib.Core.Bool.{Bool, true, false, ◌&&◌, not}
use mathlib.Core.List.{List}
use lib.Bits.{bit_and, bit_xor}
use lib.Pow.{pow_mono, pow_pos}
use lib.Dec.{ltb, eqb}
use lib.ListN.{length, get_or, set, take, drop, length-set}
use Rattle.std.proofs.Common.{length-take, length-drop, get_or-take, get_or-drop}
use lib.Seq.{get_or-set_same, get_or-set_other}
use borrow.Author.Tests.{ltb-true, ltb-false, lt-ltb, le-leb, lt-leb, eqb-true, eq-eqb, not-true, not-false}
use Rattle.meaning.proofs.BasicsLaws.{decide, and_left, and_right, all_from_in, all_from_true, same_test}
use Rattle.meaning.proofs.SentenceLaws.{Tells}
use Rattle.search_sizes.specs.Sizes.{block_ticks}
use Rattle.search_ticks.specs.Bits.{bit}
use Rattle.search_ticks.specs.Rows.{at, Put}
use Rattle.search_ticks.proofs.BitLaws.{xor, bit_and_lem, bit_xor_lem, bit_past, bit_full}
use Rattle.search_ticks.proofs.SetLaws.{full, not_is_xor}
use Rattle.search_ticks.proofs.RowLaws.{zero_bit}
use Rattle.search_margin.specs.Widening.{any_from, bit_of_three}
use Rattle.search_margin.proofs.WideningLaws.{none_in, none_from, three_hold, widened_hold}
use Rattle.search_bytes.specs.Words.{free_word}
use Rattle.search_bytes.proofs.WordLaws.{free_small, free_bits}
use Rattle.search_free.specs.Frees.{free_to, held_to, held_before, spaced_to}

-- ---- the bits of the ticks that there are

pub present_fits : (n : ℕ) → n < 64 → 1 * 2 ^ n % 2 ^ 64 ≡ 2 ^ n
present_fits n h = let less = pow_mono {i = n} {j = 63} (omega arith) in omega arith

pub present_some : (width tick left : ℕ) → left ≡ width - tick → left < 64 → (i : ℕ) → i < 64 → bit (1 * 2 ^ left % 2 ^ 64 - 1) i ≡ ltb (tick + i) width
present_some width tick left e few i lt =
    ap (λ (p : ℕ). bit (p - 1) i) (present_fits left few)
    ∙ decide (ltb (tick + i) width)
    (λ u. bit_full left i (omega (arith, ltb-true (tick + i) width u)) ∙ sym u)
    (λ u. bit_past left i _ (omega (arith, pow_pos left)) (omega (arith, ltb-false (tick + i) width u)) ∙ sym u)

pub present_all : (width tick : ℕ) → 64 ≤ width - tick → (i : ℕ) → i < 64 → bit full i ≡ ltb (tick + i) width
present_all width tick many i lt = bit_full 64 i lt ∙ sym (lt-ltb (tick + i) width (omega arith))

-- ---- the free ones

pub free_bits_of : (row : List ℕ) (tick lo hi w : ℕ) → lo ≡ min (length row) tick → hi ≡ min (length row) (tick + 64) → w ≡ free_word (take (hi - lo) (drop lo row))
    → (i : ℕ) → i < 64 → bit w i ≡ free_to row (tick + i)
free_bits_of row tick lo hi w p q e i lt =
    let part : List ℕ = take (hi - lo) (drop lo row) in
    let sized : length (take (hi - lo) (drop lo row)) ≡ hi - lo = omega (arith, length-take (hi - lo) (drop lo row), length-drop lo row) in
    ap (λ (v : ℕ). bit v i) e
    ∙ decide (ltb (tick + i) (length row))
    (λ u.
    let early : tick + i < length row = ltb-true (tick + i) (length row) u in
    let place : lo + i ≡ tick + i = omega arith in
    let byte : get_or (take (hi - lo) (drop lo row)) i 0 ≡ get_or row (tick + i) 0 =
    get_or-take (hi - lo) (drop lo row) i 0 (omega arith) ∙ get_or-drop lo row i 0 ∙ ap (λ (k : ℕ). get_or row k 0) place in
    rw u (free_bits part i (omega arith) ∙ ap (λ (y : ℕ). eqb y 0) byte))
    (λ u.
    let late : length row ≤ tick + i = ltb-false (tick + i) (length row) u in
    rw u (bit_past (length part) i _ (free_small part) (omega arith)))

-- ---- the held ones

not_xor : (e : Bool) → xor e true ≡ not e
not_xor true = refl
not_xor false = refl

held_xor : (there zero : Bool) → xor (there && zero) there ≡ (there && not zero)
held_xor true zero = not_xor zero
held_xor false zero = refl

pub held_bits : (row : List ℕ) (tick w z : ℕ) → ((i : ℕ) → i < 64 → bit w i ≡ free_to row (tick + i)) → ((i : ℕ) → i < 64 → bit z i ≡ ltb (tick + i) (length row))
    → (i : ℕ) → i < 64 → bit (bit_xor w z) i ≡ held_to row (tick + i)
unfolding held_to
held_bits row tick w z f h i lt =
    bit_xor_lem i w z ∙ ap₂ xor (f i lt) (h i lt) ∙ held_xor (ltb (tick + i) (length row)) (eqb (get_or row (tick + i) 0) 0)

-- ---- 64 ticks later

before_is : (b : List ℕ) (t : ℕ) → held_before b (64 + t) ≡ held_to b t
unfolding held_before
before_is b t =
    let same : 64 + t - 64 ≡ t = omega arith in
    rw (le-leb 64 (64 + t) (omega arith), same)

before_first : (b : List ℕ) (u : ℕ) → u < 64 → held_before b u ≡ false
unfolding held_before
before_first b u h = rw (lt-leb 64 u h)

later_held : (b : List ℕ) (tick from w : ℕ) → from ≡ tick + 64 → ((i : ℕ) → i < 64 → bit w i ≡ held_to b (tick + i))
    → (i : ℕ) → i < 64 → bit w i ≡ held_before b (from + i)
later_held b tick from w e h i lt =
    let place : 64 + (tick + i) ≡ from + i = omega arith in
    h i lt ∙ sym (before_is b (tick + i)) ∙ ap (held_before b) place

-- the word before the block
pub before_none : (b : List ℕ) (block : ℕ) → block ≡ 0 → (i : ℕ) → i < 64 → bit 0 i ≡ held_before b (block_ticks * block + i)
before_none b block e i lt = zero_bit i ∙ sym (before_first b (256 * block + i) (omega arith))

pub before_some : (b : List ℕ) (block w : ℕ) → (block ≡ 0 → ⊥) → ((i : ℕ) → i < 64 → bit w i ≡ held_to b (block * 256 - 64 + i))
    → (i : ℕ) → i < 64 → bit w i ≡ held_before b (block_ticks * block + i)
before_some b block w some h = later_held b (block * 256 - 64) (256 * block) w (omega arith) h

-- ---- what the test of a margin says

-- the row has tick t, and the byte of each of its ticks from m before t to m after t is 0
abbrev pub Spaced : List ℕ → ℕ → ℕ → Type 0
Spaced b m t = (t < length b) × ((x : ℕ) → x < length b → t ≤ x + m → x ≤ t + m → get_or b x 0 ≡ 0)

pub tells_spaced : (b : List ℕ) (m t : ℕ) → Tells (spaced_to b m t) (Spaced b m t)
unfolding spaced_to
tells_spaced b m t =
    let k : ℕ = min (t + m + 1) (length b) - (t - m) in
    record {
      then = λ e. (
        ltb-true t (length b) (and_left (ltb t (length b)) _ e),
        λ x inside lo hi. eqb-true _ 0 (all_from_in (λ (x : ℕ). eqb (get_or b x 0) 0) (t - m) k x (and_right (ltb t (length b)) _ e) (omega arith) (omega arith)),
      );
      back = λ (inside, zeros).
          rw (lt-ltb t (length b) inside)
          (all_from_true (λ (x : ℕ). eqb (get_or b x 0) 0) (t - m) k
          (λ x lo hi. eq-eqb _ 0 (zeros x (omega arith) (omega arith) (omega arith))));
    }

-- at margin 0
spaced_zero : (b : List ℕ) (t : ℕ) → free_to b t ≡ spaced_to b 0 t
spaced_zero b t =
    same_test (free_to b t) (spaced_to b 0 t)
    (λ e. (tells_spaced b 0 t).back (
      ltb-true t (length b) (and_left (ltb t (length b)) _ e),
      λ x inside lo hi. let same : x ≡ t = omega arith in rw same (eqb-true _ 0 (and_right (ltb t (length b)) _ e)),
    ))
    (λ e.
    let (inside, zeros) = (tells_spaced b 0 t).then e in
    rw (lt-ltb t (length b) inside, eq-eqb (get_or b t 0) 0 (zeros t inside (omega arith) (omega arith))))

-- ---- a word of free ticks

held_not : (b : List ℕ) (x : ℕ) → held_to b x ≡ false → x < length b → get_or b x 0 ≡ 0
unfolding held_to
held_not b x h inside = eqb-true _ 0 (not-false (eqb (get_or b x 0) 0) (simp (lt-ltb x (length b) inside) at h))

not_held : (b : List ℕ) (x : ℕ) → (x < length b → get_or b x 0 ≡ 0) → held_to b x ≡ false
unfolding held_to
not_held b x h = decide (ltb x (length b)) (λ u. rw (u, eq-eqb (get_or b x 0) 0 (h (ltb-true x (length b) u)))) (λ u. rw u)

-- no held tick around t
around_is : (b : List ℕ) (m t : ℕ) → m < 32 → (ltb t (length b) && not (any_from (held_before b) (t + 64 - m) (2 * m + 1))) ≡ spaced_to b m t
around_is b m t few =
    same_test (ltb t (length b) && not (any_from (held_before b) (t + 64 - m) (2 * m + 1))) (spaced_to b m t)
    (λ e.
    let none : any_from (held_before b) (t + 64 - m) (2 * m + 1) ≡ false = not-true _ (and_right (ltb t (length b)) _ e) in
    (tells_spaced b m t).back (
      ltb-true t (length b) (and_left (ltb t (length b)) _ e),
      λ x inside lo hi.
          held_not b x
          (sym (before_is b x) ∙ none_in (held_before b) (t + 64 - m) (2 * m + 1) (64 + x) none (omega arith) (omega arith)) inside,
    ))
    (λ e.
    let (inside, zeros) = (tells_spaced b m t).then e in
    rw (
      lt-ltb t (length b) inside,
      none_from (held_before b) (t + 64 - m) (2 * m + 1) (λ u lo hi.
          decide (ltb u 64)
          (λ v. before_first b u (ltb-true u 64 v))
          (λ v.
          let late : 64 ≤ u = ltb-false u 64 v in
          let place : u ≡ 64 + (u - 64) = omega arith in
          ap (held_before b) place ∙ before_is b (u - 64) ∙ not_held b (u - 64) (λ w. zeros (u - 64) w (omega arith) (omega arith)))),
    ))

spaced_word : (b : List ℕ) (m tick near there : ℕ) → m < 32 → near < 2 ^ 64
    → ((i : ℕ) → i < 64 → bit near i ≡ any_from (held_before b) (tick + 64 + i - m) (2 * m + 1)) → ((i : ℕ) → i < 64 → bit there i ≡ ltb (tick + i) (length b))
    → (i : ℕ) → i < 64 → bit (bit_and there (full - near)) i ≡ spaced_to b m (tick + i)
spaced_word b m tick near there few fit g h i lt =
    let place : tick + 64 + i - m ≡ tick + i + 64 - m = omega arith in
    bit_and_lem i there (full - near)
    ∙ ap₂ (λ (x y : Bool). x && y) (h i lt)
    (ap (λ (w : ℕ). bit w i) (not_is_xor near fit)
    ∙ bit_xor_lem i near full ∙ ap (xor (bit near i)) (bit_full 64 i lt) ∙ not_xor (bit near i)
    ∙ ap not (g i lt ∙ ap (λ (x : ℕ). any_from (held_before b) x (2 * m + 1)) place))
    ∙ around_is b m (tick + i) few

-- ---- the second half of a row, word by word

-- the first n words from place a on are as the test says, and all else is as before
pub record PutWords (l₀ l : List ℕ) (a n : ℕ) (test : ℕ → Bool) : Type 0 where
  pub here : (i : ℕ) → i < n * 64 → at l (a * 64 + i) ≡ test i
  pub before : (j : ℕ) → j < a * 64 → at l j ≡ at l₀ j
  pub after : (j : ℕ) → (a + n) * 64 ≤ j → at l j ≡ at l₀ j
  pub sized : length l ≡ length l₀

pub put_none : (l : List ℕ) (a : ℕ) (test : ℕ → Bool) → PutWords l l a 0 test
put_none l a test = record { here = λ i h. absurd (omega arith); before = λ j h. refl; after = λ j h. refl; sized = refl }

set_other : (l : List ℕ) (k w j : ℕ) → (j / 64 ≡ k → ⊥) → at (set l k w) j ≡ at l j
unfolding at
set_other l k w j h = ap (λ (x : ℕ). bit x (j % 64)) (get_or-set_other l k (j / 64) w 0 h)

set_same : (l : List ℕ) (k w i : ℕ) → k < length l → i < 64 → at (set l k w) (k * 64 + i) ≡ bit w i
unfolding at
set_same l k w i room h =
    let word : (k * 64 + i) / 64 ≡ k = omega arith in
    let digit : (k * 64 + i) % 64 ≡ i = omega arith in
    ap₂ (λ (x y : ℕ). bit (get_or (set l k w) x 0) y) word digit ∙ ap (λ (x : ℕ). bit x i) (get_or-set_same l k w 0 room)

pub put_more : (l₀ l : List ℕ) (a n w : ℕ) (test : ℕ → Bool) → a + n < length l → ((i : ℕ) → i < 64 → bit w i ≡ test (n * 64 + i))
    → PutWords l₀ l a n test → PutWords l₀ (set l (a + n) w) a (n + 1) test
put_more l₀ l a n w test room h g =
    record {
      here = λ i lt.
          decide (ltb i (n * 64))
          (λ u. let early : i < n * 64 = ltb-true i (n * 64) u in set_other l (a + n) w (a * 64 + i) (λ e. omega arith) ∙ g.here i early)
          (λ u.
          let late : n * 64 ≤ i = ltb-false i (n * 64) u in
          let place : a * 64 + i ≡ (a + n) * 64 + (i - n * 64) = omega arith in
          let tick : n * 64 + (i - n * 64) ≡ i = omega arith in
          ap (at (set l (a + n) w)) place ∙ set_same l (a + n) w (i - n * 64) room (omega arith) ∙ h (i - n * 64) (omega arith) ∙ ap test tick);
      before = λ j lt. set_other l (a + n) w j (λ e. omega arith) ∙ g.before j lt;
      after = λ j le. set_other l (a + n) w j (λ e. omega arith) ∙ g.after j (omega arith);
      sized = length-set l (a + n) w ∙ g.sized;
    }

pub put_four : (l₀ l : List ℕ) (a n p : ℕ) (test : ℕ → Bool) → 4 ≤ n → n ≤ 4 → a * 64 ≡ p → PutWords l₀ l a n test → Put l₀ l p test
put_four l₀ l a n p test past most place g =
    record {
      here = λ i lt. let same : p + i ≡ a * 64 + i = omega arith in ap (at l) same ∙ g.here i (omega arith);
      before = λ j lt. g.before j (omega arith);
      after = λ j le. g.after j (omega arith);
      sized = g.sized;
    }

-- the words before and at tick i of the block, in words, and what is done
pub record Spacing (b : List ℕ) (m block : ℕ) (l₀ l : List ℕ) (a before here i : ℕ) : Type 0 where
  pub earlier : (j : ℕ) → j < 64 → bit before j ≡ held_before b (block * 256 + i * 64 + j)
  pub now : (j : ℕ) → j < 64 → bit here j ≡ held_to b (block * 256 + i * 64 + j)
  pub row : PutWords l₀ l a i (λ k. spaced_to b m (block_ticks * block + k))

pub spacing_start : (b : List ℕ) (m block : ℕ) (l : List ℕ) (a before here : ℕ)
    → ((j : ℕ) → j < 64 → bit before j ≡ held_before b (block_ticks * block + j))
    → ((j : ℕ) → j < 64 → bit here j ≡ held_to b (block * 256 + j)) → Spacing b m block l l a before here 0
spacing_start b m block l a before here f g =
    record {
      earlier = λ j lt. f j lt ∙ ap (held_before b) (omega arith);
      now = λ j lt. g j lt ∙ ap (held_to b) (omega arith);
      row = put_none l a _;
    }

pub spacing_turn : (b : List ℕ) (m block : ℕ) (l₀ l : List ℕ) (a before here i after near there : ℕ) → i < 4 → m < 32 → near < 2 ^ 64 → a + i < length l
    → ((j : ℕ) → j < 64 → bit after j ≡ held_to b (block * 256 + i * 64 + 64 + j))
    → ((j : ℕ) → j < 64 → bit near j ≡ any_from (bit_of_three before here after) (64 + j - m) (2 * m + 1))
    → ((j : ℕ) → j < 64 → bit there j ≡ ltb (block * 256 + i * 64 + j) (length b))
    → Spacing b m block l₀ l a before here i
    → Spacing b m block l₀ (set l (a + i) (bit_and there (full - near))) a here after (i + 1)
spacing_turn b m block l₀ l a before here i after near there more few fits room f g h state =
    let tick : ℕ = block * 256 + i * 64 in
    let three : (j : ℕ) → j < 192 → bit_of_three before here after j ≡ held_before b (block * 256 + i * 64 + j) =
    three_hold (held_before b) before here after tick state.earlier
    (later_held b tick (tick + 64) here refl state.now)
    (later_held b (tick + 64) (tick + 128) after (omega arith) f) in
    let word = spaced_word b m tick near there few fits (widened_hold (held_before b) before here after tick m near few three g) h in
    record {
      earlier = later_held b tick (block * 256 + (i + 1) * 64) here (omega arith) state.now;
      now = λ j lt. f j lt ∙ ap (held_to b) (omega arith);
      row = put_more l₀ l a i _ _ room (λ j lt. word j lt ∙ ap (spaced_to b m) (omega arith)) state.row;
    }

-- a row with no margin
pub spacing_none : (b : List ℕ) (m block p : ℕ) (l₀ l : List ℕ) → m ≡ 0 → Put l₀ l p (λ i. free_to b (block_ticks * block + i))
    → Put l₀ l p (λ i. spaced_to b m (block_ticks * block + i))
spacing_none b m block p l₀ l e g =
    record {
      here = λ i h. g.here i h ∙ spaced_zero b (block_ticks * block + i) ∙ ap (λ (x : ℕ). spaced_to b x (block_ticks * block + i)) (sym e);
      before = g.before;
      after = g.after;
      sized = g.sized;
    }
