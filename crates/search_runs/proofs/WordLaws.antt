-- Four words of a row, written from words of the same list that stay as they are.
-- Assumes nothing.
use Prim.Native.Nat.{ℕ, ◌+◌, ◌-◌, ◌*◌, ◌/◌, ◌%◌, ◌≤◌, ◌<◌}
use native.Mathlib.Omega.{arith}
use mathlib.Core.Path.{◌≡◌, refl, ap, ap₂, ◌∙◌, subst}
use mathlib.Core.Bool.{Bool, ◌&&◌}
use mathlib.Core.List.{List}
use lib.Bits.{bit_and}
use lib.ListN.{length, get_or, set, length-set}
use lib.Seq.{get_or-set_other}
use Rattle.search_sizes.specs.Sizes.{block_words, block_ticks, window_words, window_ticks}
use Rattle.search_ticks.specs.Bits.{bit, window_of}
use Rattle.search_ticks.specs.Rows.{at, Words, Put}
use Rattle.search_ticks.proofs.BitLaws.{bit_and_lem}
use Rattle.search_ticks.proofs.RowLaws.{map_row, map_turn, map_end, window_at, put_done}
use Rattle.search_runs.specs.Runs.{longer}

-- ---- the loop: the words from a + i on are left to write, and the others are as before

pub record Writing (g : ℕ → ℕ → ℕ) (a : ℕ) (l₀ l : List ℕ) (i : ℕ) : Type 0 where
  pub sized : length l ≡ length l₀
  pub kept : (j : ℕ) → ((k : ℕ) → k < block_words → j ≡ a + k → ⊥) → get_or l j 0 ≡ get_or l₀ j 0
  pub left : map_row g a (block_words - i) i l ≡ map_row g a block_words 0 l₀

pub writing_start : (g : ℕ → ℕ → ℕ) (a : ℕ) (l : List ℕ) → Writing g a l l 0
writing_start g a l = record { sized = refl; kept = λ j h. refl; left = refl }

writing_turn : (g : ℕ → ℕ → ℕ) (a : ℕ) (l₀ l : List ℕ) (i v : ℕ) → i < block_words → v ≡ g i (get_or l (a + i) 0) → Writing g a l₀ l i → Writing g a l₀ (set l (a + i) v) (i + 1)
writing_turn g a l₀ l i v h e w =
    record {
      sized = length-set l (a + i) v ∙ w.sized;
      kept = λ j off. get_or-set_other l (a + i) j v 0 (off i h) ∙ w.kept j off;
      left = rw e (map_turn g a i l (map_row g a block_words 0 l₀) h w.left);
    }

writing_done : (g : ℕ → ℕ → ℕ) (a : ℕ) (l₀ l : List ℕ) (i p : ℕ) (test : ℕ → Bool) → block_words ≤ i → i ≤ block_words → a + block_words ≤ length l₀ → a * 64 ≡ p → Writing g a l₀ l i
    → ((j : ℕ) → j < block_ticks → bit (g (j / 64) (get_or l₀ (a + j / 64) 0)) (j % 64) ≡ test j) → Put l₀ l p test
writing_done g a l₀ l i p test past few room e w h =
    subst (λ (x : ℕ). Put l₀ l x test) e (put_done g l₀ l a test room (map_end g a i l (map_row g a block_words 0 l₀) past few w.left) h)

-- a bit of a word of the list
word_at : (l : List ℕ) (a p i : ℕ) → a * 64 ≡ p → bit (get_or l (a + i / 64) 0) (i % 64) ≡ at l (p + i)
unfolding at
word_at l a p i e =
    let place : (p + i) / 64 ≡ a + i / 64 = omega arith in
    let digit : (p + i) % 64 ≡ i % 64 = omega arith in
    rw (place, digit)

-- ---- a block that becomes the one before

unfoldable pub shift_word : List ℕ → ℕ → ℕ → ℕ → ℕ
shift_word l a i w = get_or l (a + block_words + i) 0

pub shift_turn : (l₀ l : List ℕ) (a i : ℕ) → i < block_words → Writing (shift_word l₀ a) a l₀ l i → Writing (shift_word l₀ a) a l₀ (set l (a + i) (get_or l (a + block_words + i) 0)) (i + 1)
unfolding shift_word
shift_turn l₀ l a i h w = writing_turn (shift_word l₀ a) a l₀ l i _ h (w.kept (a + block_words + i) (λ k lt e. omega arith)) w

pub shift_done : (l₀ l : List ℕ) (r i : ℕ) → r * window_words + window_words ≤ length l₀ → block_words ≤ i → i ≤ block_words → Writing (shift_word l₀ (r * window_words)) (r * window_words) l₀ l i
    → Put l₀ l (r * window_ticks) (λ (j : ℕ). at l₀ (r * window_ticks + block_ticks + j))
unfolding shift_word
shift_done l₀ l r i room past few w =
    writing_done (shift_word l₀ (r * window_words)) (r * window_words) l₀ l i (r * window_ticks) _ past few (omega arith) (omega arith) w
    (λ j h. word_at l₀ (r * window_words + block_words) (r * window_ticks + block_ticks) j (omega arith))

-- ---- a block, and the ticks some ticks earlier

unfoldable pub long_word : List ℕ → ℕ → ℕ → ℕ → ℕ → ℕ → ℕ
long_word l a b e i w = bit_and (get_or l (a + i) 0) (window_of (get_or l (b + i) 0) (get_or l (b + i + 1) 0) e)

pub long_turn : (l₀ l : List ℕ) (a b d e i v : ℕ) → a + block_words ≤ d → b + block_words < d → i < block_words → v ≡ window_of (get_or l (b + i) 0) (get_or l (b + i + 1) 0) e
    → Writing (long_word l₀ a b e) d l₀ l i → Writing (long_word l₀ a b e) d l₀ (set l (d + i) (bit_and (get_or l (a + i) 0) v)) (i + 1)
unfolding long_word
long_turn l₀ l a b d e i v low low' h is w =
    writing_turn (long_word l₀ a b e) d l₀ l i _ h
    (ap₂ bit_and (w.kept (a + i) (λ k lt x. omega arith))
    (is ∙ ap₂ (λ (x y : ℕ). window_of x y e) (w.kept (b + i) (λ k lt x. omega arith)) (w.kept (b + i + 1) (λ k lt x. omega arith))))
    w

pub long_done : (l₀ l : List ℕ) (r q back i : ℕ) → Words l₀ → back ≤ 64 → q * window_words + window_words ≤ length l₀ → block_words ≤ i → i ≤ block_words
    → Writing (long_word l₀ (r * window_words + block_words) (r * window_words + (block_ticks - back) / 64) ((block_ticks - back) % 64)) (q * window_words + block_words) l₀ l i
    → Put l₀ l (q * window_ticks + block_ticks) (longer l₀ r back)
unfolding long_word
long_done l₀ l r q back i fit few room past end w =
    writing_done (long_word l₀ (r * window_words + block_words) (r * window_words + (block_ticks - back) / 64) ((block_ticks - back) % 64)) (q * window_words + block_words) l₀ l i (q * window_ticks + block_ticks) (longer l₀ r back)
    past end (omega arith) (omega arith) w
    (λ j h.
    let place : (r * window_words + (block_ticks - back) / 64 + j / 64) * 64 + (block_ticks - back) % 64 + j % 64 ≡ r * window_ticks + (block_ticks - back) + j = omega arith in
    bit_and_lem (j % 64) (get_or l₀ (r * window_words + block_words + j / 64) 0) _
    ∙ ap₂ (λ (x y : Bool). x && y)
    (word_at l₀ (r * window_words + block_words) (r * window_ticks + block_ticks) j (omega arith))
    (window_at l₀ (r * window_words + (block_ticks - back) / 64 + j / 64) ((block_ticks - back) % 64) (j % 64) fit (omega arith) (omega arith) ∙ ap (at l₀) place))
