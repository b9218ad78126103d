-- Sets of ticks as bits of words of 64, and what the functions over them do to these sets. A row has 1280 positions: tick t is at
-- position 256 + t (see search_sizes). A list of words has rows one after the other.
-- Assumes nothing.
use Rattle.std.specs.Prelude.{◌≡◌, ℕ, zero, suc, ◌+◌, ◌-◌, ◌*◌, ◌/◌, ◌%◌, ◌^◌, ◌<◌, ◌≤◌, Bool, ◌&&◌, ◌||◌, List, [], ◌∷◌, length, ◌==◌, ◌≢◌, slice_index}
use Rattle.search_sizes.specs.Sizes.{block_ticks, window_ticks, row_ticks, block_start}
use Rattle.search_ticks.specs.Bits.{bit}

-- bit j of a list of words
unfoldable pub at : List ℕ → ℕ → Bool
at l j = bit (slice_index l (j / 64)) (j % 64)

-- position u is in row s
unfoldable pub has : List ℕ → ℕ → ℕ → Bool
has l s u = at l (s * row_ticks + u)

abbrev pub Words : List ℕ → Type 0
Words l = (i : ℕ) → slice_index l i < 2 ^ 64

-- ---- what a loop that sets bits has done

unfoldable pub total : List ℕ → ℕ
total [] = 0
total (x ∷ l) = x + total l

-- nothing where d is 0; else the sum of the words has grown
pub record Grown (l₀ l : List ℕ) (d : ℕ) : Type 0 where
  pub same : d ≡ 0 → l ≡ l₀
  pub more : 0 < d → total l₀ < total l
  pub sized : length l ≡ length l₀

-- ---- a block of bits changed

-- from bit p on 256 bits are as the test says, and the others are as before
pub record Put (l₀ l : List ℕ) (p : ℕ) (test : ℕ → Bool) : Type 0 where
  pub here : (i : ℕ) → i < block_ticks → at l (p + i) ≡ test i
  pub before : (j : ℕ) → j < p → at l j ≡ at l₀ j
  pub after : (j : ℕ) → p + block_ticks ≤ j → at l j ≡ at l₀ j
  pub sized : length l ≡ length l₀

-- row s has in block b the positions that the test says, by their number in the block, and all else is as before
pub record Changed (l₀ l : List ℕ) (s b : ℕ) (test : ℕ → Bool) : Type 0 where
  pub here : (i : ℕ) → i < block_ticks → has l s (block_start b + i) ≡ test i
  pub early : (u : ℕ) → u < block_start b → has l s u ≡ has l₀ s u
  pub late : (u : ℕ) → block_start b + block_ticks ≤ u → u < row_ticks → has l s u ≡ has l₀ s u
  pub others : (x u : ℕ) → (x ≢ s) → u < row_ticks → has l x u ≡ has l₀ x u
  pub sized : length l ≡ length l₀

-- in row `to`, or in row `from` span earlier where row m of k has the position of the block
abbrev pub pushed : List ℕ → List ℕ → ℕ → ℕ → ℕ → ℕ → ℕ → ℕ → Bool
pushed l k from to m span b i = has l to (block_start b + i) || (has l from (block_start b + i - span) && at k (m * block_ticks + i))

-- what waits reach: a free number that is in the set, or whose number before is reached so
unfoldable pub waited : (ℕ → Bool) → (ℕ → Bool) → ℕ → Bool
waited free set zero = free 0 && set 0
waited free set (suc i) = free (suc i) && (set (suc i) || waited free set i)

-- in row s, or reached by waits from a position of the block or from the last one before it, where row c of f has the free positions
-- of the block and the one before it
abbrev pub filled : List ℕ → List ℕ → ℕ → ℕ → ℕ → ℕ → Bool
filled l f s c b i =
    has l s (block_start b + i) || waited (λ (j : ℕ). at f (c * window_ticks + 255 + j)) (λ (j : ℕ). has l s (block_ticks * b + 255 + j)) (suc i)

-- tick t is put into row s
pub record Seeded (l₀ l : List ℕ) (s t : ℕ) : Type 0 where
  pub bits : (x u : ℕ) → u < row_ticks → has l x u ≡ (has l₀ x u || (x == s && u == block_ticks + t))
  pub sized : length l ≡ length l₀
