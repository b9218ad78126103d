-- The free ticks of a cell, without and with a margin, and what is left of a block.
-- Assumes nothing.
use Rattle.std.specs.Prelude.{ℕ, ◌+◌, ◌-◌, ◌*◌, ◌≤◌, ◌<◌, min, ◌≡◌, Bool, ◌&&◌, not, List, ltb, leb, eqb, length, get_or}
use Rattle.meaning.specs.Basics.{all_from}
use Rattle.meaning.specs.Site.{Site}
use Rattle.meaning.specs.Board.{free}
use Rattle.search_sizes.specs.Sizes.{block_ticks, window_ticks}
use Rattle.search_ticks.specs.Rows.{at}

-- the bytes of a cell are a row, one a tick

-- the row has tick t, and its byte is 0
abbrev pub free_to : List ℕ → ℕ → Bool
free_to row t = ltb t (length row) && eqb (get_or row t 0) 0

-- ---- with a margin

-- the row has tick t, and its byte is not 0
unfoldable pub held_to : List ℕ → ℕ → Bool
held_to row t = ltb t (length row) && not (eqb (get_or row t 0) 0)

-- the same of tick u - 64: nothing is held before tick 0
unfoldable pub held_before : List ℕ → ℕ → Bool
held_before row u = leb 64 u && held_to row (u - 64)

-- the row has tick t, and the byte of each of its ticks from m before t to m after t is 0
unfoldable pub spaced_to : List ℕ → ℕ → ℕ → Bool
spaced_to row m t = ltb t (length row) && all_from (λ (x : ℕ). eqb (get_or row x 0) 0) (t - m) (min (t + m + 1) (length row) - (t - m))

-- ---- what is left of a block

-- the second halves of the first rows are the free ticks of the cells in the block, and all else is as before
pub record FreeBlock (board : List ℕ) (cells horizon margin b : ℕ) (tab₀ tab : List ℕ) : Type 0 where
  pub late : (site : Site) → site.cells ≡ cells → site.horizon ≡ horizon → site.margin ≡ margin
      → (c i : ℕ) → c < cells → i < block_ticks → at tab (c * window_ticks + block_ticks + i) ≡ free site board c (block_ticks * b + i)
  pub early : (c i : ℕ) → c < cells → i < block_ticks → at tab (c * window_ticks + i) ≡ at tab₀ (c * window_ticks + i)
  pub after : (j : ℕ) → cells * window_ticks ≤ j → at tab j ≡ at tab₀ j
  pub sized : length tab ≡ length tab₀
