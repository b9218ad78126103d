-- Runs of free positions as tables of rows. A row has the positions of a block and of the one before it (see search_sizes), a table has a
-- row for each cell, and the tables stand one after the other.
-- Assumes nothing.
use Rattle.std.specs.Prelude.{ℕ, zero, suc, ◌+◌, ◌-◌, ◌*◌, ◌^◌, ◌<◌, ◌≡◌, Bool, true, cond, ◌&&◌, List, ltb, length}
use Rattle.search_sizes.specs.Sizes.{block_ticks, window_ticks, block_start}
use Rattle.search_ticks.specs.Rows.{at}

-- the n positions that end at u are in the set
unfoldable pub ended : (ℕ → Bool) → ℕ → ℕ → Bool
ended g zero u = true
ended g (suc n) u = g (u - n) && ended g n u

abbrev pub run_tables : ℕ
run_tables = 9

-- how long the runs of table t are: 1 to 4, and then 8, 16, 32, 64 and 128
unfoldable pub run_length : ℕ → ℕ
run_length t = cond (ltb t 4) (suc t) (2 ^ (t - 1))

-- the table with the longest runs of at most n positions
unfoldable pub table_of : ℕ → ℕ
table_of n =
    cond (ltb n 5) (n - 1) (cond (ltb n 8) 3 (cond (ltb n 16) 4 (cond (ltb n 32) 5 (cond (ltb n 64) 6 (cond (ltb n 128) 7 8)))))

-- ---- rows

-- what each row had in the block, it has in the one before
pub record Shifted (tab₀ tab : List ℕ) (rows : ℕ) : Type 0 where
  pub moved : (r i : ℕ) → r < rows → i < block_ticks → at tab (r * window_ticks + i) ≡ at tab₀ (r * window_ticks + block_ticks + i)
  pub sized : length tab ≡ length tab₀

-- row r has in the block the position with that number, and the one that is `back` earlier
abbrev pub longer : List ℕ → ℕ → ℕ → ℕ → Bool
longer tab r back i = at tab (r * window_ticks + block_ticks + i) && at tab (r * window_ticks + (block_ticks - back) + i)

-- ---- tables, where g has the free positions of each cell

module _ (g : ℕ → ℕ → Bool) (cells tables b : ℕ) (tab : List ℕ) where
  -- the tables are right in the block before b
  abbrev pub Halves : Type 0
  Halves = (t c i : ℕ) → t < tables → c < cells → i < block_ticks → at tab ((t * cells + c) * window_ticks + i) ≡ ended (g c) (run_length t) (block_ticks * b + i)

  -- and in block b too
  abbrev pub Tables : Type 0
  Tables = (t c i : ℕ) → t < tables → c < cells → i < window_ticks → at tab ((t * cells + c) * window_ticks + i) ≡ ended (g c) (run_length t) (block_ticks * b + i)

  -- what a block leaves for the next one, b: the tables are right in the block before it, which the rows still have as theirs
  abbrev pub Ahead : Type 0
  Ahead = (t c i : ℕ) → t < tables → c < cells → i < block_ticks → at tab ((t * cells + c) * window_ticks + block_ticks + i) ≡ ended (g c) (run_length t) (block_ticks * b + i)

-- the first rows are the free positions of the cells in block b
abbrev pub FirstTable : (ℕ → ℕ → Bool) → ℕ → ℕ → List ℕ → Type 0
FirstTable g cells b tab = (c i : ℕ) → c < cells → i < block_ticks → at tab (c * window_ticks + block_ticks + i) ≡ g c (block_start b + i)
