-- Sets of pairs of state and position that are closed under the one-tick waits and the motions that end in a block, and what a step of the
-- search does to such a set. Here g has the free positions of each cell.
-- Assumes nothing.
use Rattle.std.specs.Prelude.{ℕ, suc, ◌+◌, ◌*◌, ◌≤◌, ◌<◌, ◌≡◌, Bool, true, false, List, length, get_or}
use Rattle.meaning.specs.Limits.{cell_limit}
use Rattle.search_sizes.specs.Sizes.{block_ticks, row_ticks, window_words, block_start}
use Rattle.search_ticks.specs.Rows.{at, has, total}
use Rattle.search_runs.specs.Runs.{table_of, Tables}
use Rattle.search_arrivals.specs.Arrivals.{arrives}
use Rattle.search_site.specs.Arrays.{cell_at, speed_at, from_at, to_at, span_at}
use Rattle.search_site.specs.Decoded.{sweeps_of}

-- by state and position
abbrev pub Pairs : Type 0
Pairs = ℕ → ℕ → Bool

-- a wait of one tick in state s that ends in block b, if it stands and its cell is free at both positions, leads to a pair of the set
abbrev pub WaitClosed : List ℕ → (ℕ → ℕ → Bool) → ℕ → ℕ → Pairs → Type 0
WaitClosed st g b s R =
    speed_at st s ≡ 0
    → (u : ℕ) → block_start b ≤ suc u → suc u < block_start b + block_ticks → R s u ≡ true → g (cell_at st s) u ≡ true → g (cell_at st s) (suc u) ≡ true
    → R s (suc u) ≡ true

-- motion m may end at position u
abbrev pub ends_at : List ℕ → List ℕ → (ℕ → ℕ → Bool) → ℕ → ℕ → Bool
ends_at mv sw g m u = arrives g (sweeps_of mv sw m) (span_at mv m) u

-- motion m, if it may end at a position of block b, leads to a pair of the set
abbrev pub MoveClosed : List ℕ → List ℕ → (ℕ → ℕ → Bool) → ℕ → ℕ → Pairs → Type 0
MoveClosed mv sw g b m R =
    (u : ℕ) → block_start b ≤ u + span_at mv m → u + span_at mv m < block_start b + block_ticks → R (from_at mv m) u ≡ true → ends_at mv sw g m (u + span_at mv m) ≡ true
    → R (to_at mv m) (u + span_at mv m) ≡ true

-- for each number below n
abbrev pub Below : (ℕ → Pairs → Type 0) → ℕ → Pairs → Type 0
Below C n R = (j : ℕ) → j < n → C j R

-- every wait of n states, and each of k motions
abbrev pub Closed : ℕ → ℕ → List ℕ → List ℕ → List ℕ → (ℕ → ℕ → Bool) → ℕ → Pairs → Type 0
Closed n k st mv sw g b R = Below (WaitClosed st g b) n R × Below (MoveClosed mv sw g b) k R

abbrev pub Inside : List ℕ → Pairs → Type 0
Inside l R = (s u : ℕ) → u < row_ticks → has l s u ≡ true → R s u ≡ true

-- ---- what a step does

-- it stays inside every closed set that it began in
abbrev pub Within : (Pairs → Type 0) → List ℕ → List ℕ → Type 0
Within C l₀ l = (R : Pairs) → C R → Inside l₀ R → Inside l R

-- it loses nothing and changes nothing before block b
pub record Kept (b : ℕ) (l₀ l : List ℕ) : Type 0 where
  pub inside : Inside l₀ (has l)
  pub early : (s u : ℕ) → u < block_start b → has l s u ≡ has l₀ s u
  pub sized : length l ≡ length l₀

-- it does that to row s alone; nothing has changed where nothing was new, and else the sum of the words has grown
pub record RowSet (b s : ℕ) (l₀ l : List ℕ) (new : Bool) : Type 0 where
  pub kept : Kept b l₀ l
  pub others : (x u : ℕ) → (x ≡ s → ⊥) → u < row_ticks → has l x u ≡ has l₀ x u
  pub same : new ≡ false → l ≡ l₀
  pub more : new ≡ true → total l₀ < total l

-- ---- the tables of a block

-- the tables have the rows that k motions need
pub record Room (cells k : ℕ) (mv tab : List ℕ) : Type 0 where
  pub few : cells ≤ cell_limit
  pub first : cells * window_words ≤ length tab
  pub rows : (m : ℕ) → m < k → (table_of (suc (span_at mv m)) * cells + cells) * window_words < length tab

-- they are right for block b; and a motion ends only where the cell of its end is free
pub record TablesRight (g : ℕ → ℕ → Bool) (cells n k b : ℕ) (st mv sw tab : List ℕ) : Type 0 where
  pub tables : ℕ
  pub some : 1 ≤ tables
  pub enough : (m : ℕ) → m < k → table_of (suc (span_at mv m)) < tables
  pub right : Tables g cells tables b tab
  pub ends : (m u : ℕ) → m < k → ends_at mv sw g m u ≡ true → g (cell_at st (to_at mv m)) u ≡ true

-- row m has the positions of block b at which motion m may end
abbrev pub RowReady : (ℕ → ℕ → Bool) → ℕ → List ℕ → List ℕ → List ℕ → ℕ → Type 0
RowReady g b mv sw al m = (i : ℕ) → i < block_ticks → at al (m * block_ticks + i) ≡ ends_at mv sw g m (block_start b + i)

-- so have the rows of all motions that are known
abbrev pub RowsReady : (ℕ → ℕ → Bool) → ℕ → ℕ → List ℕ → List ℕ → List Bool → List ℕ → Type 0
RowsReady g k b mv sw known al = (m : ℕ) → m < k → get_or known m false ≡ true → RowReady g b mv sw al m
