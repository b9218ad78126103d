-- What the search over blocks is handed: tables of enough room.
-- Assumes nothing.
use Rattle.std.specs.Prelude.{ℕ, suc, ◌+◌, ◌-◌, ◌*◌, ◌≤◌, ◌<◌, Bool, ◌&&◌, List, leb}
use Rattle.meaning.specs.Board.{Free}
use Rattle.site.specs.declared.Sizes.{Sizes}
use Rattle.search_sizes.specs.Sizes.{block_ticks, block_words, window_words, row_words, block_start, table_limit}
use Rattle.search_runs.specs.Runs.{run_tables, table_of}
use Rattle.search_site.specs.Arrays.{span_at}

-- the free positions of a cell, those of the blocks from the first one on: earlier ones are not looked at
abbrev pub free_from : Free → ℕ → ℕ → ℕ → Bool
free_from f first c u = leb (block_start first) u && f c (u - block_ticks)

-- room for the tables of runs that the motions need and one word more
pub record Space (l : Sizes) (mv : List ℕ) (tables tab_size : ℕ) : Type 0 where
  pub some : 1 ≤ tables
  pub few : tables ≤ run_tables
  pub enough : (m : ℕ) → m < l.motions → table_of (suc (span_at mv m)) < tables
  pub tab : tables * l.cells * window_words < tab_size
  pub small : tab_size < table_limit

-- room for what is kept of the motions and states: lists, marks of each, a block of each motion, and a row of each state
pub record Scratch (l : Sizes) (lists_size known_size grown_size allowed_size reached_size : ℕ) : Type 0 where
  pub lists : l.motions + l.states ≤ lists_size
  pub known : l.motions ≤ known_size
  pub grown : l.states ≤ grown_size
  pub allowed : l.motions * block_words ≤ allowed_size
  pub reached : l.states * row_words ≤ reached_size
