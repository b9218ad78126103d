-- A site's states and motions in arrays of numbers: two numbers a state (cell, speed) and five a motion (from, to, span, the place of
-- its sweeps and how many there are).
-- Assumes nothing.
use Rattle.std.specs.Prelude.{ℕ, ◌+◌, ◌*◌, ◌≤◌, ◌<◌, ◌≡◌, List, length, get_or}
use Rattle.search_sizes.specs.Sizes.{cell_rows, state_rows, motion_rows, span_limit}

abbrev pub cell_at : List ℕ → ℕ → ℕ
cell_at st s = get_or st (s * 2) 0

abbrev pub speed_at : List ℕ → ℕ → ℕ
speed_at st s = get_or st (s * 2 + 1) 0

abbrev pub from_at : List ℕ → ℕ → ℕ
from_at mv m = get_or mv (m * 5) 0

abbrev pub to_at : List ℕ → ℕ → ℕ
to_at mv m = get_or mv (m * 5 + 1) 0

abbrev pub span_at : List ℕ → ℕ → ℕ
span_at mv m = get_or mv (m * 5 + 2) 0

abbrev pub place_at : List ℕ → ℕ → ℕ
place_at mv m = get_or mv (m * 5 + 3) 0

abbrev pub count_at : List ℕ → ℕ → ℕ
count_at mv m = get_or mv (m * 5 + 4) 0

-- ---- what keeps each index in range

pub record States (n : ℕ) (st : List ℕ) : Type 0 where
  pub few : n ≤ state_rows
  pub long : n * 2 ≤ length st
  pub cell : (s : ℕ) → s < n → cell_at st s < cell_rows

pub record Motions (k : ℕ) (mv : List ℕ) : Type 0 where
  pub few : k ≤ motion_rows
  pub long : k * 5 ≤ length mv
  pub from : (m : ℕ) → m < k → from_at mv m < state_rows
  pub to : (m : ℕ) → m < k → to_at mv m < state_rows
  pub span : (m : ℕ) → m < k → (1 ≤ span_at mv m) × (span_at mv m ≤ span_limit)

-- ---- what a search over a site may rely on beside that

-- the cells of n states
abbrev pub CellsBelow : ℕ → ℕ → List ℕ → Type 0
CellsBelow cells n st = (s : ℕ) → s < n → cell_at st s < cells

-- each of k motions leads from one of n states to another one
pub record Leads (n k : ℕ) (mv : List ℕ) : Type 0 where
  pub from : (m : ℕ) → m < k → from_at mv m < n
  pub to : (m : ℕ) → m < k → to_at mv m < n
  pub apart : (m : ℕ) → m < k → from_at mv m ≡ to_at mv m → ⊥
