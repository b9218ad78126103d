-- The ticks of a cell: which are free and which a closure may take, on any site that has the cell, with this horizon and this margin.
-- Assumes nothing.
use Rattle.std.specs.Prelude.{ℕ, suc, ◌-◌, Bool, []}
use Rattle.meaning.specs.Basics.{all_from}
use Rattle.meaning.specs.Site.{Site}
use Rattle.meaning.specs.Board.{free, closable}
use Rattle.board_ticks.specs.declared.cell_ticks.CellTicks.{CellTicks}

-- a site that has the cell, and of which nothing else matters
abbrev pub plain : ℕ → ℕ → ℕ → Site
plain horizon margin cell = record { horizon = horizon; cells = suc cell; margin = margin; states = []; motions = []; centres = [] }

-- which ticks of the cell are free
abbrev pub frees : CellTicks → ℕ → Bool
frees ticks = free (plain ticks.horizon ticks.margin ticks.cell) ticks.board.now ticks.cell

-- which a closure may take
abbrev pub closes : CellTicks → ℕ → Bool
closes ticks = closable (plain ticks.horizon ticks.margin ticks.cell) ticks.board.now ticks.cell

-- a test of each tick from the first to the last, both included
abbrev pub from_to : (ℕ → Bool) → ℕ → ℕ → Bool
from_to good first last = all_from good first (suc last - first)
