-- `search_arrivals::narrow_sweep` meets its contract: up to four ticks one run has them all.
-- Assumes nothing.
use Prim.Native.Nat.{ℕ, suc, ◌-◌, ◌≤◌, ◌<◌}
use mathlib.Core.Path.{◌≡◌, sym, ap, ◌∙◌}
use Rattle.search_runs.specs.Runs.{table_of}
use Rattle.search_runs.proofs.LengthLaws.{table_small}
use Rattle.search_arrivals.proofs.SweepLaws.{sweep_short, row_room}
use native.Mathlib.Omega.{arith}
use Rattle.search_arrivals.proofs.narrow_sweep.Goals as goal

-- the table of a sweep of no more than four ticks
table_is : (first last t : ℕ) → t ≡ last - first → first ≤ last → t < 4 → t ≡ table_of (suc last - first)
table_is first last t e h few = let more : suc last - first ≡ suc t = omega arith in sym (ap table_of more ∙ table_small t few)

pub narrow-requires : goal.narrow-requires
narrow-requires c =
    let w = c.args.w in
    let table = table_is w.first w.last c.from-size.result c.from-size.ensures c.requires.first_le_last.0 (omega arith) in
    let p = c.requires.cell_lt_cells in
    (row_room c.from-size.result (suc w.last - w.first) c.args.cells w.cell _ table p.0 p.1.1, omega arith)

pub returns-then-size-lt4 : goal.returns-then-size-lt4
returns-then-size-lt4 c g tables b there right =
    let w = c.args.w in
    let t = c.from-size.result in
    let size : ℕ = suc w.last - w.first in
    let table = table_is w.first w.last t c.from-size.ensures c.requires.first_le_last.0 (omega arith) in
    sweep_short g c.args.cells tables b c.args.tab.now right t w.cell (omega (arith, table)) c.requires.cell_lt_cells.0
    _ _ size (c.args.span - w.last) (omega arith) (omega arith) (omega arith) (rw c.from.ensures at c.narrow.ensures)
