-- `search_arrivals::narrow_long` meets its contract: two runs of the sweep's table have all of its ticks.
-- Assumes nothing.
use Prim.Native.Nat.{ℕ, suc, ◌+◌, ◌-◌, ◌≤◌}
use mathlib.Core.Path.{◌≡◌, sym, ap, ◌∙◌, subst}
use Rattle.search_runs.specs.Runs.{run_length, table_of}
use Rattle.search_runs.proofs.LengthLaws.{Serving, table_serves}
use Rattle.search_arrivals.proofs.SweepLaws.{sweep_long}
use native.Mathlib.Omega.{arith}
use Rattle.search_arrivals.proofs.narrow_long.Goals as goal

-- the table of n ticks, and what it serves
serves_it : (n t : ℕ) → t ≡ table_of n → 1 ≤ n → n ≤ 256 → Serving n t (run_length t)
serves_it n t e some few = subst (λ (x : ℕ). Serving n x (run_length x)) (sym e) (table_serves n some few)

pub overflow_sub-span-3 : goal.overflow_sub-span-3
overflow_sub-span-3 c =
    let serves = serves_it _ _ c.table_of-t.ensures.0 (omega arith) (omega arith) in
    omega (arith, c.length_of.ensures.0, serves.within)

pub returns : goal.returns
returns c g tables b there right =
    let w = c.args.w in
    let size : ℕ = suc w.last - w.first in
    let number : c.from-last.result + 1 - c.from-first.result ≡ size = omega arith in
    let table : c.table_of-t.result ≡ table_of size = c.table_of-t.ensures.0 ∙ ap table_of number in
    let serves = serves_it _ _ table (omega arith) (omega arith) in
    let l = c.length_of.ensures.0 in
    sweep_long g c.args.cells tables b c.args.tab.now right c.table_of-t.result w.cell (omega (arith, table)) c.requires.cell_lt_cells.0
    _ _ _ size (c.args.span - w.last) _
    serves.within serves.twice (omega (arith, serves.within)) (omega arith)
    (rw c.from-last.ensures at c.narrow.ensures) c.narrow-2.ensures
