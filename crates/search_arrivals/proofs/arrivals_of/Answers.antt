-- `search_arrivals::arrivals_of` meets its contract: what is left to test, with the words as they are, is the whole test.
-- Assumes nothing.
use Prim.Native.Nat.{suc, ◌-◌}
use mathlib.Core.Path.{◌∙◌}
use Rattle.search_arrivals.proofs.SweepLaws.{testing_start, testing_turn, testing_end, table_room, table_there, read_order, read_end, read_cell}
use native.Mathlib.Omega.{arith}
use Rattle.search_arrivals.proofs.arrivals_of.Goals as goal

pub loop-i-init : goal.loop-i-init
loop-i-init c g tables b there right = testing_start g _ _ _ _ b

pub narrow_sweep-requires-clause-cell_lt_cells : goal.narrow_sweep-requires-clause-cell_lt_cells
narrow_sweep-requires-clause-cell_lt_cells c =
    let p = c.requires.block_words_in_bounds.1 in
    let w = c.read_sweep-sweep.result in
    let order = read_order _ _ _ _ _ _ w p.0 (omega arith) c.read_sweep-sweep.ensures in
    let end = read_end _ _ _ _ _ _ w p.0 (omega arith) c.read_sweep-sweep.ensures in (
      read_cell _ _ _ _ _ _ w p.0 (omega arith) c.read_sweep-sweep.ensures,
      (c.requires.cells_le_cell_limit.0, table_room (suc w.last - w.first) c.args.span c.args.cells _ (omega arith) (omega arith) p.1 c.requires.cells_le_cell_limit.1),
    )

pub loop-i-preserved : goal.loop-i-preserved
loop-i-preserved c g tables b there right =
    let p = c.requires.block_words_in_bounds.1 in
    let w = c.read_sweep-sweep.result in
    let is = c.read_sweep-sweep.ensures in
    let order = read_order _ _ _ _ _ _ w p.0 (omega arith) is in
    let end = read_end _ _ _ _ _ _ w p.0 (omega arith) is in
    testing_turn g _ _ _ _ b _ _ _ w (omega arith) p.0.long is
    (c.narrow_sweep.ensures g tables b (table_there (suc w.last - w.first) c.args.span tables (omega arith) (omega arith) p.1 there) right)
    (c.loop-i.invariant g tables b there right)

pub returns-clause-by_index_2 : goal.returns-clause-by_index_2
returns-clause-by_index_2 c g tables b there right i h =
    c.store.ensures.here i h ∙ testing_end g _ _ _ _ b _ _ (omega arith) (c.loop-i.invariant g tables b there right) i h
