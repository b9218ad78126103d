-- `search_reach::explore_block` meets its contract: each table of the block is handed what the ones before it leave.
-- Assumes nothing.
use native.Mathlib.Nat.{mul-le-mul_right}
use native.Mathlib.Omega.{arith}
use mathlib.Core.Path.{◌∙◌}
use Rattle.search_reach.proofs.BlockLaws.{facts, room_made, space_kept, tables_made, right_made}
use Rattle.search_reach.proofs.explore_block.Goals as goal

pub free_block-requires : goal.free_block-requires
free_block-requires c =
    let q = facts c.args.scene.now.hall.ready in
    let s = c.requires.space in
    record {
      cells_le_cell_limit = (q.few, (q.short, q.board));
      window_words_in_bounds = (omega (arith, mul-le-mul_right c.args.scene.now.hall.sizes.cells s.some, s.tab, c.shift_rows.ensures.sized), (c.requires.block_lt_blocks, q.near));
    }

pub settle-requires-clause-room : goal.settle-requires-clause-room
settle-requires-clause-room c =
    let same = c.fill_runs.ensures.tab_len_unchanged ∙ c.free_block.ensures.sized ∙ c.shift_rows.ensures.sized in
    (room_made _ _ _ c.args.tables (facts c.args.scene.now.hall.ready).few (space_kept _ _ _ _ _ c.requires.space same), c.requires.block_lt_blocks)

pub returns-clause-by_first : goal.returns-clause-by_first
returns-clause-by_first c = λ first late lists ahead.
    let s = c.args.scene.now in
    let right = tables_made _ s.hall.board.now s.hall.sizes c.args.tables c.args.block first s.hall.ready _ _ _ c.fill_runs.new.tab late
    c.shift_rows.ensures c.free_block.ensures c.fill_runs.ensures.by_index ahead in
    (right, c.settle.ensures.by_index _ (right_made _ s.hall.board.now s.hall.sizes c.args.tables c.args.block first s.hall.ready _ _ _ _ s.arrays c.requires.space right) lists)
