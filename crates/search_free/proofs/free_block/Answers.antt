-- `search_free::free_block` meets its contract: the second halves of the rows below c are done, and all else is as before.
-- Assumes nothing.
use Rattle.std.proofs.Common.{arith}
use Rattle.search_free.proofs.CellLaws.{rows_done}
use Rattle.search_free.proofs.free_block.Goals as goal

pub returns : goal.returns
returns c = let end = c.loop-c in
    rows_done c.args.board.now c.args.cells c.args.horizon c.args.margin c.args.block c.args.tab.now _ end.c (omega arith) (omega arith) (omega arith) end.invariant
