-- `search_free::free_block` meets its contract: the second halves of the rows below c are done, and all else is as before.
-- Assumes nothing.
use Rattle.search_free.proofs.CellLaws.{FreeRows}
use Rattle.search_free.proofs.free_block.Given as goal

abbrev pub invariant-loop-c : goal.invariant-loop-c
invariant-loop-c l = FreeRows l.board l.width l.margin l.block l.initial.tab l.tab l.c
