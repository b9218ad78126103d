-- `search_free::free_row` meets its contract: the words below i are done.
-- Assumes nothing.
use Rattle.std.proofs.Common.{◌+◌, ◌*◌}
use Rattle.search_sizes.specs.Sizes.{block_ticks}
use Rattle.search_free.specs.Frees.{free_to}
use Rattle.search_free.proofs.MarginLaws.{PutWords}
use Rattle.search_free.proofs.free_row.Given as goal

abbrev pub invariant-loop-i : goal.invariant-loop-i
invariant-loop-i l = PutWords l.initial.tab l.tab l.a l.i (λ k. free_to l.row (block_ticks * l.block + k))
