-- `search_free::spaced_row` meets its contract: the words before and at the next tick are at hand, and the words below i are done.
-- Assumes nothing.
use Rattle.search_free.proofs.MarginLaws.{Spacing}
use Rattle.search_free.proofs.spaced_row.Given as goal

abbrev pub invariant-loop-i : goal.invariant-loop-i
invariant-loop-i l = Spacing l.row l.m l.block l.initial.tab l.tab l.a l.before l.here l.i
