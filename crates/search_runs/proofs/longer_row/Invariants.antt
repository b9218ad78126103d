-- `search_runs::longer_row` meets its contract: what is left of the loop gives the whole row.
-- Assumes nothing.
use Rattle.search_runs.proofs.WordLaws.{Writing, long_word}
use Rattle.search_runs.proofs.longer_row.Given as goal

abbrev pub invariant-loop-i : goal.invariant-loop-i
invariant-loop-i l = Writing (long_word l.initial.tab l.a l.b l.e) l.d l.initial.tab l.tab l.i
