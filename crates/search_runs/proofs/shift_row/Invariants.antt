-- `search_runs::shift_row` meets its contract: what is left of the loop gives the whole row.
-- Assumes nothing.
use Rattle.search_runs.proofs.WordLaws.{Writing, shift_word}
use Rattle.search_runs.proofs.shift_row.Given as goal

abbrev pub invariant-loop-i : goal.invariant-loop-i
invariant-loop-i l = Writing (shift_word l.initial.tab l.a) l.a l.initial.tab l.tab l.i
