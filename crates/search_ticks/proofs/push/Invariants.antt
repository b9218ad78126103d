-- `search_ticks::push` meets its contract: the first loop reads the words that come, and the second joins them word by word.
-- Assumes nothing.
use Rattle.search_ticks.proofs.RowLaws.{Joining}
use Rattle.search_ticks.proofs.SetLaws.{come_word, Come}
use Rattle.search_ticks.proofs.push.Given as goal

abbrev pub invariant-loop-i : goal.invariant-loop-i
invariant-loop-i l = Come l.l l.k l.a l.c l.r l.come l.i

abbrev pub invariant-loop-i-2 : goal.invariant-loop-i-2
invariant-loop-i-2 l = Joining (come_word l.initial.l l.k l.a l.c l.r) l.b l.initial.l l.l l.diff l.i
