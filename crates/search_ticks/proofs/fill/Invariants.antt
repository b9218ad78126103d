-- `search_ticks::fill` meets its contract: what is left of the loop gives the whole block; the carry is that of the words done.
-- Assumes nothing.
use Rattle.search_ticks.proofs.SetLaws.{Filling}
use Rattle.search_ticks.proofs.fill.Given as goal

abbrev pub invariant-loop-i : goal.invariant-loop-i
invariant-loop-i l = Filling l.initial.l l.f l.a l.b l.l l.carry l.diff l.i
