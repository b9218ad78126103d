-- `search_arrivals::narrow` meets its contract: the words below i are narrowed down.
-- Assumes nothing.
use Rattle.search_arrivals.proofs.WordLaws.{windows, Narrowing}
use Rattle.search_arrivals.proofs.narrow.Given as goal

abbrev pub invariant-loop-i : goal.invariant-loop-i
invariant-loop-i l = Narrowing (windows l.tab l.b l.e) l.initial.x l.x l.i
