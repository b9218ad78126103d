-- `search_margin::spread` meets its contract: each turn joins each bit with the one k later, and the last step with the one n - k later.
-- Assumes nothing.
use Rattle.std.proofs.Common.{◌-◌}
use Rattle.search_margin.proofs.WideningLaws.{Doubled}
use Rattle.search_margin.proofs.spread.Given as goal

abbrev pub invariant-loop-k : goal.invariant-loop-k
invariant-loop-k l = Doubled l.lo l.hi l.n l.a l.b l.k

abbrev pub decreases-loop-k : goal.decreases-loop-k
decreases-loop-k l = l.n - l.k
