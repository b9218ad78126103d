-- `search_ticks::window_union` meets its contract: where no bit is set, each word below i is 0.
-- Assumes nothing.
use Rattle.std.proofs.Common.{◌≡◌}
use Rattle.search_ticks.proofs.SetLaws.{Zeros, word_from}
use Rattle.search_ticks.proofs.window_union.Given as goal

abbrev pub invariant-loop-i : goal.invariant-loop-i
invariant-loop-i l = (l.all ≡ 0 → Zeros (word_from l.l l.a) l.i)
