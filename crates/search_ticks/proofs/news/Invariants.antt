-- `search_ticks::news` meets its contract: where no bit is set, each word below i is 0.
-- Assumes nothing.
use Rattle.std.proofs.Common.{◌≡◌}
use Rattle.search_ticks.proofs.SetLaws.{Zeros, news_word}
use Rattle.search_ticks.proofs.news.Given as goal

abbrev pub invariant-loop-i : goal.invariant-loop-i
invariant-loop-i l = (l.all ≡ 0 → Zeros (news_word l.l l.f l.a l.b l.d l.r) l.i)
