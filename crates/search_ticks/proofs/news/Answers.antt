-- `search_ticks::news` meets its contract: where no bit is set, each word below i is 0.
-- Assumes nothing.
use Rattle.std.proofs.Common.{arith, rules}
use Rattle.search_ticks.proofs.SetLaws.{news_turn, news_done}
use Rattle.search_ticks.proofs.news.Goals as goal

pub loop-i-preserved : goal.loop-i-preserved
loop-i-preserved c = news_turn _ _ _ _ _ _ _ _ _ c.window.ensures c.loop-i.invariant

pub returns : goal.returns
returns c = λ e. news_done c.args.l.now c.args.f.now c.args.from c.args.to c.args.c c.args.span c.args.block _ _ _ _ _
    (λ j. search rules) (omega arith) (omega arith) (omega arith) (omega arith) (omega arith) (omega arith)
    (c.loop-i.invariant e)
