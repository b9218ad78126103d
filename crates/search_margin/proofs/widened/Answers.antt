-- `search_margin::widened` meets its contract: the two words that begin m bits before the word, each bit joined with the 2 m after it.
-- Assumes nothing.
use Rattle.std.proofs.Common.{arith}
use Rattle.search_margin.proofs.WideningLaws.{spread_none, widened_done}
use Rattle.search_margin.proofs.widened.Goals as goal

pub returns-then-lo-hi-eq0 : goal.returns-then-lo-hi-eq0
returns-then-lo-hi-eq0 c = widened_done c.args.before c.args.here c.args.after c.args.m (omega arith) (omega arith) (omega arith) (omega arith) _ _ _
    c.window-lo.ensures c.window-hi.ensures (spread_none _ _ _ c.if-lo-hi-eq0.true)

pub returns : goal.returns
returns c = widened_done c.args.before c.args.here c.args.after c.args.m (omega arith) (omega arith) (omega arith) (omega arith) _ _ _
    c.window-lo.ensures c.window-hi.ensures c.spread.ensures
