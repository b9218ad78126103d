-- `search_ticks::push` meets its contract: the first loop reads the words that come, and the second joins them word by word.
-- Assumes nothing.
use Rattle.std.proofs.Common.{arith, rules}
use Rattle.search_ticks.proofs.RowLaws.{joining_turn}
use Rattle.search_ticks.proofs.SetLaws.{come_turn, push_done}
use Rattle.search_ticks.proofs.push.Goals as goal

pub loop-i-preserved : goal.loop-i-preserved
loop-i-preserved c = come_turn _ _ _ _ _ _ _ _ (omega arith) c.window.ensures c.loop-i.invariant

pub loop-i-2-preserved : goal.loop-i-2-preserved
loop-i-2-preserved c =
    let i = c.loop-i-2.invariant in
    joining_turn _ _ _ _ _ (omega arith) (omega (arith, i.grown.sized)) (c.loop-i.invariant.words c.loop-i-2.i (omega arith)) i

pub returns-clause-changed : goal.returns-clause-changed
returns-clause-changed c = push_done _ _ _ c.args.from c.args.to c.args.m c.args.span c.args.block _ _ _ _ _ _ (λ j. search rules)
    (omega arith) (omega arith) (omega arith) (omega arith) (omega arith) (omega arith) (omega arith) (omega arith) (omega arith) c.loop-i-2.invariant
