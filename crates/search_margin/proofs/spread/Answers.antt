-- `search_margin::spread` meets its contract: each turn joins each bit with the one k later, and the last step with the one n - k later.
-- Assumes nothing.
use Rattle.std.proofs.Common.{arith}
use Rattle.search_margin.proofs.WideningLaws.{doubled_one, doubled_turn, spread_done}
use Rattle.search_margin.proofs.spread.Goals as goal

pub loop-k-init : goal.loop-k-init
loop-k-init c = doubled_one _ _ _ (omega arith) (omega arith)

pub loop-k-preserved : goal.loop-k-preserved
loop-k-preserved c = let turn = c.loop-k in
    doubled_turn turn.invariant _ (omega arith) (omega arith) c.window-a.ensures

pub returns : goal.returns
returns c = let end = c.loop-k in
    spread_done end.invariant _ (omega arith) (omega arith) c.window.ensures
