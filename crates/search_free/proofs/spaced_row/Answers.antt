-- `search_free::spaced_row` meets its contract: the words before and at the next tick are at hand, and the words below i are done.
-- Assumes nothing.
use Rattle.std.proofs.Common.{arith}
use Rattle.search_free.proofs.MarginLaws.{spacing_start, spacing_turn, put_four}
use Rattle.search_free.proofs.spaced_row.Goals as goal

pub loop-i-init : goal.loop-i-init
loop-i-init c = spacing_start _ _ _ _ _ _ _ c.held_before-before.ensures c.held_word-here.ensures

pub loop-i-preserved : goal.loop-i-preserved
loop-i-preserved c = let turn = c.loop-i in
    spacing_turn _ _ _ _ _ _ _ _ _ _ _ _ (omega arith) (omega arith) (omega arith) (omega (arith, turn.invariant.row.sized)) c.held_word-after.ensures
    c.widened-near.ensures c.present.ensures turn.invariant

pub returns : goal.returns
returns c = put_four _ _ _ _ _ _ (omega arith) (omega arith) (omega arith) c.loop-i.invariant.row
