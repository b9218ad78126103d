-- `search_free::free_row` meets its contract: the words below i are done.
-- Assumes nothing.
use Rattle.std.proofs.Common.{arith, ap, ◌∙◌}
use Rattle.search_free.specs.Frees.{free_to}
use Rattle.search_free.proofs.MarginLaws.{put_none, put_more, put_four}
use Rattle.search_free.proofs.free_row.Goals as goal

pub loop-i-init : goal.loop-i-init
loop-i-init c = put_none _ _ _

pub loop-i-preserved : goal.loop-i-preserved
loop-i-preserved c =
    put_more _ _ _ _ _ _ (omega (arith, c.loop-i.invariant.sized)) (λ j lt. c.free_word.ensures j lt ∙ ap (free_to c.args.row.now) (omega arith)) c.loop-i.invariant

pub returns : goal.returns
returns c = put_four _ _ _ _ _ _ (omega arith) (omega arith) (omega arith) c.loop-i.invariant
