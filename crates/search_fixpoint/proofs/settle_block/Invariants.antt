-- `search_fixpoint::settle_block` meets its contract: where no growth is noted, waits and motions are closed; a turn sets a bit, or is the last one.
-- Assumes nothing.
use mathlib.Core.Path.{◌≡◌}
use lib.ListN.{length}
use Rattle.search_step.specs.Blocks.{BlockClosed}
use Rattle.search_spread.specs.Notes.{Same, Steps, AllStillTried}
use Rattle.search_fixpoint.proofs.TurnLaws.{left}
use Rattle.search_fixpoint.proofs.settle_block.Given as goal

abbrev pub invariant-loop-reached : goal.invariant-loop-reached
invariant-loop-reached l =
    let before = l.initial in
    Same before.notes l.notes
    × Steps l.block before.notes before.reached l.notes l.reached (BlockClosed l.block) (AllStillTried l.block l.lists before.notes before.reached l.notes l.reached)
    × (length l.notes.grown.now ≡ length before.notes.grown.now)

abbrev pub decreases-loop-reached : goal.decreases-loop-reached
decreases-loop-reached l = left l.n l.reached l.notes.grown.now
