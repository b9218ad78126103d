-- `search_fixpoint::spread_all` meets its contract: every state whose turn comes before s was tried.
-- Assumes nothing.
use mathlib.Core.Path.{◌≡◌}
use lib.ListN.{length}
use Rattle.search_step.specs.Blocks.{BlockClosed}
use Rattle.search_spread.specs.Notes.{Same, Steps, AllStillTried}
use Rattle.search_spread.specs.Spread.{Progress}
use Rattle.search_fixpoint.proofs.TurnLaws.{Quiet}
use Rattle.search_fixpoint.proofs.spread_all.Given as goal

abbrev pub invariant-loop-s : goal.invariant-loop-s
invariant-loop-s l =
    let before = l.initial in
    Same before.notes l.notes
    × Steps l.block before.notes before.reached l.notes l.reached (BlockClosed l.block) (AllStillTried l.block l.lists before.notes before.reached l.notes l.reached)
    × (length l.notes.grown.now ≡ length before.notes.grown.now)
    × Progress before.reached l.reached (Quiet l.n l.down l.s l.notes.grown.now)
