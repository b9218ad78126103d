-- `site_read::fill_index` meets its contract. The invariant: the places of the motions left behind are there, and the next motion is at the place.
-- Assumes nothing.
use Prim.Native.Nat.{ℕ, ◌<◌}
use lib.ListN.{get_or}
use Rattle.site_read.specs.Motions.{MotionPlace}
use Rattle.site_read.proofs.Laws.{Reached}
use Rattle.site_read.proofs.fill_index.Given as goal

abbrev pub invariant-loop-entry : goal.invariant-loop-entry
invariant-loop-entry l = Reached l.file.bytes.now l.at l.entry-index × ((k : ℕ) → k < l.entry-index → MotionPlace l.file.bytes.now k (get_or l.entry-items k 0))
