-- `site_layout::leading_motions` meets its contract. The invariant: n motions are left behind, and what follows is the rest.
-- Assumes nothing.
use Prim.Native.Nat.{◌≤◌, ◌-◌, ◌+◌}
use mathlib.Core.Path.{◌≡◌}
use mathlib.Core.Bool.{true}
use lib.ListN.{length, drop}
use Rattle.meaning.specs.Fields.{complete, listed}
use Rattle.fields.specs.Places.{fields_at}
use Rattle.site_layout.specs.Laid.{leading}
use Rattle.site_layout.proofs.leading_motions.Given as goal

abbrev pub invariant-loop-at : goal.invariant-loop-at
invariant-loop-at l =
    (l.at ≤ length l.file)
    × (l.n ≤ l.at)
    × (complete (fields_at l.file l.at) ≡ true)
    × (l.n + leading (listed (fields_at l.file l.at)) ≡ leading (listed (fields_at l.file l.start)))
    × (listed (fields_at l.file l.at) ≡ drop l.n (listed (fields_at l.file l.start)))

abbrev pub decreases-loop-at : goal.decreases-loop-at
decreases-loop-at l = length l.file - l.at
