-- `site_layout::centres_laid` meets its contract. The invariant: n fields are left behind, and the others answer as all do.
-- Assumes nothing.
use Prim.Native.Nat.{◌≤◌, ◌-◌, ◌+◌}
use mathlib.Core.Path.{◌≡◌}
use mathlib.Core.Bool.{true}
use lib.ListN.{length}
use Rattle.meaning.specs.Basics.{all}
use Rattle.meaning.specs.Fields.{complete, listed}
use Rattle.meaning.specs.Site.{is_centre}
use Rattle.fields.specs.Places.{fields_at}
use Rattle.site_layout.proofs.centres_laid.Given as goal

abbrev pub invariant-loop-at : goal.invariant-loop-at
invariant-loop-at l =
    (l.at ≤ length l.file)
    × (l.n ≤ l.at)
    × (complete (fields_at l.file l.at) ≡ true)
    × (l.n + length (listed (fields_at l.file l.at)) ≡ length (listed (fields_at l.file l.start)))
    × (all is_centre (listed (fields_at l.file l.at)) ≡ all is_centre (listed (fields_at l.file l.start)))

abbrev pub decreases-loop-at : goal.decreases-loop-at
decreases-loop-at l = length l.file - l.at
