-- `site_layout::layout_good` meets its contract.
-- Assumes nothing.
use Prim.Native.Nat.{◌≤◌, ◌-◌}
use mathlib.Core.Path.{◌≡◌}
use mathlib.Core.Bool.{true}
use lib.ListN.{length}
use Rattle.meaning.specs.Fields.{complete, listed}
use Rattle.meaning.specs.Site.{layout_good}
use Rattle.fields.specs.Places.{fields_at}
use Rattle.site_layout.proofs.layout_good.Given as goal

abbrev pub invariant-loop : goal.invariant-loop
invariant-loop l =
    (l.at ≤ length l.file)
    × (complete (fields_at l.file l.at) ≡ true)
    × (layout_good l.cells (l.count - l.counter) (listed (fields_at l.file l.at)) ≡ layout_good l.cells l.count (listed (fields_at l.file l.start)))
