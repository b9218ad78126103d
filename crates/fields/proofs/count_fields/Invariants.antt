-- `fields::count_fields` meets its contract.
-- Assumes nothing.
use Prim.Native.Nat.{◌≤◌, ◌-◌, ◌+◌}
use mathlib.Core.Path.{◌≡◌}
use mathlib.Core.Bool.{true}
use lib.ListN.{length}
use Rattle.meaning.specs.Fields.{complete, listed}
use Rattle.fields.specs.Places.{fields_at}
use Rattle.fields.proofs.count_fields.Given as goal

abbrev pub invariant-loop-at : goal.invariant-loop-at
invariant-loop-at l =
    (l.at ≤ length l.s)
    × (l.n ≤ l.at)
    × (complete (fields_at l.s l.at) ≡ true)
    × (l.n + length (listed (fields_at l.s l.at)) ≡ length (listed (fields_at l.s l.start)))

abbrev pub decreases-loop-at : goal.decreases-loop-at
decreases-loop-at l = length l.s - l.at
