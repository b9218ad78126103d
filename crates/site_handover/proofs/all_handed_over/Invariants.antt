-- `site_handover::all_handed_over` meets its contract.
-- Assumes nothing.
use Prim.Native.Nat.{◌-◌}
use mathlib.Core.Path.{◌≡◌}
use mathlib.Core.Bool.{true}
use Rattle.meaning.specs.Basics.{all_below}
use Rattle.meaning.specs.Site.{handover}
use Rattle.site_sweeps.specs.Places.{sweeps_in}
use Rattle.site_handover.proofs.all_handed_over.Given as goal

abbrev pub invariant-loop-j : goal.invariant-loop-j
invariant-loop-j l = all_below (handover (sweeps_in l.sweeps)) l.j ≡ true

abbrev pub decreases-loop-j : goal.decreases-loop-j
decreases-loop-j l = l.span - l.j
