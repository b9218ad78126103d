-- `site_handover::all_handed_over` meets its contract.
-- Assumes nothing.
use mathlib.Core.Path.{sym}
use Rattle.meaning.specs.Site.{handover}
use Rattle.site_sweeps.specs.Places.{sweeps_in}
use Rattle.site_handover.proofs.LinkLaws.{below_zero, below_miss, below_less, linked_below}
use native.Mathlib.Omega.{arith}
use Rattle.site_handover.proofs.all_handed_over.Goals as goal

pub loop-j-init : goal.loop-j-init
loop-j-init c = below_zero _

pub returns-then-next-j : goal.returns-then-next-j
returns-then-next-j c =
    let l = c.loop-j in
    sym (below_miss (handover (sweeps_in c.args.sweeps.now)) c.args.span l.j (omega arith) (c.handed_to-next.ensures.1 (omega arith)))

pub loop-j-preserved : goal.loop-j-preserved
loop-j-preserved c = linked_below _ _ _ c.loop-j.invariant c.handed_to-next.ensures.0

pub returns : goal.returns
returns c =
    let l = c.loop-j in
    sym (below_less (handover (sweeps_in c.args.sweeps.now)) c.args.span l.j (omega arith) l.invariant)
