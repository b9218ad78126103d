-- `site_handover::linked_to` meets its contract.
-- Assumes nothing.
use Rattle.site_sweeps.specs.Places.{sweeps_in}
use Rattle.site_handover.specs.Links.{Linked}
use Rattle.site_handover.proofs.linked_to.Given as goal

abbrev pub invariant-loop-s : goal.invariant-loop-s
invariant-loop-s l = Linked (sweeps_in l.sweeps) l.j l.end
