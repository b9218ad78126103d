-- `site_handover::linked_to` meets its contract.
-- Assumes nothing.
use Rattle.site_handover.proofs.LinkLaws.{among_read, linked_on}
use Rattle.site_handover.proofs.linked_to.Goals as goal

pub loop-s-preserved : goal.loop-s-preserved
loop-s-preserved c =
    let among = among_read c.args.sweeps.now c.loop-s.s-index _ c.loop-s-test.true c.from.ensures in
    linked_on _ _ among _ _ _ c.loop-s.invariant c.last_from-end.ensures
