-- `site_handover::last_from` meets its contract.
-- Assumes nothing.
use Rattle.site_handover.proofs.LinkLaws.{last_early, last_used, last_unused}
use Rattle.site_sweeps.specs.Places.{sweep_of}
use Rattle.site_handover.proofs.last_from.Goals as goal

pub returns-then-w-j : goal.returns-then-w-j
returns-then-w-j c = last_early (sweep_of c.args.w) c.args.j c.if-w-j.true

pub returns-then-meets : goal.returns-then-meets
returns-then-meets c = last_used (sweep_of c.args.w) c.args.j c.meets.ensures.value c.if-meets.true

pub returns : goal.returns
returns c = last_unused (sweep_of c.args.w) c.args.j c.meets.ensures.value c.if-meets.false
