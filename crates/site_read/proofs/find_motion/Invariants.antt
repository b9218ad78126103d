-- `site_read::find_motion` meets its contract. The invariant: as many motions lie before the place as were left behind.
-- Assumes nothing.
use Rattle.site_read.proofs.Laws.{Reached}
use Rattle.site_read.proofs.find_motion.Given as goal

abbrev pub invariant-loop : goal.invariant-loop
invariant-loop l = Reached l.file.bytes.now l.at l.counter
