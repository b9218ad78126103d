-- `site_layout::is_motion` meets its contract.
-- Assumes nothing.
use Rattle.site_layout.proofs.Laws.{motion_tagged}
use Rattle.site_layout.proofs.is_motion.Goals as goal

pub returns : goal.returns
returns c = motion_tagged _ _ _ c.tagged.ensures c.is_some_and.ensures
