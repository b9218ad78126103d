-- `site_read::state_value` meets its contract.
-- Assumes nothing.
use Rattle.site_layout.proofs.Laws.{laid_small, laid_value}
use Rattle.site_read.proofs.state_value.Goals as goal

pub state_place-requires : goal.state_place-requires
state_place-requires c = laid_small c.args.file.now.bytes.now c.args.file.now.laid c.args.i c.requires

pub returns : goal.returns
returns c = laid_value c.args.file.now.bytes.now c.args.file.now.laid c.args.i _ c.requires c.state_place.ensures
