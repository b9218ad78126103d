-- `search_bytes::load_eight` meets its contract: each byte has its worth.
-- Assumes nothing.
use Rattle.std.proofs.Common.{◌∙◌}
use Rattle.search_bytes.proofs.EightLaws.{word_eight}
use Rattle.search_bytes.proofs.load_eight.Goals as goal

pub returns : goal.returns
returns c = c.from_le_bytes.ensures ∙ word_eight c.args.bytes.now c.args.p
