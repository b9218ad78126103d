-- `search_bytes::held_eight` meets its contract: its sum is below 2 ^ 64, and the rest is the definition.
-- Assumes nothing.
use Rattle.std.proofs.Common.{refl}
use Rattle.search_bytes.specs.Words.{held_of}
use Rattle.search_bytes.proofs.held_eight.Goals as goal

pub returns : goal.returns
unfolding held_of
returns c = refl
