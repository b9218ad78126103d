-- `search_bytes::exchange` meets its contract, which is its code.
-- Assumes nothing.
use Rattle.std.proofs.Common.{refl}
use Rattle.search_bytes.specs.Words.{exchanged}
use Rattle.search_bytes.proofs.exchange.Goals as goal

pub returns : goal.returns
unfolding exchanged
returns c = refl
