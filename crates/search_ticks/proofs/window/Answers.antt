-- `search_ticks::window` meets its contract: by the words of its definition.
-- Assumes nothing.
use Rattle.std.proofs.Common.{refl}
use Rattle.search_ticks.specs.Bits.{window_of}
use Rattle.search_ticks.proofs.window.Goals as goal

pub returns : goal.returns
unfolding window_of
returns c = refl
