-- `search_ticks::fill_word` meets its contract: by the words of its definition.
-- Assumes nothing.
use Rattle.std.proofs.Common.{refl}
use Rattle.search_ticks.specs.Bits.{run_of, fill_of}
use Rattle.search_ticks.proofs.fill_word.Goals as goal

pub returns : goal.returns
unfolding fill_of run_of
returns c = refl
