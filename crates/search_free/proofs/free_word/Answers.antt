-- `search_free::free_word` meets its contract: the bytes are those of the ticks that the row has.
-- Assumes nothing.
use Rattle.search_free.proofs.MarginLaws.{free_bits_of}
use Rattle.search_free.proofs.free_word.Goals as goal

pub returns : goal.returns
returns c = free_bits_of _ _ _ _ _ c.min-low.ensures c.min-high.ensures c.free_word.ensures
