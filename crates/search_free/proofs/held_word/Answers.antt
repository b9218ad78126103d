-- `search_free::held_word` meets its contract: the ticks that there are, without the free ones.
-- Assumes nothing.
use Rattle.search_free.proofs.MarginLaws.{held_bits}
use Rattle.search_free.proofs.held_word.Goals as goal

pub returns : goal.returns
returns c = held_bits _ _ _ _ c.free_word.ensures c.present.ensures
