-- `search_plan::search_new` meets its contract: its tables have room, and the reached pairs are none at first.
-- Assumes nothing.
use Rattle.search_plan.proofs.PartsLaws.{blank}
use Rattle.search_plan.proofs.search_new.Goals as goal

pub search_in-requires-clause-none_reached : goal.search_in-requires-clause-none_reached
search_in-requires-clause-none_reached g c = blank g.row.REACHED_WORDS
