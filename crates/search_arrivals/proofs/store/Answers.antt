-- `search_arrivals::store` meets its contract: the four words stand in the place of the row's.
-- Assumes nothing.
use Rattle.search_arrivals.proofs.WordLaws.{put_words}
use native.Mathlib.Omega.{arith}
use Rattle.search_arrivals.proofs.store.Goals as goal

pub returns : goal.returns
returns c = put_words _ _ _ _ _ c.requires c.told-x (omega arith) c.copy_from_slice.ensures.after
