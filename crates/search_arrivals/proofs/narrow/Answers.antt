-- `search_arrivals::narrow` meets its contract: the words below i are narrowed down.
-- Assumes nothing.
use Rattle.search_arrivals.proofs.WordLaws.{narrowing_end}
use native.Mathlib.Omega.{arith}
use Rattle.search_arrivals.proofs.narrow.Goals as goal

pub returns : goal.returns
returns c = narrowing_end _ _ _ _ _ _ (λ i. (c.type_inv.tab i).fits) c.requires.1 (omega arith) c.loop-i.invariant
