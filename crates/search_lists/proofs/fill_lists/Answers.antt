-- `search_lists::fill_lists` meets its contract: the motions from m on are on their lists.
-- Assumes nothing.
use native.Mathlib.Omega.{arith}
use lib.ListN.{length-set}
use Rattle.search_lists.proofs.ListLaws.{first_in, listing_more}
use Rattle.search_lists.proofs.fill_lists.Goals as goal

pub overflow_add-first : goal.overflow_add-first
overflow_add-first c = omega (arith, first_in _ _ _ _ _ _ _ _ (omega arith) c.state_at.ensures c.requires.motions.1 c.loop-m.invariant)

pub offset_bounds-lists-first : goal.offset_bounds-lists-first
offset_bounds-lists-first c = omega (arith, first_in _ _ _ _ _ _ _ _ (omega arith) c.state_at.ensures c.requires.motions.1 c.loop-m.invariant)

pub bounds-lists-first : goal.bounds-lists-first
bounds-lists-first c = first_in _ _ _ _ _ _ _ _ (omega arith) c.state_at.ensures c.requires.motions.1 c.loop-m.invariant

pub offset_bounds-lists-first-in-loop-m : goal.offset_bounds-lists-first-in-loop-m
offset_bounds-lists-first-in-loop-m c = omega (arith, first_in _ _ _ _ _ _ _ _ (omega arith) c.state_at.ensures c.requires.motions.1 c.loop-m.invariant)

pub bounds-lists-first-in-loop-m : goal.bounds-lists-first-in-loop-m
bounds-lists-first-in-loop-m c = simp length-set (first_in _ _ _ _ _ _ _ _ (omega arith) c.state_at.ensures c.requires.motions.1 c.loop-m.invariant)

pub loop-m-preserved : goal.loop-m-preserved
loop-m-preserved c = listing_more _ _ _ _ _ _ _ (omega arith) (omega arith) c.state_at.ensures c.requires.motions.1 c.loop-m.invariant
