-- `search_back::first_move` meets its contract. The loop's invariant: each motion is a miss, or is on the list from m on.
-- Assumes nothing.
use Prim.Native.Nat.{◌-◌}
use Rattle.site.specs.Halls.{site_in, free_in}
use Rattle.search_back.proofs.WalkLaws.{Walked}
use Rattle.search_back.proofs.first_move.Given as goal

abbrev pub invariant-loop-m : goal.invariant-loop-m
invariant-loop-m l =
    let scene = l.scene in
    Walked (site_in scene.hall) (free_in scene.hall) l.reached l.s l.t scene.hall.sizes.motions l.lists l.m

abbrev pub decreases-loop-m : goal.decreases-loop-m
decreases-loop-m l = l.scene.hall.sizes.motions - l.m
