-- `search_spread::move_from` meets its contract: the motions of the list before m are closed, unless growth of s itself is noted.
-- Assumes nothing.
use Prim.Native.Nat.{◌-◌}
use Rattle.search_spread.specs.Notes.{Same}
use Rattle.search_spread.proofs.WalkLaws.{Walked, Walk}
use Rattle.search_spread.proofs.move_from.Given as goal

abbrev pub invariant-loop-m : goal.invariant-loop-m
invariant-loop-m l =
    let block = l.block in
    let network = block.network in
    let o₀ = l.initial.notes in
    let o = l.notes in
    Same o₀ o
    × Walk network.cell_count network.state_count network.motion_count block.number network.states.now network.motions.now network.sweeps.now block.tab.now
    o₀.known.now o₀.allowed.now l.initial.reached o₀.grown.now o.known.now o.allowed.now l.reached o.grown.now
    (Walked network.motion_count network.motions.now network.sweeps.now l.lists block.number l.s l.reached o.grown.now l.m)

abbrev pub decreases-loop-m : goal.decreases-loop-m
decreases-loop-m l = l.block.network.motion_count - l.m
