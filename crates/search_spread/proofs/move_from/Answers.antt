-- `search_spread::move_from` meets its contract: the motions of the list before m are closed, unless growth of s itself is noted.
-- Assumes nothing.
use Prim.Native.Nat.{◌<◌}
use native.Mathlib.Omega.{arith}
use lib.ListN.{length}
use Rattle.search_spread.proofs.WalkLaws.{walked_more, walked_last, walked_end, walk_more, walk_end}
use Rattle.search_spread.proofs.move_from.Goals as goal

-- one more motion is tried, and none stands behind it
pub returns-then-after-m-clause-steps : goal.returns-then-after-m-clause-steps
returns-then-after-m-clause-steps c =
    let a = c.args in
    let block = a.block.now in
    let network = block.network in
    let l = c.loop-m in
    let moved = c.move_one-new in
    let new = moved.new in
    let to = c.to_of-to.result in
    let known : to < length a.notes.now.grown.now = omega (arith, c.to_of-to.ensures, network.motions_lead.to l.m c.loop-m-test.true, c.requires.fit.1.grown) in
    let w = walk_more new.known new.allowed new.reached l.m to moved.result
    c.loop-m-test.true c.to_of-to.ensures known moved.ensures.row_set moved.ensures.allowed_len_unchanged moved.ensures.closed
    (λ g row room closed.
    walked_last network.motion_count network.motions.now network.sweeps.now a.lists.now block.number a.s g l.reached new.reached l.notes.grown.now
    l.m moved.result to block.in_range room row closed
    (omega (arith, c.if-after-m.true, c.listed_at-after.ensures))) l.invariant.1 in
    w.steps

pub loop-m-preserved : goal.loop-m-preserved
loop-m-preserved c =
    let a = c.args in
    let block = a.block.now in
    let network = block.network in
    let l = c.loop-m in
    let moved = c.move_one-new in
    let new = moved.new in
    let to = c.to_of-to.result in
    let known : to < length a.notes.now.grown.now = omega (arith, c.to_of-to.ensures, network.motions_lead.to l.m c.loop-m-test.true, c.requires.fit.1.grown) in (
      record { allowed = l.invariant.0.allowed; known = l.invariant.0.known; grown = l.invariant.0.grown },
      walk_more new.known new.allowed new.reached l.m to moved.result
          c.loop-m-test.true c.to_of-to.ensures known moved.ensures.row_set moved.ensures.allowed_len_unchanged moved.ensures.closed
          (λ g row room closed.
          walked_more network.motion_count network.motions.now network.sweeps.now a.lists.now block.number a.s g l.reached new.reached l.notes.grown.now
          l.m moved.result to block.in_range room row closed
          c.listed_at-after.result c.listed_at-after.ensures) l.invariant.1,
    )

-- the list is at its end
pub returns-clause-steps : goal.returns-clause-steps
returns-clause-steps c =
    let a = c.args in
    let block = a.block.now in
    let network = block.network in
    let l = c.loop-m in
    let w = walk_end (λ g. walked_end network.motion_count network.motions.now network.sweeps.now a.lists.now block.number a.s g l.reached l.notes.grown.now l.m (omega arith)) l.invariant.1 in
    w.steps
