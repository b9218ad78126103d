-- `search_back::first_move` meets its contract. The loop's invariant: each motion is a miss, or is on the list from m on.
-- Assumes nothing.
use native.Mathlib.Omega.{arith}
use Rattle.plan_steps.proofs.Laws.{known}
use Rattle.search_back.proofs.SceneLaws.{motion_shown}
use Rattle.search_back.proofs.WalkLaws.{walked_start, walked_more, walked_hit, walked_last, walked_end, first_found, first_none}
use Rattle.search_back.proofs.first_move.Goals as goal

pub loop-m-init : goal.loop-m-init
loop-m-init c =
    walked_start _ _ _ _ _ _ _ _ _ c.requires.listed.0 (λ i h. (motion_shown c.args.scene.now i h).to) c.listed_at-m.ensures

pub returns-then-move_hit : goal.returns-then-move_hit
returns-then-move_hit c =
    first_found _ _ _ _ _ _ (known c.args.scene.now.hall.ready).motions _ c.loop-m-test.true
    (walked_hit _ _ _ _ _ _ _ _ _ c.move_hit.ensures c.loop-m.invariant c.loop-m-test.true c.if-move_hit.true)

pub returns-then-after-m : goal.returns-then-after-m
returns-then-after-m c =
    first_none _ _ _ _ _ _ (known c.args.scene.now.hall.ready).motions
    (walked_last _ _ _ _ _ _ _ _ _ c.move_hit.ensures c.loop-m.invariant _ c.if-move_hit.false c.listed_at-after.ensures c.if-after-m.true)

pub loop-m-preserved : goal.loop-m-preserved
loop-m-preserved c = walked_more _ _ _ _ _ _ _ _ _ c.move_hit.ensures c.loop-m.invariant _ c.if-move_hit.false c.listed_at-after.ensures

pub returns : goal.returns
returns c = first_none _ _ _ _ _ _ (known c.args.scene.now.hall.ready).motions (walked_end _ _ _ _ _ _ _ _ (omega arith) c.loop-m.invariant)
