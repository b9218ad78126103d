-- `search_back::move_hit` meets its contract: by cases of its tests.
-- Assumes nothing.
use native.Mathlib.Omega.{arith}
use mathlib.Core.Path.{◌∙◌}
use Rattle.plan_steps.proofs.Laws.{known, read_motion}
use Rattle.search_back.proofs.HitLaws.{move_elsewhere, move_soon, move_unset, move_tested, motion_is}
use Rattle.search_back.proofs.SceneLaws.{motion_known, motion_shown}
use Rattle.search_back.proofs.move_hit.Goals as goal

pub returns-then-to-s : goal.returns-then-to-s
returns-then-to-s c =
    move_elsewhere _ _ _ _ _ _ _ (c.to_of-to.ensures ∙ (motion_shown c.args.scene.now c.args.m c.requires.0).to) c.if-to-s.true

pub returns-then-t-span : goal.returns-then-t-span
returns-then-t-span c =
    move_soon _ _ _ _ _ _ _ (c.span_of-span.ensures ∙ (motion_shown c.args.scene.now c.args.m c.requires.0).span) c.if-t-span.true

pub is_set-requires : goal.is_set-requires
is_set-requires c =
    let scene = c.args.scene.now in
    let k = known scene.hall.ready in
    (omega (arith, c.from_of-from.ensures, scene.arrays.leads.from c.args.m c.requires.0), omega (arith, k.short, k.horizon))

pub overflow_cast-motion : goal.overflow_cast-motion
overflow_cast-motion c = omega (arith, c.span_of-span.ensures, c.args.scene.now.arrays.motions.span c.args.m c.requires.0)

pub overflow_cast-a : goal.overflow_cast-a
overflow_cast-a c = let k = known c.args.scene.now.hall.ready in
    omega (arith, k.short, k.horizon)

pub move_allowed-requires : goal.move_allowed-requires
move_allowed-requires c =
    let scene = c.args.scene.now in
    let k = known scene.hall.ready in
    let m = motion_known scene c.args.m c.requires.0 in
    let motion = motion_is scene.hall.file.bytes.now scene.motions.now c.args.m _ _ _ _ _ scene.motions_decoded m
    c.from_of-from.ensures c.to_of-to.ensures c.span_of-span.ensures c.place_of-first.ensures c.count_of-count.ensures in (
      record { state = omega (arith, c.from_of-from.ensures, scene.arrays.leads.from c.args.m c.requires.0); tick = omega (arith, k.horizon) },
      (read_motion scene.hall.ready m motion).sweeps,
    )

pub returns-then-is_set : goal.returns-then-is_set
returns-then-is_set c =
    let scene = c.args.scene.now in
    let m = motion_known scene c.args.m c.requires.0 in
    let motion = motion_is scene.hall.file.bytes.now scene.motions.now c.args.m _ _ _ _ _ scene.motions_decoded m
    c.from_of-from.ensures c.to_of-to.ensures c.span_of-span.ensures c.place_of-first.ensures c.count_of-count.ensures in
    let x = motion_shown scene c.args.m c.requires.0 in
    move_tested _ _ _ _ _ _ _ _ _ _ (c.to_of-to.ensures ∙ x.to) c.if-to-s.false (c.span_of-span.ensures ∙ x.span) (omega arith)
    (c.from_of-from.ensures ∙ x.from) c.is_set.ensures _ c.if-is_set.true (c.move_allowed.ensures c.args.m m motion)

pub returns : goal.returns
returns c =
    let x = motion_shown c.args.scene.now c.args.m c.requires.0 in
    move_unset _ _ _ _ _ _ _ _ _ _ (c.to_of-to.ensures ∙ x.to) c.if-to-s.false (c.span_of-span.ensures ∙ x.span) (omega arith)
    (c.from_of-from.ensures ∙ x.from) c.is_set.ensures c.if-is_set.false
