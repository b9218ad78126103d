-- `draw::wait_state` meets its contract.
-- Assumes nothing.
use Prim.Native.Nat.{ℕ, suc, ◌-◌, ◌<◌}
use mathlib.Core.Path.{◌≡◌, sym, ap, ◌∙◌, subst}
use mathlib.Core.List.{◌∷◌}
use lib.ListN.{length, drop}
use native.Mathlib.Omega.{arith}
use Rattle.meaning.specs.Plan.{move}
use Rattle.meaning.specs.Light.{light_of}
use Rattle.light.specs.Sizes.{light_length}
use Rattle.light_steps.specs.Steps.{steps_from, step_at}
use Rattle.light_steps.proofs.StepLaws.{move_on}
use Rattle.light_steps.specs.declared.Step.TheVariants.{Move}
use Rattle.draw.specs.Drawings.{site_drawn}
use Rattle.draw.specs.Steps.{stands_in}
use Rattle.draw.proofs.Laws.{behind_motion, steps_there, motion_before, rest_of_move, start_known, motion_known, drawn_start, drawn_to}
use Rattle.draw.proofs.wait_state.Goals as goal

pub returns-then-step-eq0 : goal.returns-then-step-eq0
returns-then-step-eq0 c =
    let known : c.args.start < length (site_drawn c.args.drawing.now).states = subst (λ (n : ℕ). n < length (site_drawn c.args.drawing.now).states) (sym c.requires.light.1) (start_known _ _ c.requires.light.0) in
    (ap (λ (i : ℕ). stands_in (site_drawn c.args.drawing.now) c.args.start (light_of c.args.light.now).steps i) (sym c.if-step-eq0.true), known)

pub find_motion-motion-requires : goal.find_motion-motion-requires
find_motion-motion-requires c =
    let moved : drop (c.args.step - 1) (light_of c.args.light.now).steps ≡ move c.in-Move.m ∷ steps_from c.args.light.now c.in-Move.field-1 =
    let light = c.args.light.now in
    let said : Move c.in-Move.m c.in-Move.field-1 ≡ step_at light (light_length (c.args.step - 1)) = sym c.in-Move.is ∙ c.step_at.ensures ∙ ap (step_at light) c.step_place.ensures in
    sym (steps_there _ light c.requires.light.0 (c.args.step - 1)) ∙ (move_on light _ _ _ said).steps in
    (drawn_start c.args.drawing.now.drawable, motion_known _ _ c.requires.light.0 (c.args.step - 1) _ _ moved)

pub returns-in-Move : goal.returns-in-Move
returns-in-Move c =
    let before : c.args.step ≡ suc (c.args.step - 1) = omega (arith, c.if-step-eq0.false) in
    let moved : drop (c.args.step - 1) (light_of c.args.light.now).steps ≡ move c.in-Move.m ∷ steps_from c.args.light.now c.in-Move.field-1 =
    let light = c.args.light.now in
    let said : Move c.in-Move.m c.in-Move.field-1 ≡ step_at light (light_length (c.args.step - 1)) = sym c.in-Move.is ∙ c.step_at.ensures ∙ ap (step_at light) c.step_place.ensures in
    sym (steps_there _ light c.requires.light.0 (c.args.step - 1)) ∙ (move_on light _ _ _ said).steps in
    let site = site_drawn c.args.drawing.now in
    let steps = (light_of c.args.light.now).steps in
    let to = c.find_motion-motion.ensures.to in (
      to ∙ sym (ap (stands_in site c.args.start steps) before ∙ behind_motion site c.args.start steps (c.args.step - 1) _ _ moved),
      subst (λ (n : ℕ). n < length site.states) (sym to) (drawn_to c.args.drawing.now.drawable _ (motion_known _ _ c.requires.light.0 (c.args.step - 1) _ _ moved)),
    )

-- before a wait that is not the first step stands a motion
pub returns-in_default : goal.returns-in_default
returns-in_default c =
    let before : c.args.step ≡ suc (c.args.step - 1) = omega (arith, c.if-step-eq0.false) in
    let light = c.args.light.now in
    let (n, later, waits) = c.requires.step_bound.1 in
    absurd
    (motion_before _ light c.requires.light.0 (c.args.step - 1) n later c.step_at.result (c.step_at.ensures ∙ ap (step_at light) c.step_place.ensures)
    (rest_of_move c.step_at.result c.in_default.not-Move) (waits ∙ ap (λ (i : ℕ). step_at light (light_length i)) before))
