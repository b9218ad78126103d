-- `draw::picture` meets its contract.
-- Assumes nothing.
use Prim.Native.Nat.{ℕ}
use mathlib.Core.Path.{◌≡◌, sym, ap, ◌∙◌}
use mathlib.Core.List.{List, [], ◌∷◌}
use lib.ListN.{drop}
use Rattle.meaning.specs.Site.{Site}
use Rattle.meaning.specs.Plan.{Step, move}
use Rattle.meaning.specs.Light.{Light, light_of}
use Rattle.meaning.specs.Pictures.{standing_at, state_centre, place_on, picture_from, picture_of}
use Rattle.light.specs.Sizes.{light_length}
use Rattle.light.specs.declared.Head.{Head}
use Rattle.light_steps.specs.Steps.{steps_from, step_at}
use Rattle.light_steps.specs.declared.Step.TheVariants.{Wait}
use Rattle.light_steps.proofs.StepLaws.{wait_on, move_on}
use Rattle.draw_pictures.specs.Floats.{shown}
use Rattle.draw.specs.Drawings.{site_drawn}
use Rattle.draw.specs.Steps.{stands_in}
use Rattle.draw.proofs.Laws.{at_step, steps_there, no_step, rest_of_steps, motion_known}
use Rattle.draw.proofs.picture.Goals as goal

-- the picture of a step, by the steps from it on
by_rest : (site : Site) (l : Light) (i k : ℕ) (ps : List Step) → drop i l.steps ≡ ps → picture_of site l i k ≡ picture_from site (stands_in site l.start l.steps i) ps 0 k
unfolding picture_of
by_rest site l i k ps e =
    at_step site l.start l.steps i k
    ∙ ap (λ (qs : List Step). picture_from site (stands_in site l.start l.steps i) qs 0 k) e

pub roll-requires : goal.roll-requires
roll-requires c =
    let there : c.step_at.result ≡ step_at c.args.light.now (light_length c.args.step) = c.step_at.ensures ∙ ap (step_at c.args.light.now) c.step_place.ensures in
    let moves : drop c.args.step (light_of c.args.light.now).steps ≡ move c.in-Move.m ∷ steps_from c.args.light.now c.in-Move.field-1 = sym (steps_there _ _ c.requires.0 c.args.step) ∙ (move_on c.args.light.now _ _ _ (sym c.in-Move.is ∙ there)).steps in
    (motion_known _ _ c.requires.0 c.args.step _ _ moves, c.requires.1)

pub returns-in-Move : goal.returns-in-Move
returns-in-Move c =
    let there : c.step_at.result ≡ step_at c.args.light.now (light_length c.args.step) = c.step_at.ensures ∙ ap (step_at c.args.light.now) c.step_place.ensures in
    let moves : drop c.args.step (light_of c.args.light.now).steps ≡ move c.in-Move.m ∷ steps_from c.args.light.now c.in-Move.field-1 = sym (steps_there _ _ c.requires.0 c.args.step) ∙ (move_on c.args.light.now _ _ _ (sym c.in-Move.is ∙ there)).steps in
    c.roll.ensures ∙ sym (ap shown (by_rest (site_drawn c.args.drawing.now) (light_of c.args.light.now) c.args.step c.args.k _ moves))

pub returns-in-Wait : goal.returns-in-Wait
returns-in-Wait c =
    let there : c.step_at.result ≡ step_at c.args.light.now (light_length c.args.step) = c.step_at.ensures ∙ ap (step_at c.args.light.now) c.step_place.ensures in
    let waits : Wait c.in-Wait.field-0 c.in-Wait.field-1 ≡ step_at c.args.light.now (light_length c.args.step) = sym c.in-Wait.is ∙ there in
    let starts : c.read_head-head.result.start ≡ (light_of c.args.light.now).start = ap (λ (h : Head). h.start) c.read_head-head.ensures in
    let site = site_drawn c.args.drawing.now in
    let l = light_of c.args.light.now in
    let rest = sym (steps_there _ _ c.requires.0 c.args.step) ∙ (wait_on c.args.light.now _ _ _ waits).steps in
    c.stand.ensures
    ∙ ap (λ (s : ℕ). shown (standing_at (place_on (state_centre site s)))) (c.wait_state-state.ensures.0 ∙ ap (λ (s : ℕ). stands_in site s l.steps c.args.step) starts)
    ∙ sym (ap shown (by_rest (site_drawn c.args.drawing.now) (light_of c.args.light.now) c.args.step c.args.k _ rest))

pub returns-in_default : goal.returns-in_default
returns-in_default c =
    let there : c.step_at.result ≡ step_at c.args.light.now (light_length c.args.step) = c.step_at.ensures ∙ ap (step_at c.args.light.now) c.step_place.ensures in
    sym (ap shown (by_rest (site_drawn c.args.drawing.now) (light_of c.args.light.now) c.args.step c.args.k [] (no_step _ _ c.requires.0 c.args.step c.step_at.result there (rest_of_steps c.step_at.result c.in_default.not-Wait c.in_default.not-Move))))
