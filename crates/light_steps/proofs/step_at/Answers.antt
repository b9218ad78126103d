-- `light_steps::step_at` meets its contract.
-- Assumes nothing.
use mathlib.Core.Path.{sym, ◌∙◌}
use Rattle.fields.proofs.Laws.{is_end, is_cut, is_field}
use Rattle.light_steps.proofs.StepLaws.{at_end_step, at_cut_step, at_field_step}
use native.Mathlib.Omega.{arith}
use Rattle.light_steps.proofs.step_at.Goals as goal

pub step_in-requires : goal.step_in-requires
step_in-requires c =
    let w = is_field c.args.s.now c.args.at _ (sym c.in-Field.is ∙ c.read_item.ensures) in
    let i = w.inside in
    let n = w.next in
    let f = w.start in
    omega arith

pub returns-in-Field : goal.returns-in-Field
returns-in-Field c =
    let w = is_field c.args.s.now c.args.at _ (sym c.in-Field.is ∙ c.read_item.ensures) in
    c.step_in.ensures ∙ at_field_step _ _ _ w

pub returns-in-Cut : goal.returns-in-Cut
returns-in-Cut c = sym (at_cut_step _ _ (is_cut c.args.s.now c.args.at (sym c.in-Cut.is ∙ c.read_item.ensures)))

pub returns-in-End : goal.returns-in-End
returns-in-End c = sym (at_end_step _ _ (is_end c.args.s.now c.args.at (sym c.in-End.is ∙ c.read_item.ensures)))
