-- `light_read::is_light` meets its contract.
-- Assumes nothing.
use mathlib.Core.Path.{sym, ◌∙◌}
use Rattle.fields.proofs.Laws.{not_field, is_field}
use Rattle.light_read.proofs.HeadLaws.{light_none, light_field}
use native.Mathlib.Omega.{arith}
use Rattle.light_read.proofs.is_light.Goals as goal

pub returns-in-Field : goal.returns-in-Field
returns-in-Field c =
    let s = c.args.s.now in
    let w = is_field s 0 _ (sym c.in-Field.is ∙ c.read_item.ensures) in
    c.head_then_steps.ensures ∙ light_field s _ w (omega arith)

pub returns-in_default : goal.returns-in_default
returns-in_default c =
    let item = c.read_item in
    sym (light_none _ (not_field _ 0 item.result c.in_default.not-Field item.ensures))
