-- `light_write::write_light` meets its contract: the head is written after the steps.
-- Assumes nothing.
use native.Mathlib.Omega.{arith}
use mathlib.Core.Path.{ap, ◌∙◌}
use mathlib.Core.List.{List}
use Rattle.meaning.specs.Plan.{Step}
use Rattle.light.specs.Heads.{light_with}
use Rattle.light.specs.Sizes.{first_step}
use Rattle.light_fields.specs.Areas.{placed}
use Rattle.light_write.specs.Codes.{steps_in, step_bytes}
use Rattle.light_write.proofs.CodeLaws.{length_steps, steps_of_front, light_written}
use Rattle.light_write.proofs.write_light.Goals as goal

pub returns : goal.returns
returns c =
    let path = c.args.path.now in
    let count = c.args.count in
    c.write_head.ensures
    ∙ light_written (light_with c.args.head (steps_in path count)) count c.args.out.now _ (length_steps path count) (omega arith)
    (c.write_steps.ensures ∙ ap (λ (ps : List Step). placed first_step (step_bytes ps) c.args.out.now) (steps_of_front path count (omega arith)))
