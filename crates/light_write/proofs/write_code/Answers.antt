-- `light_write::write_code` meets its contract.
-- Assumes nothing.
use mathlib.Core.Path.{ap, ◌∙◌}
use Rattle.meaning.specs.Plan.{Step}
use Rattle.meaning.specs.Fields.{field_bytes}
use Rattle.meaning.specs.Light.{step_field}
use Rattle.light_fields.specs.Areas.{placed}
use Rattle.light_write.proofs.CodeLaws.{code_wait, code_move}
use native.Mathlib.Omega.{arith}
use Rattle.light_write.proofs.write_code.Goals as goal

pub returns-then-code-lt-FIRST_MOVE : goal.returns-then-code-lt-FIRST_MOVE
returns-then-code-lt-FIRST_MOVE c = c.write_step.ensures ∙ ap (λ (p : Step). placed c.args.at (field_bytes (step_field p)) c.args.out.now) (code_wait c.args.code (omega arith))

pub returns : goal.returns
returns c = c.write_step-2.ensures ∙ ap (λ (p : Step). placed c.args.at (field_bytes (step_field p)) c.args.out.now) (code_move c.args.code (omega arith))
