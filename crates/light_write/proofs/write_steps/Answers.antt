-- `light_write::write_steps` meets its contract. The loop's invariant: the codes so far are written.
-- Assumes nothing.
use Rattle.light_write.proofs.CodeLaws.{written_none, written_more, written_all}
use native.Mathlib.Omega.{arith}
use mathlib.Core.Path.{refl}
use Rattle.light_write.proofs.write_steps.Goals as goal

pub loop-code-init : goal.loop-code-init
loop-code-init c = written_none _ _ _ _ c.length_of-at.ensures

pub loop-code-preserved : goal.loop-code-preserved
loop-code-preserved c =
    let l = c.loop-code in
    written_more _ _ _ _ _ _ _ (omega arith) (omega (arith, l.invariant.place)) l.invariant c.write_code.auto.out c.write_code.ensures

pub returns : goal.returns
returns c = written_all _ _ _ _ _ _ _ (omega arith) refl c.loop-code.invariant
