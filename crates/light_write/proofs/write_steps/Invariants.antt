-- `light_write::write_steps` meets its contract. The loop's invariant: the codes so far are written.
-- Assumes nothing.
use lib.ListN.{length}
use Rattle.light.specs.Sizes.{light_length}
use Rattle.light_write.proofs.CodeLaws.{Written}
use Rattle.light_write.proofs.write_steps.Given as goal

abbrev pub invariant-loop-code : goal.invariant-loop-code
invariant-loop-code l = Written l.path l.initial.out l.out (light_length (length l.path)) l.code-index l.at
