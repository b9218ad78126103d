-- `search_bytes::free_bit` meets its contract: it is 1 where the byte is 0.
-- Assumes nothing.
use Rattle.std.proofs.Common.{ap, ◌∙◌, eqb}
use Rattle.std.specs.Int.{from_bool}
use Rattle.meaning.proofs.BasicsLaws.{decide}
use Rattle.search_bytes.specs.Words.{free_bit}
use Rattle.search_bytes.proofs.free_bit.Goals as goal

pub returns-clause-value : goal.returns-clause-value
unfolding free_bit
returns-clause-value c = c.from.ensures ∙ ap from_bool c.is_free_byte.ensures ∙ decide (eqb c.args.b 0) (λ e. rw e) (λ e. rw e)
