-- `dispatch_c::dispatch_interval` meets its contract.
-- Assumes nothing.
use mathlib.Core.Path.{ap, ◌∙◌}
use Rattle.answers.proofs.Laws.{counted_is}
use Rattle.answers_c.specs.Words.{counted_word}
use Rattle.dispatch_c.proofs.dispatch_interval.Goals as goal

pub returns-clause-value : goal.returns-clause-value
returns-clause-value c = c.counted_word.ensures ∙ ap counted_word (c.numbered.ensures ∙ counted_is _ _ _ c.interval.ensures.number c.interval.ensures.values)
