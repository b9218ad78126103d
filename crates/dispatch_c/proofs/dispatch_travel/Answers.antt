-- `dispatch_c::dispatch_travel` meets its contract.
-- Assumes nothing.
use mathlib.Core.Path.{ap, ◌∙◌}
use Rattle.answers.proofs.Laws.{counted_is}
use Rattle.answers_c.specs.Words.{counted_word}
use Rattle.dispatch_c.proofs.dispatch_travel.Goals as goal

pub returns : goal.returns
returns c = c.counted_word.ensures ∙ ap counted_word (c.numbered.ensures ∙ counted_is _ _ _ c.travel.ensures.number c.travel.ensures.values)
