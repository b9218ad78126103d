-- `dispatch_c::dispatch_open` meets its contract.
-- Assumes nothing.
use mathlib.Core.Path.{ap, ◌∙◌}
use Rattle.answers.specs.Answers.{number_in}
use Rattle.answers.proofs.Laws.{numbered_number}
use Rattle.dispatch_c.proofs.dispatch_open.Goals as goal

pub returns-clause-value : goal.returns-clause-value
returns-clause-value c = c.answer_word.ensures ∙ ap number_in c.numbered.ensures ∙ numbered_number _ ∙ c.open.ensures.number
