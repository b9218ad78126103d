-- `dispatch_c::dispatch_route` meets its contract.
-- Assumes nothing.
use mathlib.Core.Path.{ap, ◌∙◌}
use Rattle.answers.proofs.Laws.{granted_is}
use Rattle.answers_c.specs.Words.{granted_word}
use Rattle.dispatch_c.proofs.dispatch_route.Goals as goal

pub returns-clause-value : goal.returns-clause-value
returns-clause-value c = c.granted_word.ensures ∙ ap granted_word (c.numbered.ensures ∙ granted_is _ _ _ c.route.ensures.number c.route.ensures.values)
