-- `dispatch_c::dispatch_draw` meets its contract.
-- Assumes nothing.
use mathlib.Core.Path.{ap, ◌∙◌}
use Rattle.draw_c.specs.Words.{drawn_word}
use Rattle.dispatch_c.proofs.dispatch_draw.Goals as goal

pub returns-clause-value : goal.returns-clause-value
returns-clause-value c = c.drawn_word.ensures ∙ ap drawn_word (c.numbered.ensures ∙ c.draw.ensures.value)
