-- `site_handover::hands_over` meets its contract.
-- Assumes nothing.
use mathlib.Core.Path.{sym, ◌∙◌}
use Rattle.site_handover.proofs.hands_over.Goals as goal

pub returns-then-meets : goal.returns-then-meets
returns-then-meets c = simp (sym c.meets.ensures.value ∙ c.if-meets.true) c.used.ensures
