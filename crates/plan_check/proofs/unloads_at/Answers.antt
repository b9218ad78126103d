-- `plan_check::unloads_at` meets its contract.
-- Assumes nothing.
use mathlib.Core.Path.{sym, ◌∙◌}
use Rattle.plan_steps.specs.Nodes.{node_of}
use Rattle.plan_check.proofs.LightLaws.{ends_elsewhere, ends_there}
use Rattle.plan_check.proofs.unloads_at.Goals as goal

pub returns-then-at_goal : goal.returns-then-at_goal
returns-then-at_goal c = c.can_stay.ensures
    ∙ sym (ends_there _ _ c.args.head (node_of c.args.b) (sym c.at_goal.ensures ∙ c.if-at_goal.true))

pub returns-else-at_goal : goal.returns-else-at_goal
returns-else-at_goal c = c.if-at_goal.false ∙ sym (ends_elsewhere _ _ c.args.head (node_of c.args.b) (sym c.at_goal.ensures ∙ c.if-at_goal.false))
