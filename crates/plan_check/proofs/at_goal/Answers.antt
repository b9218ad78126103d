-- `plan_check::at_goal` meets its contract.
-- Assumes nothing.
use mathlib.Core.Path.{◌∙◌}
use Rattle.plan_steps.specs.Nodes.{node_of}
use Rattle.plan_check.proofs.LightLaws.{same_node}
use Rattle.plan_check.proofs.at_goal.Goals as goal

pub returns : goal.returns
returns c = c.eq.ensures ∙ same_node c.args.head (node_of c.args.b) (node_of c.goal_of.result) c.goal_of.ensures
