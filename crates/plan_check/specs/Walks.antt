-- Where a light's plan starts and says that it ends, and where a walk ends, as the code has them.
-- Assumes nothing.
use Rattle.std.specs.Prelude as Code
use Rattle.std.specs.Prelude.{Some, None}
use Rattle.std.proofs.Math.Option.{Option, none, some}
use Rattle.meaning.specs.Plan as Plan
use Rattle.light.specs.declared.Head.{Head}
use Rattle.plan_steps.specs.declared.Node.{Node}
use Rattle.plan_steps.specs.Nodes.{node_of}

-- where the plan of a light with this head starts
abbrev pub start_in : Head → Plan.Node
start_in h = record { state = h.start; tick = h.tick }

-- where it says that it ends
abbrev pub goal_in : Head → Plan.Node
goal_in h = record { state = h.goal; tick = h.arrival }

-- where a walk ends, or none where one of its steps is not allowed
abbrev pub walk_end_case : Code.Option Node → Option Plan.Node
walk_end_case (Some a) = some (node_of a)
walk_end_case None = none
