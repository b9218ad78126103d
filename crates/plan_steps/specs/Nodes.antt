-- A state and a tick, as the code has them.
-- Assumes nothing.
use Rattle.std.specs.Prelude.{ℕ, ◌≤◌, ◌<◌, List, length}
use Rattle.meaning.specs.Site.{site_of}
use Rattle.meaning.specs.Plan as Plan
use Rattle.plan_steps.specs.declared.Node.{Node}

abbrev pub node_of : Node → Plan.Node
node_of a = record { state = a.state; tick = a.tick.0 }

-- its state is one of the site's, and its tick is not past the horizon
pub record Here (file : List ℕ) (a : Node) : Type 0 where
  pub state : a.state < length (site_of file).states
  pub tick : a.tick.0 ≤ (site_of file).horizon
