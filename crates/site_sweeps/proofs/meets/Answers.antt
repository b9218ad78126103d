-- `site_sweeps::meets` meets its contract.
-- Assumes nothing.
use mathlib.Core.Path.{ap₂}
use lib.Dec.{leb}
use Rattle.meaning.specs.Runs.{meets}
use Rattle.site_sweeps.proofs.meets.Goals as goal

pub returns-clause-value : goal.returns-clause-value
unfolding meets
returns-clause-value c = ap₂ leb c.max.ensures c.min.ensures
