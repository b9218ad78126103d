-- `site_sweeps::sweeps_at` meets its contract.
-- Assumes nothing.
use native.Mathlib.Omega.{arith}
use mathlib.Core.Path.{ap, ◌∙◌}
use Rattle.site_sweeps.specs.Places.{sweeps_in, sweeps_at}
use Rattle.site_sweeps.proofs.Laws.{slice_sweeps}
use Rattle.site_sweeps.proofs.sweeps_at.Goals as goal

pub returns : goal.returns
returns c = ap sweeps_in c.as_chunks.ensures.front ∙ slice_sweeps _ _ _ (omega arith) ∙ ap (sweeps_at c.args.file.now c.args.at) (omega arith)
