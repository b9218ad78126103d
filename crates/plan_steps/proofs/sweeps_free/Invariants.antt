-- `plan_steps::sweeps_free` meets its contract. The invariant: the sweeps from i on answer as all do.
-- Assumes nothing.
use mathlib.Core.Path.{◌≡◌}
use Rattle.site.specs.Halls.{free_in}
use Rattle.meaning.specs.Plan.{sweeps_free}
use Rattle.site_sweeps.specs.Places.{sweeps_at}
use Rattle.site_sweeps.proofs.Laws.{rest_at}
use Rattle.plan_steps.proofs.sweeps_free.Given as goal

abbrev pub invariant-loop-i : goal.invariant-loop-i
invariant-loop-i l =
    sweeps_free (free_in l.hall) (rest_at l.hall.file.bytes.now l.m.first l.m.count l.i) l.t.0
    ≡ sweeps_free (free_in l.hall) (sweeps_at l.hall.file.bytes.now l.m.first l.m.count) l.t.0
