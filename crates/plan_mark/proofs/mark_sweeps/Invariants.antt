-- `plan_mark::mark_sweeps` meets its contract. The invariant: marking the sweeps from i on leaves the board as marking all does.
-- Assumes nothing.
use Rattle.meaning.specs.Board.{mark}
use mathlib.Core.Path.{◌≡◌}
use Rattle.meaning.specs.Site.{site_of}
use Rattle.meaning.specs.Plan.{swept_pairs}
use Rattle.site_sweeps.specs.Places.{sweeps_at}
use Rattle.site_sweeps.proofs.Laws.{rest_at}
use Rattle.plan_mark.proofs.mark_sweeps.Given as goal

abbrev pub invariant-loop-i : goal.invariant-loop-i
invariant-loop-i l =
    mark (site_of l.file.bytes.now) l.tug (swept_pairs (rest_at l.file.bytes.now l.m.first l.m.count l.i) l.t.0) l.board
    ≡ mark (site_of l.file.bytes.now) l.tug (swept_pairs (sweeps_at l.file.bytes.now l.m.first l.m.count) l.t.0) l.initial.board
