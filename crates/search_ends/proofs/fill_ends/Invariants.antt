-- `search_ends::fill_ends` meets its contract. The loop's invariant: the ticks from t on have been looked at.
-- Assumes nothing.
use Rattle.board_ticks.specs.Ticks.{frees}
use Rattle.search_ends.proofs.RunLaws.{Looked}
use Rattle.search_ends.proofs.fill_ends.Given as goal

abbrev pub invariant-loop-t : goal.invariant-loop-t
invariant-loop-t l = Looked (frees l.cell) l.cell.horizon l.tick l.dwell l.ends l.t l.run
