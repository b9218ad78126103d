-- `search_runs::shift_rows` meets its contract: the rows below r have moved.
-- Assumes nothing.
use Rattle.search_runs.proofs.TableLaws.{Shifting}
use Rattle.search_runs.proofs.shift_rows.Given as goal

abbrev pub invariant-loop-r : goal.invariant-loop-r
invariant-loop-r l = Shifting l.initial.tab l.tab l.r
