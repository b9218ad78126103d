-- `board_intervals::write_intervals` meets its contract. The invariant: writing what is left leaves what writing all intervals leaves, and
-- what the runs so far tell is so.
-- Assumes nothing.
use Rattle.board_ticks.specs.Ticks.{frees}
use Rattle.board_intervals.proofs.Laws.{Turn, Told}
use Rattle.board_intervals.proofs.write_intervals.Given as goal

abbrev pub invariant-loop-t : goal.invariant-loop-t
invariant-loop-t l = Turn (frees l.ticks) l.ticks.horizon l.t l.k l.initial.out l.out × Told (frees l.ticks) l.ticks.horizon l.t l.next
