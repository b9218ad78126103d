-- `board_intervals::run_end` meets its contract. The invariant: the run from the last tick on ends where the run from first on does.
-- Assumes nothing.
use Prim.Native.Nat.{◌+◌, ◌-◌}
use mathlib.Core.Path.{◌≡◌}
use Rattle.meaning.specs.Intervals.{run_end}
use Rattle.board_ticks.specs.Ticks.{frees}
use Rattle.board_intervals.proofs.run_end.Given as goal

abbrev pub invariant-loop-t : goal.invariant-loop-t
invariant-loop-t l =
    let f = frees l.ticks in
    (l.last + 1 ≡ l.t) × (run_end f l.last (l.ticks.horizon - l.last) ≡ run_end f l.first (l.ticks.horizon - l.first))
