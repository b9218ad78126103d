-- What a function that reads or writes a cell's ticks asks of its numbers.
-- Assumes nothing.
use Rattle.std.specs.Prelude.{ℕ, ◌+◌, ◌*◌, ◌≤◌, ◌<◌}
use Rattle.meaning.specs.Limits.{horizon_limit, header}

-- the cell's ticks up to the horizon are on a board of that many bytes
pub record OnBoard (size horizon cell : ℕ) : Type 0 where
  pub short : horizon ≤ horizon_limit
  pub inside : header + cell * (horizon + 1) + horizon < size
