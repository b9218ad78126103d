-- Travel times as they are computed: how far a run of n ticks gets at most, and the least n that gets far enough.
-- Assumes nothing.
use Rattle.std.specs.Prelude.{ℕ, ◌+◌, ◌-◌, min, Bool, leb}
use Rattle.std.proofs.Math.Option.{Option, none, some}
use Rattle.meaning.specs.Limits.{speed_limit}
use Rattle.meaning.specs.Basics.{least}
use Rattle.travel_runs.specs.Runs.{distance}

-- the highest speed at the tick t of a run of n ticks: t ticks to gain it, n - t to lose it
abbrev pub top_speed : ℕ → ℕ → ℕ
top_speed n t = min speed_limit (min t (n - t))

-- the distance at the highest speed all the way
unfoldable pub farthest : ℕ → ℕ
farthest n = distance (top_speed n) n

abbrev pub covered : ℕ → ℕ → Bool
covered d n = leb d (farthest n)

-- what stands for nothing is never used
abbrev pub number_found : Option ℕ → ℕ
number_found none = 0
number_found (some n) = n

-- entry d: the least number of ticks that covers d. A run of d + 1 ticks does, at speed 1
unfoldable pub fewest : ℕ → ℕ
fewest d = number_found (least (covered d) 0 (d + 2))
