-- Runs of ticks, both ends included, and when two of them meet: 'Sweeps of a motion' of docs/FORMATS.md. A run whose end lies before its start has no tick.
-- Assumes nothing.
use Rattle.std.specs.Prelude.{ℕ, ◌≤◌, max, min, Bool, leb}

-- of the runs from a to b and from c to d
abbrev pub later_start : ℕ → ℕ → ℕ
later_start a c = max a c

abbrev pub earlier_end : ℕ → ℕ → ℕ
earlier_end b d = min b d

-- they meet: the later start is not past the earlier end
unfoldable pub meets : ℕ → ℕ → ℕ → ℕ → Bool
meets a b c d = leb (later_start a c) (earlier_end b d)

-- ---- the same in words

-- the tick t lies in the run from a to b
abbrev pub LiesIn : ℕ → ℕ → ℕ → Type 0
LiesIn a b t = (a ≤ t) × (t ≤ b)

-- some tick lies in both runs
abbrev pub Meet : ℕ → ℕ → ℕ → ℕ → Type 0
Meet a b c d = (t : ℕ) × LiesIn a b t × LiesIn c d t
