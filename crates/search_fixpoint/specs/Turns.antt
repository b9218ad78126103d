-- The states in turn, until no growth is noted.
-- Assumes nothing.
use Rattle.std.specs.Prelude.{ℕ, ◌-◌, ◌<◌, ◌≡◌, Bool, false, cond, List, get_or}

-- no growth is noted of n states
abbrev pub NoneGrown : ℕ → List Bool → Type 0
NoneGrown n g = (s : ℕ) → s < n → get_or g s false ≡ false

-- the first n flags are v
abbrev pub FlagsAre : ℕ → Bool → List Bool → Type 0
FlagsAre n v g = (i : ℕ) → i < n → get_or g i false ≡ v

-- state s of n, counted from the other end on the way down
abbrev pub in_turn : ℕ → ℕ → Bool → ℕ
in_turn n s down = cond down (n - 1 - s) s
