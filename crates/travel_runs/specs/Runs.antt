-- Runs from rest to rest, and the fewest ticks that cover a distance: 'Travel times' of docs/FORMATS.md, in its words and numerals.
-- Assumes nothing.
use Rattle.std.specs.Prelude.{ℕ, zero, suc, ◌+◌, ◌≤◌, ◌<◌, ◌≡◌}

-- a run of n ticks: its speeds at the ticks 0 to n, in decimetres a tick
pub record Run (n : ℕ) (speed : ℕ → ℕ) : Type 0 where
  -- first and last 0
  pub from_rest : speed 0 ≡ 0
  pub to_rest : speed n ≡ 0
  -- neighbours differ by at most 1
  pub gains : (t : ℕ) → t < n → speed (suc t) ≤ speed t + 1
  pub loses : (t : ℕ) → t < n → speed t ≤ speed (suc t) + 1
  -- none above 15
  pub limited : (t : ℕ) → t ≤ n → speed t ≤ 15

-- its distance: the sum of the speeds at the ticks 0 to n
abbrev pub distance : (ℕ → ℕ) → ℕ → ℕ
distance speed zero = speed 0
distance speed (suc n) = distance speed n + speed (suc n)

-- n is the fewest ticks from rest to rest covering at least d decimetres
pub record Fewest (d n : ℕ) : Type 0 where
  pub covers : (speed : ℕ → ℕ) × Run n speed × (d ≤ distance speed n)
  -- no run of fewer ticks covers d
  pub none_sooner : (m : ℕ) (speed : ℕ → ℕ) → m < n → Run m speed → distance speed m < d
