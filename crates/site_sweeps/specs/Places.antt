-- Sweeps by their place in a site file.
-- Assumes nothing.
use Rattle.std.specs.Prelude.{ℕ, ◌+◌, ◌*◌, ◌<◌, ◌≡◌, List, take, drop, get_or, map}
use Rattle.meaning.specs.Limits.{sweep_size}
use Rattle.meaning.specs.Basics.{u16_at}
use Rattle.meaning.specs.Site.{Sweep, sweeps_of}
use Rattle.site_sweeps.specs.declared.Sweep as ReadSweep

-- the sweep at the place at
abbrev pub sweep_at : List ℕ → ℕ → Sweep
sweep_at file at = record { cell = u16_at file at; first = get_or file (at + 2) 0; last = get_or file (at + 3) 0 }

-- n sweeps from the place at on
unfoldable pub sweeps_at : List ℕ → ℕ → ℕ → List Sweep
sweeps_at file at n = sweeps_of (take (sweep_size * n) (drop at file))

-- the sweeps whose bytes are given one by one
abbrev pub sweeps_in : List (List ℕ) → List Sweep
sweeps_in bs = map (λ b. sweep_at b 0) bs

-- the sweep that was read
abbrev pub sweep_of : ReadSweep.Sweep → Sweep
sweep_of r = record { cell = r.cell; first = r.first; last = r.last }

-- it is the sweep w, and its cell is the value of two bytes
pub record SweepIs (w : Sweep) (r : ReadSweep.Sweep) : Type 0 where
  pub same : sweep_of r ≡ w
  pub small : r.cell < 65536
