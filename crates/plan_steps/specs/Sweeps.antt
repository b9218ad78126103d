-- What the functions on plans ask of the sweeps that they are given.
-- Assumes nothing.
use Rattle.std.specs.Prelude.{ℕ, ◌+◌, ◌*◌, ◌≤◌, ◌<◌, ◌≡◌, List, true, length}
use Rattle.meaning.specs.Limits.{sweep_size}
use Rattle.meaning.specs.Basics.{all}
use Rattle.meaning.specs.Site.{sweep_good, site_of}
use Rattle.site_sweeps.specs.Places.{sweeps_at}
use Rattle.site_sweeps.specs.declared.Sweep as ReadSweep

-- n sweeps stand from the place at on, and keep to the site's cells and to the span d
pub record Sweeps (file : List ℕ) (at n d : ℕ) : Type 0 where
  pub inside : at + sweep_size * n ≤ length file
  pub good : all (sweep_good (site_of file).cells d) (sweeps_at file at n) ≡ true

-- a sweep of a motion that starts at the tick t: its cell is the site's, and it ends by the horizon
pub record Swept (file : List ℕ) (w : ReadSweep.Sweep) (t : ℕ) : Type 0 where
  pub known : w.cell < (site_of file).cells
  pub order : w.first ≤ w.last
  pub in_time : t + w.last ≤ (site_of file).horizon
