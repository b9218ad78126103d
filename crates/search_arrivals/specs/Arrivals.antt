-- The positions of a block at which a motion may end.
-- Assumes nothing.
use Rattle.std.specs.Prelude.{ℕ, suc, ◌-◌, ◌<◌, ◌≡◌, Bool, ◌&&◌, List, length}
use Rattle.meaning.specs.Basics.{all}
use Rattle.meaning.specs.Site.{Sweep}
use Rattle.search_sizes.specs.Sizes.{block_ticks}
use Rattle.search_ticks.specs.Rows.{at}
use Rattle.search_runs.specs.Runs.{ended}

-- x has of the numbers of x₀ those that the test has
pub record Narrowed (x₀ x : List ℕ) (test : ℕ → Bool) : Type 0 where
  pub bits : (i : ℕ) → i < block_ticks → at x i ≡ (at x₀ i && test i)
  pub sized : length x ≡ length x₀

-- A motion with these sweeps and of span d may end at position u, where g has the free positions of each cell: each sweep's cell is free
-- from its first offset to its last one, which is d - last before the end.
unfoldable pub arrives : (ℕ → ℕ → Bool) → List Sweep → ℕ → ℕ → Bool
arrives g ws d u = all (λ (w : Sweep). ended (g w.cell) (suc w.last - w.first) (u - (d - w.last))) ws
