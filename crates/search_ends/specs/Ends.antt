-- Where a search may end: the goal is reached and the tug can unload there.
-- Assumes nothing.
use Rattle.std.specs.Prelude.{ℕ, ◌+◌, ◌-◌, ◌≤◌, ◌<◌, ◌≡◌, Bool, true, false, ◌&&◌, List, leb, get_or}
use Rattle.meaning.specs.Site.{Site}
use Rattle.meaning.specs.Board.{Free}
use Rattle.meaning.specs.Plan.{Node, node, can_unload}
use Rattle.meaning.specs.Reach.{reached}
use Rattle.search_sizes.specs.Sizes.{block_ticks}
use Rattle.search_ticks.specs.Rows.{has}

-- s is reached at the tick t: not below the start's tick
abbrev pub reached_at : Site → Free → Node → ℕ → ℕ → Bool
reached_at site f a s t = leb a.tick t && reached site f a (t - a.tick) s

-- the goal is reached at the tick t, and the tug can unload there
abbrev pub ends_on : Site → Free → Node → ℕ → ℕ → ℕ → Bool
ends_on site f a goal dwell t = reached_at site f a goal t && can_unload site f (node goal t) dwell

-- from the tick on `ends` says at each tick whether the tug can unload at the goal
abbrev pub EndsRight : Site → Free → ℕ → ℕ → ℕ → List Bool → Type 0
EndsRight site f goal dwell tick ends = (t : ℕ) → tick ≤ t → t ≤ site.horizon → get_or ends t false ≡ can_unload site f (node goal t) dwell

-- the goal is reached at the tick t, and the tug can unload there, from the goal's row and from whether it can unload at each tick
abbrev pub ends_in : List ℕ → List Bool → ℕ → ℕ → Bool
ends_in re ends goal t = get_or ends t false && has re goal (block_ticks + t)

-- r is the first number from low on and below high that the test has, or high
pub record First (test : ℕ → Bool) (low high r : ℕ) : Type 0 where
  pub above : low ≤ r
  pub within : r ≤ high
  pub none : (t : ℕ) → low ≤ t → t < r → test t ≡ false
  pub hit : r < high → test r ≡ true
