-- What the walk back from the goal needs and leaves.
-- Assumes nothing.
use Rattle.std.specs.Prelude.{ℕ, ◌≡◌, List, [], ◌∷◌}
use Rattle.std.proofs.Math.Option.{some}
use Rattle.meaning.specs.Plan.{Step, wait, move, node}
use Rattle.meaning.specs.Reach.{Route, find_route}
use Rattle.site.specs.declared.hall.Hall.{Hall}
use Rattle.site.specs.Halls.{site_in, free_in}
use Rattle.search_back.specs.Words.{ReachedTo}

-- the ticks of a wait in front
abbrev pub wait_in_front : List Step → ℕ
wait_in_front [] = 0
wait_in_front (wait n ∷ ps) = n
wait_in_front (move m ∷ ps) = 0

-- a search, and the route that it finds
pub record Search : Type 0 where
  pub start : ℕ
  pub dwell : ℕ
  pub route : Route

-- the reached pairs of the search up to its arrival at the goal
pub record Found (x : Search) (hall : Hall) (re : List ℕ) (tick goal arrival : ℕ) : Type 0 where
  pub reached : ReachedTo (site_in hall) (free_in hall) (node x.start tick) arrival re
  pub found : find_route (site_in hall) (free_in hall) (node x.start tick) goal x.dwell ≡ some x.route
  pub on_tick : x.route.arrival ≡ arrival
