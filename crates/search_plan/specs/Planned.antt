-- What the search for a plan needs, and what it answers.
-- Assumes nothing.
use Rattle.std.specs.Prelude.{ℕ, suc, ◌*◌, ◌≤◌, ◌<◌, ◌≡◌, Bool, true, List, Some, None, Option}
use Rattle.std.proofs.Math.Option as Math
use Rattle.meaning.specs.Site.{cell_of, motion_at}
use Rattle.meaning.specs.Reach.{Route, find_route}
use Rattle.meaning.specs.Calls.{trip_named}
use Rattle.meaning.specs.Plan.{node}
use Rattle.site.specs.Halls.{site_in, free_in}
use Rattle.site.specs.declared.hall.Hall.{Hall}
use Rattle.site.specs.declared.Sizes.{Sizes}
use Rattle.site.specs.declared.Trip.{Trip}
use Rattle.light_write.specs.Codes.{steps_in}
use Rattle.search_sizes.specs.Sizes.{window_words, table_limit}
use Rattle.search_runs.specs.Runs.{run_tables, table_of}
use Rattle.search_ends.specs.Ends.{EndsRight}
use Rattle.search_trace.specs.declared.Path.{Path}

-- the states and the ticks of the trip may be named in the hall
abbrev pub Asked : Hall → Trip → Type 0
Asked hall trip = trip_named (site_in hall) (node trip.start trip.tick) trip.goal trip.dwell ≡ true

-- the route of the trip on the hall's board
abbrev pub route_on : Hall → Trip → Math.Option Route
route_on hall trip = find_route (site_in hall) (free_in hall) (node trip.start trip.tick) trip.goal trip.dwell

-- the plan says the route: its arrival, and its steps in the path
unfoldable pub Planned : Math.Option Route → Path → Option ℕ → Type 0
Planned o path (Some arrival) = o ≡ Math.some (record { steps = steps_in path.codes path.count; arrival = arrival })
Planned o path None = o ≡ Math.none

-- ---- what is worked out before the search

-- a free start, and where the tug can unload
pub record Possible (hall : Hall) (trip : Trip) (ends : List Bool) : Type 0 where
  pub asked : Asked hall trip
  pub start_free : free_in hall (cell_of (site_in hall) trip.start) trip.tick ≡ true
  pub ends_right : EndsRight (site_in hall) (free_in hall) trip.goal trip.dwell trip.tick ends

-- so many tables of runs, as the motions need
pub record Needed (hall : Hall) (tables : ℕ) : Type 0 where
  pub some : 1 ≤ tables
  pub few : tables ≤ run_tables
  pub enough : (m : ℕ) → m < hall.sizes.motions → table_of (suc (motion_at (site_in hall) m).span) < tables

-- room for them and one word more
pub record TabRoom (l : Sizes) (tables size : ℕ) : Type 0 where
  pub tab : tables * l.cells * window_words < size
  pub small : size < table_limit
