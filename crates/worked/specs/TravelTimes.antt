-- Travel times: runs written out, how far few ticks get, and entries, among them those where the speed limit is first felt: 'Travel times'
-- of docs/FORMATS.md.
-- Assumes nothing.
use Rattle.std.specs.Prelude.{ℕ, ◌≡◌, List, [], ◌∷◌, get_or}
use Rattle.meaning.specs.Basics.{tabulate}
use Rattle.travel_runs.specs.Runs.{Run, distance}
use Rattle.travel_runs.specs.Entries.{farthest, fewest}
use Rattle.travel_runs.specs.Travel.{Returned, travel_meant}

-- the speeds of a list
abbrev pub speeds : List ℕ → ℕ → ℕ
speeds vs t = get_or vs t 0

-- up to 2 and down again; and slower, with a halt on the way
abbrev pub up_and_down : List ℕ
up_and_down = 0 ∷ 1 ∷ 2 ∷ 1 ∷ 0 ∷ []

abbrev pub halting : List ℕ
halting = 0 ∷ 1 ∷ 1 ∷ 0 ∷ 0 ∷ 1 ∷ 0 ∷ []

-- entry n beside its 0, and a refusal's number alone
abbrev pub timed : ℕ → Returned
timed n = record { number = 0; values = n ∷ [] }

abbrev pub refused : ℕ → Returned
refused n = record { number = n; values = [] }

pub record TravelTimes : Type 0 where
  pub up_and_down_lem : Run 4 (speeds up_and_down)
  pub up_and_down_far : distance (speeds up_and_down) 4 ≡ 4
  pub halting_run : Run 6 (speeds halting)
  pub halting_far : distance (speeds halting) 6 ≡ 3
  -- how far 0 to 8 ticks get; from 30 on each tick adds 15
  pub first_ticks : tabulate farthest 0 9 ≡ 0 ∷ 0 ∷ 1 ∷ 2 ∷ 4 ∷ 6 ∷ 9 ∷ 12 ∷ 16 ∷ []
  pub at_the_limit : tabulate farthest 29 4 ≡ 210 ∷ 225 ∷ 240 ∷ 255 ∷ []
  pub last_ticks : tabulate farthest 49 2 ≡ 510 ∷ 525 ∷ []
  -- the entries 0 to 16, and those around the limit and at the end
  pub first_entries : tabulate fewest 0 17 ≡ 0 ∷ 2 ∷ 3 ∷ 4 ∷ 4 ∷ 5 ∷ 5 ∷ 6 ∷ 6 ∷ 6 ∷ 7 ∷ 7 ∷ 7 ∷ 8 ∷ 8 ∷ 8 ∷ 8 ∷ []
  pub around_the_limit : tabulate fewest 224 3 ≡ 30 ∷ 30 ∷ 31 ∷ []
  pub next_tick : tabulate fewest 240 2 ≡ 31 ∷ 32 ∷ []
  pub last_entries : tabulate fewest 510 2 ≡ 49 ∷ 50 ∷ []
  -- the call
  pub call_0 : travel_meant 0 ≡ timed 0
  pub call_4 : travel_meant 4 ≡ timed 4
  pub call_511 : travel_meant 511 ≡ timed 50
  pub call_512 : travel_meant 512 ≡ refused 19
  pub call_65536 : travel_meant 65536 ≡ refused 19
  pub call_most : travel_meant 4294967295 ≡ refused 19
