-- A call of the day program: the day as the code holds it, and a call on it.
-- Assumes nothing.
use Rattle.std.specs.Prelude.{ℕ, ◌≤◌, ◌≡◌, List, take}
use Rattle.meaning.specs.Limits.{day_area, day_words}
use Rattle.meaning.specs.Calls.{Call}
use Rattle.meaning.specs.Day.{Day, day_done, arrival_of, day_after}
use Rattle.day_results.specs.declared.CallResult.{CallResult}

-- ---- what a call asks

-- the output area and the working words, by their lengths, and the last granted light's length
pub record Areas (out words light : ℕ) : Type 0 where
  pub out_size : out ≡ day_area
  pub words_size : words ≡ day_words
  pub light_inside : light ≤ day_area

-- ---- a call

-- the last granted light is the front of the output area
abbrev pub day_at : List ℕ → List ℕ → ℕ → Day
day_at board out light = record { board = board; light = take light out }

-- a call on the day d had the result r and left the day after
pub record Performed (file : List ℕ) (d : Day) (c : Call) (r : CallResult) (after : Day) : Type 0 where
  pub number : r.number ≡ (day_done file d c).number
  pub arrival : r.arrival ≡ arrival_of (day_done file d c).values
  pub day : after ≡ day_after d (day_done file d c)
