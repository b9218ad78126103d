-- A turn of the day program: a call and its line, or the end.
-- Assumes nothing.
use Rattle.std.specs.Prelude.{ℕ, ◌≤◌, ◌≡◌, Bool, List, take}
use Rattle.std.proofs.Common.{ControlFlow, Continue, Break}
use Rattle.std.proofs.Math.Option.{Option, none, some}
use Rattle.day_lines.specs.Counts.{IsPrefixLen}
use Rattle.meaning.specs.Limits.{day_area}
use Rattle.meaning.specs.Fields.{Fields}
use Rattle.meaning.specs.Calls.{Call}
use Rattle.meaning.specs.Day.{Day, day_done, line_of, day_after, text_of, texts, line_next, day_next}
use Rattle.day_results.specs.declared.Outcome.{Outcome}
use Rattle.day_results.specs.Results.{kept_light}
use Rattle.day_calls.specs.Performed.{day_at}

-- the day after a turn, by the board and the output area that it left and the light that it says; nothing where the program ends
abbrev pub day_if : List ℕ → List ℕ → ControlFlow ℕ ℕ → Option Day
day_if board out (Continue light) = some (day_at board out light)
day_if board out (Break light) = none

-- the call's line is written, and the program goes on
pub record LineWritten (file : List ℕ) (d : Day) (c : Call) (r : Outcome) (line : List ℕ) (after : Option Day) : Type 0 where
  pub going : r.next ≡ Continue (kept_light r.next)
  pub few : kept_light r.next ≤ day_area
  pub counted : IsPrefixLen r.text line
  pub text : take r.text line ≡ text_of (line_of (day_done file d c))
  pub day : after ≡ some (day_after d (day_done file d c))

-- a turn, the first or a later one, over the fields fs, on the day d, wrote the turn's lines and left the day after
pub record Turned (file : List ℕ) (first : Bool) (fs : Fields) (d : Day) (r : Outcome) (line : List ℕ) (after : Option Day) : Type 0 where
  pub few : kept_light r.next ≤ day_area
  pub counted : IsPrefixLen r.text line
  pub text : take r.text line ≡ texts (line_next file first fs d)
  pub day : after ≡ day_next file fs d
