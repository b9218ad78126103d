-- What starting the day came to, by the number of opening its board.
-- Assumes nothing.
use Rattle.std.specs.Prelude.{ℕ, ◌≤◌, ◌≡◌, List, length, take}
use Rattle.day_lines.specs.Counts.{IsPrefixLen}
use Rattle.meaning.specs.Limits.{header}
use Rattle.meaning.specs.Day.{line, text_of}
use Rattle.meaning.specs.DayPrints.{start}

-- accepted: the board is the first n bytes of the area
pub record Opens (file : List ℕ) (n : ℕ) (area : List ℕ) : Type 0 where
  pub number : (start file).number ≡ 0
  pub has_edition : header ≤ n
  pub inside : n ≤ length area
  pub front : take n area ≡ (start file).lent.board

-- refused: its line is the first n bytes of the text
pub record Refuses (file : List ℕ) (n : ℕ) (text : List ℕ) : Type 0 where
  pub number : (start file).number ≡ 0 → ⊥
  pub counted : IsPrefixLen n text
  pub front : take n text ≡ text_of (line (start file).number 0 0)
