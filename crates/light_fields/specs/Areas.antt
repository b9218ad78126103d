-- What the writers of a light leave in the area.
-- Assumes nothing.
use Rattle.std.specs.Prelude.{ℕ, ◌+◌, List, ◌++◌, length, take, drop}
use Rattle.meaning.specs.Fields.{Field}

-- the field with this tag and value
abbrev pub tagged : ℕ → List ℕ → Field
tagged tag value = record { tag = tag; value = value }

-- the area with new bytes at a place, and all others as they were
abbrev pub placed : ℕ → List ℕ → List ℕ → List ℕ
placed at new area = take at area ++ new ++ drop (at + length new) area
