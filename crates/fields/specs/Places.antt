-- Fields by their place in a file.
-- Assumes nothing.
use Rattle.std.specs.Prelude.{ℕ, ◌+◌, ◌≤◌, ◌≡◌, List, ◌∷◌, true, length, take, drop, get_or}
use Rattle.meaning.specs.Basics.{u16_at}
use Rattle.meaning.specs.Fields.{Field, Fields, fields, complete, listed}
use Rattle.meaning.specs.Fields as F
use Rattle.fields.specs.declared.Header.{Header}

-- the fields from the place at on
unfoldable pub fields_at : List ℕ → ℕ → Fields
fields_at s at = fields (drop at s)

-- the field whose header starts at the place at
unfoldable pub field_at : List ℕ → ℕ → Field
field_at s at = record { tag = get_or s at 0; value = take (u16_at s (at + 1)) (drop (at + 3) s) }

-- the field at the place at is whole: the next starts at r
pub record Next (s : List ℕ) (at r : ℕ) : Type 0 where
  pub place : r ≡ at + 3 + u16_at s (at + 1)
  pub inside : r ≤ length s
  pub whole : complete (fields_at s r) ≡ true
  pub list : listed (fields_at s at) ≡ field_at s at ∷ listed (fields_at s r)

-- a whole field starts at the place at, and h is its tag, where its value starts, the value's length, and where the next field starts
pub record Whole (s : List ℕ) (at : ℕ) (h : Header) : Type 0 where
  pub tag : h.tag ≡ get_or s at 0
  pub start : h.start ≡ at + 3
  pub len : h.len ≡ u16_at s (at + 1)
  pub next : h.next ≡ at + 3 + h.len
  pub inside : h.next ≤ length s
  pub fields : fields_at s at ≡ F.next (field_at s at) (fields_at s h.next)
