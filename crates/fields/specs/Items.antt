-- What the reader answers at a place, from the fields that start there.
-- Assumes nothing.
use Rattle.std.specs.Prelude.{ℕ, ◌+◌, List, length, drop}
use Rattle.meaning.specs.Limits.{field_header}
use Rattle.meaning.specs.Fields.{Fields, end, cut, next, fields}
use Rattle.fields.specs.declared.Item.{Item}
use Rattle.fields.specs.declared.Item.TheVariants.{Field, Cut, End}

-- the tag, where the value starts, its length, and where the next field starts
unfoldable pub first_item : ℕ → Fields → Item
first_item at end = End
first_item at cut = Cut
first_item at (next f fs) =
    Field (record { tag = f.tag; start = at + field_header; len = length f.value; next = at + field_header + length f.value })

unfoldable pub item_of : List ℕ → ℕ → Item
item_of s at = first_item at (fields (drop at s))
