-- A light's steps by their place.
-- Assumes nothing.
use Rattle.std.specs.Prelude.{ℕ, ◌+◌, Bool, true, false, not, ◌&&◌, List, map, eqb, length}
use Rattle.meaning.specs.Limits.{field_header, step_size, wait_tag, move_tag}
use Rattle.meaning.specs.Basics.{is_zero, u16_at}
use Rattle.meaning.specs.Fields.{Fields, end, cut, next, complete, listed}
use Rattle.meaning.specs.Light.{is_move, is_wait, in_layout, step_of}
use Rattle.meaning.specs.Plan as Plan
use Rattle.fields.specs.Places.{fields_at}
use Rattle.light_steps.specs.declared.Step.{Step}
use Rattle.light_steps.specs.declared.Step.TheVariants.{Wait, Move, End, Wrong}

-- ---- the steps from a place on

unfoldable pub steps_from : List ℕ → ℕ → List Plan.Step
steps_from s at = map step_of (listed (fields_at s at))

-- no field is cut, and the layout holds where a wait may come first or may not
unfoldable pub laid_from : Bool → List ℕ → ℕ → Bool
laid_from may_wait s at = complete (fields_at s at) && in_layout may_wait (listed (fields_at s at))

-- ---- the step at a place, with the place of the next

-- by whether its field is a motion's, whether it is a wait's, and its number
abbrev pub step_by : Bool → Bool → ℕ → ℕ → Step
step_by true w n later = Move n later
step_by false true n later = Wait n later
step_by false false n later = Wrong

-- from a field's tag, its value's length, the number in its value, and where the next field starts
unfoldable pub step_in : ℕ → ℕ → ℕ → ℕ → Step
step_in tag len n later =
    step_by (eqb tag move_tag && eqb len step_size) (eqb tag wait_tag && eqb len step_size && not (is_zero n)) n later

unfoldable pub step_of_first : ℕ → Fields → Step
step_of_first at end = End
step_of_first at cut = Wrong
step_of_first at (next f fs) = step_by (is_move f) (is_wait f) (u16_at f.value 0) (at + field_header + length f.value)

unfoldable pub step_at : List ℕ → ℕ → Step
step_at s at = step_of_first at (fields_at s at)
