-- A site file whose fields are laid out well, and the parts of that test.
-- Assumes nothing.
use Rattle.std.specs.Prelude.{ℕ, suc, ◌+◌, ◌*◌, ◌≤◌, ◌≡◌, List, [], ◌∷◌, Bool, true, false, cond, ◌&&◌, length, get_or, drop, leb, eqb, Option, None}
use Rattle.std.specs.Bool.{then_some}
use Rattle.meaning.specs.Limits.{horizon_limit, cell_limit, state_limit, margin_limit, sweep_limit, field_header, head_size, state_size, motion_size, sweep_size, centre_size}
use Rattle.meaning.specs.Basics.{within, u16_at}
use Rattle.meaning.specs.Fields.{Field, fields, complete, listed}
use Rattle.meaning.specs.Site.{head_of, head_good, later_of, state_count, layout_good, sweep_count, is_motion, site_of, state_at}
use Rattle.fields.specs.Places.{fields_at}
use Rattle.site_layout.specs.declared.Head.{Head}
use Rattle.site_layout.specs.declared.Leading.{Leading}

-- there is a first field, and p holds of it
unfoldable pub first_is : (Field → Bool) → List Field → Bool
first_is p [] = false
first_is p (f ∷ fs) = p f

-- how many bytes the value of the first field has, if it has the tag
unfoldable pub tagged : ℕ → List Field → Option ℕ
tagged tag [] = None
tagged tag (f ∷ fs) = then_some (eqb f.tag tag) (length f.value)

-- the head's values in range, where they start at the place at
unfoldable pub head_values : List ℕ → ℕ → Bool
head_values file at =
    within 1 horizon_limit (u16_at file at) && within 1 cell_limit (u16_at file (at + 2)) && within 1 state_limit (u16_at file (at + 4))
    && leb (get_or file (at + 6) 0) margin_limit

-- a motion's value may have n bytes
unfoldable pub motion_length : ℕ → Bool
motion_length n = within 1 sweep_limit (sweep_count n) && eqb n (motion_size + sweep_size * sweep_count n)

-- how many motions come first
unfoldable pub leading : List Field → ℕ
leading [] = 0
leading (f ∷ fs) = cond (is_motion f) (suc (leading fs)) 0

-- r says how many motions come first from the place start on, and where the field behind them starts
pub record LeadingIs (file : List ℕ) (start : ℕ) (r : Leading) : Type 0 where
  pub count : r.count ≡ leading (listed (fields_at file start))
  pub inside : r.next ≤ length file
  pub whole : complete (fields_at file r.next) ≡ true
  pub rest : listed (fields_at file r.next) ≡ drop r.count (listed (fields_at file start))

-- the bytes of the field of the head, of a state and of a centre
abbrev pub head_field : ℕ
head_field = field_header + head_size

abbrev pub state_field : ℕ
state_field = field_header + state_size

abbrev pub centre_field : ℕ
centre_field = field_header + centre_size

-- where the state i starts, or with all states before it, the first motion
abbrev pub state_place : ℕ → ℕ
state_place i = head_field + state_field * i

-- a file that none of 2 to 4 refuses
pub record Laid (file : List ℕ) : Type 0 where
  pub whole : complete (fields file) ≡ true
  pub head : head_good (head_of file) ≡ true
  pub layout : layout_good (site_of file).cells (state_count file) (later_of file) ≡ true

-- the head's values, as the site has them, and where the states start
pub record HeadIs (file : List ℕ) (head : Head) : Type 0 where
  pub horizon : head.horizon ≡ (site_of file).horizon
  pub cells : head.cells ≡ (site_of file).cells
  pub states : head.states ≡ state_count file
  pub margin : head.margin ≡ (site_of file).margin
  pub start : head.start ≡ state_place 0

-- the value of the state i starts at the place r: its cell, then its speed
pub record StateValue (file : List ℕ) (i r : ℕ) : Type 0 where
  pub inside : r + state_size ≤ length file
  pub cell : (state_at (site_of file) i).cell ≡ u16_at file r
  pub speed : (state_at (site_of file) i).speed ≡ get_or file (r + 2) 0
