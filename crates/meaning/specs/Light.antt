-- The light: a plan as a route call writes it and a post call takes it. 'Light' is the format's own word for a granted plan, and
-- the section of docs/FORMATS.md that has it byte by byte.
-- Assumes nothing.
use Rattle.std.specs.Prelude.{ℕ, Bool, true, cond, not, ◌&&◌, ◌||◌, List, [], ◌∷◌, ◌++◌, map, leb, eqb, length, get_or, drop}
use Rattle.std.proofs.Math.Option.{Option, some}
use Rattle.meaning.specs.Limits.{light_limit, light_tag, wait_tag, move_tag, light_head_size, step_size}
use Rattle.meaning.specs.Basics.{every, when, is_zero, u16_at, u32_at, put16, put32}
use Rattle.meaning.specs.Fields.{Field, no_field, fields, complete, listed, fields_bytes}
use Rattle.meaning.specs.Plan.{Step, wait, move, Node}

pub record Light : Type 0 where
  pub edition : ℕ
  pub tug : ℕ
  pub start : ℕ
  pub tick : ℕ
  pub goal : ℕ
  pub arrival : ℕ
  pub dwell : ℕ
  pub steps : List Step

-- where its plan starts, and where it says that it ends
abbrev pub start_of : Light → Node
start_of l = record { state = l.start; tick = l.tick }

abbrev pub goal_of : Light → Node
goal_of l = record { state = l.goal; tick = l.arrival }

-- ---- writing

abbrev pub light_head : Light → Field
light_head l =
    record {
      tag = light_tag;
      value =
          put32 l.edition ++ (l.tug ∷ (put16 l.start ++ (put16 l.tick ++ (put16 l.goal ++ (put16 l.arrival ++ put16 l.dwell)))));
    }

abbrev pub step_field : Step → Field
step_field (wait n) = record { tag = wait_tag; value = put16 n }
step_field (move m) = record { tag = move_tag; value = put16 m }

unfoldable pub encode : Light → List ℕ
encode l = fields_bytes (light_head l ∷ map step_field l.steps)

-- ---- reading

abbrev pub step_of : Field → Step
step_of f = cond (eqb f.tag wait_tag) (wait (u16_at f.value 0)) (move (u16_at f.value 0))

-- the head, and the fields after it
abbrev pub light_head_of : List ℕ → Field
light_head_of bytes = get_or (listed (fields bytes)) 0 no_field

abbrev pub step_fields : List ℕ → List Field
step_fields bytes = drop 1 (listed (fields bytes))

unfoldable pub light_of : List ℕ → Light
light_of bytes =
    record {
      edition = u32_at (light_head_of bytes).value 0;
      tug = get_or (light_head_of bytes).value 4 0;
      start = u16_at (light_head_of bytes).value 5;
      tick = u16_at (light_head_of bytes).value 7;
      goal = u16_at (light_head_of bytes).value 9;
      arrival = u16_at (light_head_of bytes).value 11;
      dwell = u16_at (light_head_of bytes).value 13;
      steps = map step_of (step_fields bytes);
    }

-- ---- the layout

unfoldable pub is_light_head : Field → Bool
is_light_head f = eqb f.tag light_tag && eqb (length f.value) light_head_size

unfoldable pub is_wait : Field → Bool
is_wait f = eqb f.tag wait_tag && eqb (length f.value) step_size && not (is_zero (u16_at f.value 0))

unfoldable pub is_move : Field → Bool
is_move f = eqb f.tag move_tag && eqb (length f.value) step_size

-- After a wait comes a motion or the end; after a motion, either or the end. A light may begin with a wait.
unfoldable pub in_layout : Bool → List Field → Bool
in_layout may_wait [] = true
in_layout may_wait (f ∷ fs) = (is_move f || (may_wait && is_wait f)) && in_layout (is_move f) fs

unfoldable pub is_light : List ℕ → Bool
is_light bytes =
    every (
    leb (length bytes) light_limit
    ∷ complete (fields bytes)
    ∷ is_light_head (light_head_of bytes)
    ∷ in_layout true (step_fields bytes)
    ∷ [])

-- the light that the bytes are, or nothing: number 8
unfoldable pub decode : List ℕ → Option Light
decode bytes = when (is_light bytes) (some (light_of bytes))
