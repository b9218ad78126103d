-- The site file: cells, states, motions and centres, read from bytes, and refusals 1 to 6 ('Site file' of docs/FORMATS.md).
-- Assumes nothing.
use Rattle.std.specs.Prelude.{ℕ, zero, suc, ◌+◌, ◌*◌, ◌-◌, ◌/◌, List, [], ◌∷◌, map, Bool, false, cond, ◌&&◌, ◌||◌, not, length, get_or, take, drop, leb, ltb, eqb}
use Rattle.meaning.specs.Limits.{file_limit, horizon_limit, cell_limit, state_limit, margin_limit, motion_limit, sweep_limit, head_tag, state_tag, motion_tag, centre_tag, head_size, state_size, motion_size, sweep_size, centre_size}
use Rattle.meaning.specs.Basics.{any, all, all_below, within, u16_at}
use Rattle.meaning.specs.Runs.{meets}
use Rattle.meaning.specs.Answers.{Refusal, ◌if◌, lowest, Answer, answer}
use Rattle.meaning.specs.Fields.{Field, no_field, fields, complete, listed}

-- a state: a cell and a speed; speed 0 is standing
pub record State : Type 0 where
  pub cell : ℕ
  pub speed : ℕ

-- a sweep: its motion uses the cell at the offsets first to last, both ends included
pub record Sweep : Type 0 where
  pub cell : ℕ
  pub first : ℕ
  pub last : ℕ

pub record Motion : Type 0 where
  pub from : ℕ
  pub to : ℕ
  pub span : ℕ
  pub sweeps : List Sweep

-- a cell's centre, in millimetres
pub record Centre : Type 0 where
  pub x : ℕ
  pub y : ℕ

-- H, C, the margin m, the states and motions, numbered from 0, and each cell's centre, in cell order, or none
pub record Site : Type 0 where
  pub horizon : ℕ
  pub cells : ℕ
  pub margin : ℕ
  pub states : List State
  pub motions : List Motion
  pub centres : List Centre

-- ---- by number; what stands for a number out of range is never used

abbrev pub no_state : State
no_state = record { cell = 0; speed = 1 }

abbrev pub no_motion : Motion
no_motion = record { from = 0; to = 0; span = 0; sweeps = [] }

abbrev pub no_centre : Centre
no_centre = record { x = 0; y = 0 }

abbrev pub state_at : Site → ℕ → State
state_at site n = get_or site.states n no_state

abbrev pub motion_at : Site → ℕ → Motion
motion_at site n = get_or site.motions n no_motion

abbrev pub centre_at : Site → ℕ → Centre
centre_at site c = get_or site.centres c no_centre

abbrev pub cell_of : Site → ℕ → ℕ
cell_of site s = (state_at site s).cell

abbrev pub standing : Site → ℕ → Bool
standing site s = eqb (state_at site s).speed 0

-- ---- what the fields say

-- four bytes to a sweep
unfoldable pub sweeps_of : List ℕ → List Sweep
sweeps_of [] = []
sweeps_of (h ∷ []) = []
sweeps_of (h ∷ l ∷ []) = []
sweeps_of (h ∷ l ∷ a ∷ []) = []
sweeps_of (h ∷ l ∷ a ∷ b ∷ s) = record { cell = h * 256 + l; first = a; last = b } ∷ sweeps_of s

unfoldable pub state_of : Field → State
state_of f = record { cell = u16_at f.value 0; speed = get_or f.value 2 0 }

unfoldable pub motion_of : Field → Motion
motion_of f =
    record { from = u16_at f.value 0; to = u16_at f.value 2; span = get_or f.value 4 0; sweeps = sweeps_of (drop motion_size f.value) }

unfoldable pub centre_of : Field → Centre
centre_of f = record { x = u16_at f.value 0; y = u16_at f.value 2 }

-- the fields before the first with a centre's tag, and from it on
unfoldable pub before_centres : List Field → List Field
before_centres [] = []
before_centres (f ∷ fs) = cond (eqb f.tag centre_tag) [] (f ∷ before_centres fs)

unfoldable pub from_centres : List Field → List Field
from_centres [] = []
from_centres (f ∷ fs) = cond (eqb f.tag centre_tag) (f ∷ fs) (from_centres fs)

-- the head, and the fields after it
unfoldable pub head_of : List ℕ → Field
head_of file = get_or (listed (fields file)) 0 no_field

unfoldable pub later_of : List ℕ → List Field
later_of file = drop 1 (listed (fields file))

unfoldable pub state_count : List ℕ → ℕ
state_count file = u16_at (head_of file).value 4

unfoldable pub site_of : List ℕ → Site
site_of file =
    record {
      horizon = u16_at (head_of file).value 0;
      cells = u16_at (head_of file).value 2;
      margin = get_or (head_of file).value 6 0;
      states = map state_of (take (state_count file) (later_of file));
      motions = map motion_of (before_centres (drop (state_count file) (later_of file)));
      centres = map centre_of (from_centres (drop (state_count file) (later_of file)));
    }

-- ---- 3: the head

unfoldable pub head_good : Field → Bool
head_good f =
    eqb f.tag head_tag && eqb (length f.value) head_size && within 1 horizon_limit (u16_at f.value 0)
    && within 1 cell_limit (u16_at f.value 2) && within 1 state_limit (u16_at f.value 4)
    && leb (get_or f.value 6 0) margin_limit

-- ---- 4: tags, lengths, order and number

unfoldable pub is_state : Field → Bool
is_state f = eqb f.tag state_tag && eqb (length f.value) state_size

-- how many sweeps a value of n bytes has
unfoldable pub sweep_count : ℕ → ℕ
sweep_count n = (n - motion_size) / sweep_size

-- 1 to 16 sweeps, and nothing beside them
unfoldable pub is_motion : Field → Bool
is_motion f =
    eqb f.tag motion_tag && within 1 sweep_limit (sweep_count (length f.value))
    && eqb (length f.value) (motion_size + sweep_size * sweep_count (length f.value))

unfoldable pub motions_laid : List Field → Bool
motions_laid fs = all is_motion fs && leb (length fs) motion_limit

unfoldable pub is_centre : Field → Bool
is_centre f = eqb f.tag centre_tag && eqb (length f.value) centre_size

-- one for each cell, or none
unfoldable pub centres_laid : ℕ → List Field → Bool
centres_laid cells fs = all is_centre fs && (eqb (length fs) cells || eqb (length fs) 0)

-- n states, then the motions, and then the centres
unfoldable pub layout_good : ℕ → ℕ → List Field → Bool
layout_good cells zero fs = motions_laid (before_centres fs) && centres_laid cells (from_centres fs)
layout_good cells (suc n) [] = false
layout_good cells (suc n) (f ∷ fs) = is_state f && layout_good cells n fs

-- ---- 5: a state's cell

abbrev pub cell_good : ℕ → State → Bool
cell_good cells s = ltb s.cell cells

-- ---- 6: a motion's values and sweeps

-- the sweep uses the cell at the offset: its run meets the run of that offset alone
abbrev pub covers : ℕ → ℕ → Sweep → Bool
covers cell offset w = eqb w.cell cell && meets w.first w.last offset offset

-- some sweep does
unfoldable pub uses : List Sweep → ℕ → ℕ → Bool
uses ws cell offset = any (covers cell offset) ws

-- handover: some one cell is used at both j and j + 1
abbrev pub carries : List Sweep → ℕ → Sweep → Bool
carries ws j w = uses ws w.cell j && uses ws w.cell (j + 1)

unfoldable pub handover : List Sweep → ℕ → Bool
handover ws j = any (carries ws j) ws

abbrev pub sweep_good : ℕ → ℕ → Sweep → Bool
sweep_good cells d w = ltb w.cell cells && leb w.first w.last && leb w.last d

-- two of n states that differ, and a span
unfoldable pub ends_good : ℕ → ℕ → ℕ → ℕ → Bool
ends_good n from to d = ltb from n && ltb to n && not (eqb from to) && leb 1 d

-- the sweeps keep to the cells and the span d, use the cell x at 0 and the cell y at d, and hand over at each offset below d
unfoldable pub sweeps_good : ℕ → ℕ → ℕ → ℕ → List Sweep → Bool
sweeps_good cells x y d ws = all (sweep_good cells d) ws && uses ws x 0 && uses ws y d && all_below (handover ws) d

unfoldable pub motion_good : Site → Motion → Bool
motion_good site m =
    ends_good (length site.states) m.from m.to m.span
    && sweeps_good site.cells (cell_of site m.from) (cell_of site m.to) m.span m.sweeps

-- ---- the refusals, each over the whole file

unfoldable pub site_refusals : List ℕ → List Refusal
site_refusals file =
    1 if not (leb (length file) file_limit)
    ∷ 2 if not (complete (fields file))
    ∷ 3 if not (head_good (head_of file))
    ∷ 4 if not (layout_good (site_of file).cells (state_count file) (later_of file))
    ∷ 5 if not (all (cell_good (site_of file).cells) (site_of file).states)
    ∷ 6 if not (all (motion_good (site_of file)) (site_of file).motions)
    ∷ []

unfoldable pub read_site : List ℕ → Answer Site
read_site file = answer (site_of file) (lowest (site_refusals file))
