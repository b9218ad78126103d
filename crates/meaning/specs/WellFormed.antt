-- Which sites a file can describe and which lights the format can hold, with no reader: the rules, and the file of a site.
-- Assumes nothing.
use Rattle.std.specs.Prelude.{ℕ, suc, ◌+◌, ◌*◌, ◌≤◌, ◌<◌, ◌≡◌, ◌⊎◌, Bool, true, false, List, [], ◌∷◌, ◌++◌, map, length}
use Rattle.meaning.specs.Limits.{head_tag, state_tag, motion_tag, centre_tag}
use Rattle.meaning.specs.Basics.{Each, Some, put16}
use Rattle.meaning.specs.Fields.{Field, fields_bytes}
use Rattle.meaning.specs.Site.{Site, State, Sweep, Motion, Centre, cell_of}
use Rattle.meaning.specs.Plan.{Step, wait, move}
use Rattle.meaning.specs.Light.{Light}

-- ---- the rules on a site

-- some sweep uses the cell at the offset
abbrev pub Uses : List Sweep → ℕ → ℕ → Type 0
Uses ws c j = Some (λ (w : Sweep). (w.cell ≡ c) × (w.first ≤ j) × (j ≤ w.last)) ws

pub record GoodMotion (site : Site) (m : Motion) : Type 0 where
  pub from_below : m.from < length site.states
  pub to_below : m.to < length site.states
  pub differ : m.from ≡ m.to → ⊥
  pub takes_time : 1 ≤ m.span
  pub some_sweeps : 1 ≤ length m.sweeps
  pub few_sweeps : length m.sweeps ≤ 16
  pub sweeps_fit : Each (λ (w : Sweep). (w.cell < site.cells) × (w.first ≤ w.last) × (w.last ≤ m.span)) m.sweeps
  pub from_cell : Uses m.sweeps (cell_of site m.from) 0
  pub to_cell : Uses m.sweeps (cell_of site m.to) m.span
  -- handover: for each j below the span some one cell is used at both j and j + 1
  pub handed_over : (j : ℕ) → j < m.span → (c : ℕ) × Uses m.sweeps c j × Uses m.sweeps c (suc j)

pub record WellFormed (site : Site) : Type 0 where
  pub horizon_range : (1 ≤ site.horizon) × (site.horizon ≤ 1000)
  pub cells_range : (1 ≤ site.cells) × (site.cells ≤ 1000)
  pub states_range : (1 ≤ length site.states) × (length site.states ≤ 1280)
  pub margin_range : site.margin ≤ 20
  pub motions_range : length site.motions ≤ 4000
  pub state_cells : Each (λ (s : State). s.cell < site.cells) site.states
  pub motions_good : Each (GoodMotion site) site.motions
  -- a centre for each cell, or none
  pub centres_number : (length site.centres ≡ site.cells) ⊎ (length site.centres ≡ 0)

-- a centre that a file can hold: two bytes to a number
abbrev pub CentreFits : Centre → Type 0
CentreFits c = (c.x < 65536) × (c.y < 65536)

-- ---- the file of a site

abbrev pub state_field : State → Field
state_field s = record { tag = state_tag; value = put16 s.cell ++ (s.speed ∷ []) }

abbrev pub sweep_bytes : List Sweep → List ℕ
sweep_bytes [] = []
sweep_bytes (w ∷ ws) = put16 w.cell ++ (w.first ∷ w.last ∷ sweep_bytes ws)

abbrev pub motion_field : Motion → Field
motion_field m = record { tag = motion_tag; value = put16 m.from ++ (put16 m.to ++ (m.span ∷ sweep_bytes m.sweeps)) }

abbrev pub centre_field : Centre → Field
centre_field c = record { tag = centre_tag; value = put16 c.x ++ put16 c.y }

abbrev pub head_field : Site → Field
head_field site = record { tag = head_tag; value = put16 site.horizon ++ (put16 site.cells ++ (put16 (length site.states) ++ (site.margin ∷ []))) }

unfoldable pub file_of : Site → List ℕ
file_of site = fields_bytes (head_field site ∷ (map state_field site.states ++ (map motion_field site.motions ++ map centre_field site.centres)))

-- ---- lights that keep the layout

-- a wait is not 0 and comes only where one may come; numbers have 16 bits
abbrev pub InLayout : Bool → List Step → Type 0
InLayout may_wait [] = Unit {0}
InLayout may_wait (wait n ∷ ps) = (may_wait ≡ true) × (1 ≤ n) × (n < 65536) × InLayout false ps
InLayout may_wait (move m ∷ ps) = (m < 65536) × InLayout true ps

-- the head's numbers have their widths, and the steps keep the layout and leave the light at most 5,018 bytes
pub record KeepsLayout (l : Light) : Type 0 where
  pub edition_fits : l.edition ≤ 4294967295
  pub tug_fits : l.tug < 256
  pub start_fits : l.start < 65536
  pub tick_fits : l.tick < 65536
  pub goal_fits : l.goal < 65536
  pub arrival_fits : l.arrival < 65536
  pub dwell_fits : l.dwell < 65536
  pub laid_out : InLayout true l.steps
  pub short : 18 + 5 * length l.steps ≤ 5018
