-- Halls of more than 255 cells: a cell's number in two bytes, the largest sites, and lengths from before.
-- Assumes nothing.
use Rattle.std.specs.Prelude.{ℕ, ◌≡◌, List, [], ◌∷◌, ◌++◌, take, replicate}
use Rattle.meaning.specs.Basics.{put16}
use Rattle.meaning.specs.Fields.{Field, fields_bytes}
use Rattle.meaning.specs.Site.{read_site}
use Rattle.meaning.specs.Plan.{node}
use Rattle.meaning.specs.Calls.{route, post, close, PublicCall, opening, interval, listed, lends, Done, meant}
use Rattle.meaning.specs.Demands.{light_out}
use Rattle.meaning.specs.Day.{day_lines}
use Rattle.worked.specs.FourInLine.{number_of, board_of, bare_site, staying, line}

-- 300 cells and the ticks 0 to 3; a tug can stand on the cells 0 and 256, and motion 0 leads from the one to the other in one tick
abbrev pub hall : List ℕ
hall =
    1 ∷ 0 ∷ 7 ∷ 0 ∷ 3 ∷ 1 ∷ 44 ∷ 0 ∷ 2 ∷ 0
    ∷ 2 ∷ 0 ∷ 3 ∷ 0 ∷ 0 ∷ 0
    ∷ 2 ∷ 0 ∷ 3 ∷ 1 ∷ 0 ∷ 0
    ∷ 3 ∷ 0 ∷ 13 ∷ 0 ∷ 0 ∷ 0 ∷ 1 ∷ 1 ∷ 0 ∷ 0 ∷ 0 ∷ 1 ∷ 1 ∷ 0 ∷ 1 ∷ 1
    ∷ []

-- a call with areas that just fit
unfoldable pub called : List ℕ → PublicCall → Done
called board q = meant hall (lends board (replicate 33 238) (replicate 8 9)) q

abbrev pub number : List ℕ → PublicCall → ℕ
number board q = (called board q).number

unfoldable pub fresh : List ℕ
fresh = board_of (called (replicate 1204 9) opening)

unfoldable pub closed : ℕ → List ℕ
closed cell = board_of (called fresh (listed (close 200 cell 0 3)))

-- tug 7 from cell 0 to cell 256
abbrev pub asked : PublicCall
asked = listed (route 7 (node 0 0) 1 0)

unfoldable pub posted : List ℕ
posted = board_of (called fresh (listed (post (light_out (called fresh asked)))))

-- the script's fields: close 200 on cell 256 at 0 to 3, and tug 7 from cell 0 at tick 0 to the cell of a state
abbrev pub closing : Field
closing = record { tag = 32; value = 200 ∷ 1 ∷ 0 ∷ 0 ∷ 0 ∷ 0 ∷ 3 ∷ [] }

abbrev pub routing : ℕ → Field
routing goal = record { tag = 34; value = 7 ∷ 0 ∷ 0 ∷ 0 ∷ 0 ∷ 0 ∷ goal ∷ 0 ∷ 0 ∷ [] }

-- a site of so many cells with one standing state, in this cell
abbrev pub standing_in : ℕ → ℕ → List ℕ
standing_in cells cell =
    fields_bytes (
    record { tag = 1; value = 0 ∷ 12 ∷ (put16 cells ++ (0 ∷ 1 ∷ 0 ∷ [])) }
    ∷ record { tag = 2; value = put16 cell ++ (0 ∷ []) }
    ∷ [])

-- a site of 300 cells whose motion uses this cell too
abbrev pub sweeping : ℕ → List ℕ
sweeping cell =
    take 22 hall ++ fields_bytes (record { tag = 3; value = 0 ∷ 0 ∷ 0 ∷ 1 ∷ 1 ∷ 0 ∷ 0 ∷ 0 ∷ 1 ∷ 1 ∷ 0 ∷ 1 ∷ 1 ∷ (put16 cell ++ (0 ∷ 1 ∷ [])) } ∷ [])

-- a site of two states and so many motions between them
abbrev pub moving : ℕ → List ℕ
moving motions =
    fields_bytes (
    record { tag = 1; value = 0 ∷ 12 ∷ 0 ∷ 1 ∷ 0 ∷ 2 ∷ 0 ∷ [] }
    ∷ record { tag = 2; value = 0 ∷ 0 ∷ 0 ∷ [] }
    ∷ record { tag = 2; value = 0 ∷ 0 ∷ 1 ∷ [] }
    ∷ replicate motions (record { tag = 3; value = 0 ∷ 0 ∷ 0 ∷ 1 ∷ 1 ∷ 0 ∷ 0 ∷ 0 ∷ 1 ∷ [] }))

pub record WideCells : Type 0 where
  -- the number of 'When the desk says no' for the largest sites and those one past them
  pub cells_1000 : number_of (read_site (standing_in 1000 999)) ≡ 0
  pub cells_1001 : number_of (read_site (standing_in 1001 999)) ≡ 3
  pub cells_0 : number_of (read_site (standing_in 0 0)) ≡ 3
  pub cells_256 : number_of (read_site (standing_in 256 255)) ≡ 0
  pub cells_65535 : number_of (read_site (standing_in 65535 0)) ≡ 3
  pub states_1280 : number_of (read_site (bare_site 12 1 1280)) ≡ 0
  pub states_1281 : number_of (read_site (bare_site 12 1 1281)) ≡ 3
  pub motions_4000 : number_of (read_site (moving 4000)) ≡ 0
  pub motions_4001 : number_of (read_site (moving 4001)) ≡ 4
  -- a cell that the hall does not have: of a state and of a sweep
  pub state_1000 : number_of (read_site (standing_in 1000 1000)) ≡ 5
  pub state_256 : number_of (read_site (standing_in 256 256)) ≡ 5
  pub sweep_299 : number_of (read_site (sweeping 299)) ≡ 0
  pub sweep_300 : number_of (read_site (sweeping 300)) ≡ 6
  -- lengths from before cells had two bytes, and longer ones
  pub head_6 : number_of (read_site (fields_bytes (record { tag = 1; value = 0 ∷ 12 ∷ 1 ∷ 0 ∷ 1 ∷ 0 ∷ [] } ∷ record { tag = 2; value = 0 ∷ 0 ∷ 0 ∷ [] } ∷ []))) ≡ 3
  pub head_8 : number_of (read_site (fields_bytes (record { tag = 1; value = 0 ∷ 12 ∷ 0 ∷ 1 ∷ 0 ∷ 1 ∷ 0 ∷ 0 ∷ [] } ∷ record { tag = 2; value = 0 ∷ 0 ∷ 0 ∷ [] } ∷ []))) ≡ 3
  pub state_2 : number_of (read_site (fields_bytes (record { tag = 1; value = 0 ∷ 12 ∷ 0 ∷ 1 ∷ 0 ∷ 1 ∷ 0 ∷ [] } ∷ record { tag = 2; value = 0 ∷ 0 ∷ [] } ∷ []))) ≡ 4
  pub state_4 : number_of (read_site (fields_bytes (record { tag = 1; value = 0 ∷ 12 ∷ 0 ∷ 1 ∷ 0 ∷ 1 ∷ 0 ∷ [] } ∷ record { tag = 2; value = 0 ∷ 0 ∷ 0 ∷ 0 ∷ [] } ∷ []))) ≡ 4
  pub sweep_3 : number_of (read_site (take 22 hall ++ fields_bytes (record { tag = 3; value = 0 ∷ 0 ∷ 0 ∷ 1 ∷ 1 ∷ 0 ∷ 0 ∷ 1 ∷ [] } ∷ []))) ≡ 4
  -- the cells 0 and 256 have bytes of their own: the posted way, a closure on either, and what stays free
  pub way : (called fresh asked).values ≡ 23 ∷ 1 ∷ []
  pub board : posted ≡ (0 ∷ 0 ∷ 0 ∷ 1 ∷ []) ++ ((7 ∷ 7 ∷ 0 ∷ 0 ∷ []) ++ (replicate 1020 0 ++ ((0 ∷ 7 ∷ 0 ∷ 0 ∷ []) ++ replicate 172 0)))
  pub close_256 : closed 256 ≡ (0 ∷ 0 ∷ 0 ∷ 1 ∷ []) ++ (replicate 1024 0 ++ ((200 ∷ 200 ∷ 200 ∷ 200 ∷ []) ++ replicate 172 0))
  pub leaves_0 : (called (closed 256) (interval 0)).lent.out ≡ (0 ∷ 3 ∷ []) ++ replicate 31 238
  pub none_of_256 : (called (closed 256) (interval 256)).lent.out ≡ replicate 33 238
  pub no_way : number (closed 256) asked ≡ 18
  pub past_44 : number (closed 44) asked ≡ 0
  pub close_299 : number fresh (listed (close 200 299 0 3)) ≡ 0
  pub close_300 : number fresh (listed (close 200 300 0 3)) ≡ 10
  -- by script: cell 256 is closed, so no tug comes there, and cell 0 is free
  pub day_256 : day_lines hall (fields_bytes (closing ∷ routing 1 ∷ routing 0 ∷ [])) ≡ line 0 1 0 ∷ line 18 1 0 ∷ line 0 1 0 ∷ []
  -- 640 cells in the day program's areas: a board of 65,284 bytes, and one of 65,924
  pub day_640 : day_lines (bare_site 101 640 1) (staying 101) ≡ line 0 0 101 ∷ []
  pub day_640_102 : day_lines (bare_site 102 640 1) (staying 0) ≡ line 7 0 0 ∷ []
