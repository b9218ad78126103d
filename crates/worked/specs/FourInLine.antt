-- The worked site 'Four in line' and its cases, as one statement about the definitions, from the 116 bytes of its site file.
-- Assumes nothing.
use Rattle.std.specs.Prelude.{ℕ, zero, suc, ◌+◌, ◌*◌, ◌/◌, ◌%◌, ◌≡◌, List, [], ◌∷◌, ◌++◌, length, take, drop, replicate, set}
use Rattle.std.proofs.Math.Option.{Option, none, some}
use Rattle.meaning.specs.Answers.{Answer, accepted, refused}
use Rattle.meaning.specs.Fields.{Field, fields_bytes}
use Rattle.meaning.specs.Site.{site_of, read_site}
use Rattle.meaning.specs.Board.{free, edition}
use Rattle.meaning.specs.Plan.{Step, wait, move, Node, node}
use Rattle.meaning.specs.Reach.{Route}
use Rattle.meaning.specs.Light.{Light, decode}
use Rattle.meaning.specs.Calls.{route, audit, post, close, PublicCall, opening, interval, listed, lends, Done, meant}
use Rattle.meaning.specs.Demands.{light_out}
use Rattle.meaning.specs.Day.{Line, day_lines, day_text}
use Rattle.meaning.specs.EarliestOnly.{earliest_number}

-- the site with a margin: the last byte of its head
abbrev pub site_with : ℕ → List ℕ
site_with m =
    1 ∷ 0 ∷ 7 ∷ 0 ∷ 12 ∷ 0 ∷ 4 ∷ 0 ∷ 5 ∷ m
    ∷ 2 ∷ 0 ∷ 3 ∷ 0 ∷ 0 ∷ 0
    ∷ 2 ∷ 0 ∷ 3 ∷ 0 ∷ 1 ∷ 1
    ∷ 2 ∷ 0 ∷ 3 ∷ 0 ∷ 1 ∷ 0
    ∷ 2 ∷ 0 ∷ 3 ∷ 0 ∷ 2 ∷ 1
    ∷ 2 ∷ 0 ∷ 3 ∷ 0 ∷ 3 ∷ 0
    ∷ 3 ∷ 0 ∷ 13 ∷ 0 ∷ 0 ∷ 0 ∷ 1 ∷ 2 ∷ 0 ∷ 0 ∷ 0 ∷ 1 ∷ 0 ∷ 1 ∷ 1 ∷ 2
    ∷ 3 ∷ 0 ∷ 13 ∷ 0 ∷ 1 ∷ 0 ∷ 3 ∷ 1 ∷ 0 ∷ 1 ∷ 0 ∷ 1 ∷ 0 ∷ 2 ∷ 1 ∷ 1
    ∷ 3 ∷ 0 ∷ 13 ∷ 0 ∷ 3 ∷ 0 ∷ 4 ∷ 2 ∷ 0 ∷ 2 ∷ 0 ∷ 1 ∷ 0 ∷ 3 ∷ 1 ∷ 2
    ∷ 3 ∷ 0 ∷ 9 ∷ 0 ∷ 1 ∷ 0 ∷ 2 ∷ 2 ∷ 0 ∷ 1 ∷ 0 ∷ 2
    ∷ 3 ∷ 0 ∷ 13 ∷ 0 ∷ 2 ∷ 0 ∷ 3 ∷ 2 ∷ 0 ∷ 1 ∷ 0 ∷ 1 ∷ 0 ∷ 2 ∷ 1 ∷ 2
    ∷ []

-- the cases of 'Four in line' have margin 0
abbrev pub site_file : List ℕ
site_file = site_with 0

-- ---- calls on a board, with areas that just fit and are not zero; with a margin, and without

unfoldable pub called_with : ℕ → List ℕ → PublicCall → Done
called_with m board q = meant (site_with m) (lends board (replicate 78 238) (replicate 65 9)) q

abbrev pub called : List ℕ → PublicCall → Done
called board q = called_with 0 board q

abbrev pub board_of : Done → List ℕ
board_of d = d.lent.board

-- a board just opened, over bytes that are not 0
unfoldable pub fresh : List ℕ
fresh = board_of (called (replicate 56 9) opening)

-- one more closure, one more light
unfoldable pub closed_with : ℕ → ℕ → ℕ → ℕ → ℕ → List ℕ → List ℕ
closed_with m h c first last board = board_of (called_with m board (listed (close h c first last)))

abbrev pub closed : ℕ → ℕ → ℕ → ℕ → List ℕ → List ℕ
closed h c first last board = closed_with 0 h c first last board

unfoldable pub posted : List ℕ → List ℕ → List ℕ
posted light board = board_of (called board (listed (post light)))

-- the bytes that a grant of tug 7 writes
unfoldable pub light_for : List ℕ → Node → ℕ → ℕ → List ℕ
light_for board a goal dwell = light_out (called board (listed (route 7 a goal dwell)))

-- a route with a dwell: the steps and the arrival of the light that it writes, or its number
abbrev pub found : List Step → ℕ → Answer Route
found ps t = accepted (record { steps = ps; arrival = t })

abbrev pub says : ℕ → Option Light → Answer Route
says zero none = refused 8
says zero (some l) = found l.steps l.arrival
says (suc n) o = refused (suc n)

unfoldable pub routed_with : ℕ → ℕ → List ℕ → Node → ℕ → ℕ → Answer Route
routed_with m tug board a goal dwell =
    says (called_with m board (listed (route tug a goal dwell))).number (decode (light_out (called_with m board (listed (route tug a goal dwell)))))

-- tug 7's
abbrev pub unloading : List ℕ → Node → ℕ → ℕ → Answer Route
unloading board a goal dwell = routed_with 0 7 board a goal dwell

-- the cases of 'Four in line' have dwell 0
abbrev pub routed : List ℕ → Node → ℕ → Answer Route
routed board a goal = unloading board a goal 0

-- ---- the boards of the cases

unfoldable pub board_b : List ℕ
board_b = closed 200 3 0 8 fresh

unfoldable pub board_c : List ℕ
board_c = closed 201 1 4 4 board_b

unfoldable pub board_d : List ℕ
board_d = closed 201 0 5 12 board_b

unfoldable pub board_n : List ℕ
board_n = closed 200 1 4 4 fresh

unfoldable pub light_a : List ℕ
light_a = light_for fresh (node 0 0) 4 0

unfoldable pub posted_a : List ℕ
posted_a = posted light_a fresh

-- B's light, byte for byte
abbrev pub light_b : List ℕ
light_b =
    0x10 ∷ 0x00 ∷ 0x0F ∷ 0x00 ∷ 0x00 ∷ 0x00 ∷ 0x01 ∷ 0x07 ∷ 0x00 ∷ 0x00 ∷ 0x00 ∷ 0x00 ∷ 0x00 ∷ 0x04 ∷ 0x00 ∷ 0x0A ∷ 0x00 ∷ 0x00
    ∷ 0x11 ∷ 0x00 ∷ 0x02 ∷ 0x00 ∷ 0x05
    ∷ 0x12 ∷ 0x00 ∷ 0x02 ∷ 0x00 ∷ 0x00
    ∷ 0x12 ∷ 0x00 ∷ 0x02 ∷ 0x00 ∷ 0x01
    ∷ 0x12 ∷ 0x00 ∷ 0x02 ∷ 0x00 ∷ 0x02
    ∷ []

-- I's light: start 1, tick 3
abbrev pub light_i : List ℕ
light_i =
    0x10 ∷ 0x00 ∷ 0x0F ∷ 0x00 ∷ 0x00 ∷ 0x00 ∷ 0x01 ∷ 0x07 ∷ 0x00 ∷ 0x01 ∷ 0x00 ∷ 0x03 ∷ 0x00 ∷ 0x04 ∷ 0x00 ∷ 0x09 ∷ 0x00 ∷ 0x00
    ∷ 0x12 ∷ 0x00 ∷ 0x02 ∷ 0x00 ∷ 0x03
    ∷ 0x12 ∷ 0x00 ∷ 0x02 ∷ 0x00 ∷ 0x04
    ∷ 0x12 ∷ 0x00 ∷ 0x02 ∷ 0x00 ∷ 0x02
    ∷ []

-- A's light with a dwell, its two bytes
abbrev pub light_of_dwell : ℕ → ℕ → List ℕ
light_of_dwell high low =
    0x10 ∷ 0x00 ∷ 0x0F ∷ 0x00 ∷ 0x00 ∷ 0x00 ∷ 0x00 ∷ 0x07 ∷ 0x00 ∷ 0x00 ∷ 0x00 ∷ 0x00 ∷ 0x00 ∷ 0x04 ∷ 0x00 ∷ 0x05 ∷ high ∷ low
    ∷ 0x12 ∷ 0x00 ∷ 0x02 ∷ 0x00 ∷ 0x00
    ∷ 0x12 ∷ 0x00 ∷ 0x02 ∷ 0x00 ∷ 0x01
    ∷ 0x12 ∷ 0x00 ∷ 0x02 ∷ 0x00 ∷ 0x02
    ∷ []

-- the same with a head of 13 bytes, as lights had it before there was a dwell
abbrev pub light_of_no_dwell : List ℕ
light_of_no_dwell =
    0x10 ∷ 0x00 ∷ 0x0D ∷ 0x00 ∷ 0x00 ∷ 0x00 ∷ 0x00 ∷ 0x07 ∷ 0x00 ∷ 0x00 ∷ 0x00 ∷ 0x00 ∷ 0x00 ∷ 0x04 ∷ 0x00 ∷ 0x05
    ∷ 0x12 ∷ 0x00 ∷ 0x02 ∷ 0x00 ∷ 0x00
    ∷ 0x12 ∷ 0x00 ∷ 0x02 ∷ 0x00 ∷ 0x01
    ∷ 0x12 ∷ 0x00 ∷ 0x02 ∷ 0x00 ∷ 0x02
    ∷ []

unfoldable pub audited : List ℕ → ℕ
audited light = (called fresh (listed (audit light))).number

-- the dock, cell 3, is closed at 7
unfoldable pub board_dock : List ℕ
board_dock = closed 200 3 7 7 fresh

-- A's light with dwell 2, posted
unfoldable pub posted_dwell : List ℕ
posted_dwell = posted (light_of_dwell 0 2) fresh

-- a route with other areas
unfoldable pub lent_route : ℕ → ℕ → Done
lent_route out words = meant site_file (lends fresh (replicate out 238) (replicate words 9)) (listed (route 7 (node 0 0) 4 0))

unfoldable pub lent_interval : ℕ → Done
lent_interval out = meant site_file (lends board_n (replicate out 238) []) (interval 1)

-- ---- with a margin

-- tug 8's route from state 0 at a tick to state 4, behind A
unfoldable pub behind_a : ℕ → ℕ → Answer Route
behind_a m tick = routed_with m 8 posted_a (node 0 tick) 4 0

-- the ticks of cell 1's safe intervals, as the call writes them
abbrev pub numbers_in : List ℕ → List ℕ → List ℕ
numbers_in [] out = []
numbers_in (n ∷ values) out = take (2 * n) out

unfoldable pub intervals_with : ℕ → List ℕ → List ℕ
intervals_with m board = let d : Done = called_with m board (interval 1) in numbers_in d.values d.lent.out

-- the numbers of a closing, and of the audit of A's light made from edition 1
unfoldable pub closing_with : ℕ → List ℕ → ℕ → ℕ → ℕ → ℕ → ℕ
closing_with m board h c first last = (called_with m board (listed (close h c first last))).number

abbrev pub light_of_one : List ℕ
light_of_one = set (light_of_dwell 0 0) 6 1

unfoldable pub audited_with : ℕ → List ℕ → List ℕ → ℕ
audited_with m board light = (called_with m board (listed (audit light))).number

-- the number of a reading, and the site with a head of 5 bytes, as heads were before there was a margin
abbrev pub number_of : {A : Type 0} → Answer A → ℕ
number_of (accepted a) = 0
number_of (refused n) = n

abbrev pub old_site : List ℕ
old_site = (1 ∷ 0 ∷ 6 ∷ 0 ∷ 12 ∷ 0 ∷ 4 ∷ 0 ∷ 5 ∷ []) ++ drop 10 site_file

-- a byte 255 in cell 1 at tick 4: place 4 + 1 * 13 + 4
unfoldable pub board_unknown : List ℕ
board_unknown = set fresh 21 255

-- cell 3 closed at 0-5, and beside it at 6-8
unfoldable pub board_touching : List ℕ
board_touching = closed_with 20 201 3 6 8 (closed_with 20 200 3 0 5 fresh)

-- O: the site with one more motion, 0 to 2 in one tick, that lets go of cell 0 as it takes cell 1
abbrev pub site_file_o : List ℕ
site_file_o = site_file ++ fields_bytes (record { tag = 3; value = 0 ∷ 0 ∷ 0 ∷ 2 ∷ 1 ∷ 0 ∷ 0 ∷ 0 ∷ 0 ∷ 0 ∷ 1 ∷ 1 ∷ 1 ∷ [] } ∷ [])

-- fields of the day program's scripts: close 200 on cell 3 0-8, its withdrawal, B's route with the two bytes of its dwell, a post
abbrev pub closing : Field
closing = record { tag = 32; value = 200 ∷ 0 ∷ 3 ∷ 0 ∷ 0 ∷ 0 ∷ 8 ∷ [] }

abbrev pub withdrawing : Field
withdrawing = record { tag = 33; value = 200 ∷ [] }

abbrev pub routing_for : ℕ → ℕ → Field
routing_for high low = record { tag = 34; value = 7 ∷ 0 ∷ 0 ∷ 0 ∷ 0 ∷ 0 ∷ 4 ∷ high ∷ low ∷ [] }

abbrev pub routing : Field
routing = routing_for 0 0

abbrev pub posting : Field
posting = record { tag = 35; value = [] }

-- a field with a value of n bytes
abbrev pub sized : ℕ → ℕ → List ℕ
sized tag n = fields_bytes (record { tag = tag; value = replicate n 1 } ∷ [])

abbrev pub script : List ℕ
script = fields_bytes (closing ∷ routing ∷ posting ∷ [])

-- two cells with the ticks 0 to 6, a standing state in each, and a motion of one tick each way
abbrev pub two_cells : List ℕ
two_cells =
    1 ∷ 0 ∷ 7 ∷ 0 ∷ 6 ∷ 0 ∷ 2 ∷ 0 ∷ 2 ∷ 0
    ∷ 2 ∷ 0 ∷ 3 ∷ 0 ∷ 0 ∷ 0
    ∷ 2 ∷ 0 ∷ 3 ∷ 0 ∷ 1 ∷ 0
    ∷ 3 ∷ 0 ∷ 13 ∷ 0 ∷ 0 ∷ 0 ∷ 1 ∷ 1 ∷ 0 ∷ 0 ∷ 0 ∷ 1 ∷ 0 ∷ 1 ∷ 1 ∷ 1
    ∷ 3 ∷ 0 ∷ 13 ∷ 0 ∷ 1 ∷ 0 ∷ 0 ∷ 1 ∷ 0 ∷ 1 ∷ 0 ∷ 1 ∷ 0 ∷ 0 ∷ 1 ∷ 1
    ∷ []

-- close cell 1 at 2, and route tug 7 from state 1 at tick 0 to state 1, where it is, with a dwell
abbrev pub back_for : ℕ → List ℕ
back_for dwell =
    fields_bytes (record { tag = 32; value = 200 ∷ 0 ∷ 1 ∷ 0 ∷ 2 ∷ 0 ∷ 2 ∷ [] } ∷ record { tag = 34; value = 7 ∷ 0 ∷ 1 ∷ 0 ∷ 0 ∷ 0 ∷ 1 ∷ 0 ∷ dwell ∷ [] } ∷ [])

-- sites for the day program's areas: H, C, S standing states of cell 0, no motion
abbrev pub bare_site : ℕ → ℕ → ℕ → List ℕ
bare_site horizon cells states =
    fields_bytes (
    record { tag = 1; value = horizon / 256 ∷ horizon % 256 ∷ cells / 256 ∷ cells % 256 ∷ states / 256 ∷ states % 256 ∷ 0 ∷ [] }
    ∷ replicate states (record { tag = 2; value = 0 ∷ 0 ∷ 0 ∷ [] }))

-- a route of tug 7 from state 0 at the tick to state 0
abbrev pub staying_for : ℕ → ℕ → List ℕ
staying_for tick dwell =
    fields_bytes (record { tag = 34; value = 7 ∷ 0 ∷ 0 ∷ tick / 256 ∷ tick % 256 ∷ 0 ∷ 0 ∷ dwell / 256 ∷ dwell % 256 ∷ [] } ∷ [])

abbrev pub staying : ℕ → List ℕ
staying tick = staying_for tick 0

abbrev pub line : ℕ → ℕ → ℕ → Line
line n e t = record { number = n; edition = e; arrival = t }

-- ---- the cases; start 0, tick 0 and goal 4 unless they say otherwise

pub record Starred : Type 0 where
  pub size : length site_file ≡ 116
  pub A : routed fresh (node 0 0) 4 ≡ found (move 0 ∷ move 1 ∷ move 2 ∷ []) 5
  pub B : routed board_b (node 0 0) 4 ≡ found (wait 5 ∷ move 0 ∷ move 1 ∷ move 2 ∷ []) 10
  pub b_light : light_for board_b (node 0 0) 4 0 ≡ light_b
  pub C : routed board_c (node 0 0) 4 ≡ found (wait 5 ∷ move 0 ∷ move 1 ∷ move 2 ∷ []) 10
  pub c_earliest_only : earliest_number (site_of site_file) (free (site_of site_file) board_c) (node 0 0) 4 ≡ 18
  pub D : routed board_d (node 0 0) 4 ≡ found (move 0 ∷ move 3 ∷ wait 2 ∷ move 4 ∷ move 2 ∷ []) 10
  pub E : routed (closed 200 3 0 10 fresh) (node 0 0) 4 ≡ found (wait 7 ∷ move 0 ∷ move 1 ∷ move 2 ∷ []) 12
  pub F : routed (closed 200 3 0 11 fresh) (node 0 0) 4 ≡ refused 18
  pub G : routed (closed 200 0 0 0 fresh) (node 0 0) 4 ≡ refused 18
  pub H : routed fresh (node 4 12) 4 ≡ found [] 12
  pub I : routed (closed 200 2 4 4 fresh) (node 1 3) 4 ≡ found (move 3 ∷ move 4 ∷ move 2 ∷ []) 9
  pub i_light : light_for (closed 200 2 4 4 fresh) (node 1 3) 4 0 ≡ light_i
  pub k_first : (called board_b (listed (post light_b))).number ≡ 0
  pub k_edition : edition (posted light_b board_b) ≡ 2
  pub k_again : (called (posted light_b board_b) (listed (post light_b))).number ≡ 12
  pub L : (called (closed 200 3 12 12 fresh) (listed (post light_a))).number ≡ 16
  pub m_held : (called posted_a (listed (close 200 1 3 3))).number ≡ 17
  pub m_free : (called posted_a (listed (close 200 1 4 4))).number ≡ 0
  pub n_count : (called board_n (interval 1)).values ≡ 2 ∷ []
  pub n_area : (called board_n (interval 1)).lent.out ≡ (0 ∷ 3 ∷ 5 ∷ 12 ∷ []) ++ replicate 74 238

-- time at the dock (request 2)
pub record AtTheDock : Type 0 where
  pub b_dwell_2 : unloading board_b (node 0 0) 4 2 ≡ found (wait 5 ∷ move 0 ∷ move 1 ∷ move 2 ∷ []) 10
  pub b_dwell_3 : unloading board_b (node 0 0) 4 3 ≡ refused 18
  pub a_dwell_7 : unloading fresh (node 0 0) 4 7 ≡ found (move 0 ∷ move 1 ∷ move 2 ∷ []) 5
  pub a_dwell_8 : unloading fresh (node 0 0) 4 8 ≡ refused 18
  -- the dock is closed at 7: with dwell 1 the tug is gone by then; with more it arrives after it, and M2 uses the dock a tick before it arrives
  pub dock_1 : unloading board_dock (node 0 0) 4 1 ≡ found (move 0 ∷ move 1 ∷ move 2 ∷ []) 5
  pub dock_2 : unloading board_dock (node 0 0) 4 2 ≡ found (wait 4 ∷ move 0 ∷ move 1 ∷ move 2 ∷ []) 9
  pub dock_3 : unloading board_dock (node 0 0) 4 3 ≡ found (wait 4 ∷ move 0 ∷ move 1 ∷ move 2 ∷ []) 9
  pub dock_4 : unloading board_dock (node 0 0) 4 4 ≡ refused 18
  -- no steps
  pub there_9 : unloading fresh (node 4 3) 4 9 ≡ found [] 3
  pub there_10 : unloading fresh (node 4 3) 4 10 ≡ refused 18
  pub there_last : unloading fresh (node 4 12) 4 1 ≡ refused 18
  -- 1,000 may be named and does not fit; 1,001 may not, nor to a goal that is no standing state
  pub dwell_1000 : unloading fresh (node 0 0) 4 1000 ≡ refused 18
  pub dwell_1001 : unloading fresh (node 0 0) 4 1001 ≡ refused 10
  pub dwell_1001_rolling : unloading fresh (node 0 0) 1 1001 ≡ refused 10
  pub dwell_1000_rolling : unloading fresh (node 0 0) 1 1000 ≡ refused 11
  -- the light, and the board that it is posted on: edition 1, then cell by cell
  pub light : light_for fresh (node 0 0) 4 2 ≡ light_of_dwell 0 2
  pub board : posted_dwell
      ≡ (0 ∷ 0 ∷ 0 ∷ 1 ∷ [])
      ++ ((7 ∷ 7 ∷ 0 ∷ 0 ∷ 0 ∷ 0 ∷ 0 ∷ 0 ∷ 0 ∷ 0 ∷ 0 ∷ 0 ∷ 0 ∷ [])
      ++ ((0 ∷ 7 ∷ 7 ∷ 7 ∷ 0 ∷ 0 ∷ 0 ∷ 0 ∷ 0 ∷ 0 ∷ 0 ∷ 0 ∷ 0 ∷ [])
      ++ ((0 ∷ 0 ∷ 0 ∷ 7 ∷ 7 ∷ 0 ∷ 0 ∷ 0 ∷ 0 ∷ 0 ∷ 0 ∷ 0 ∷ 0 ∷ [])
      ++ (0 ∷ 0 ∷ 0 ∷ 0 ∷ 7 ∷ 7 ∷ 7 ∷ 7 ∷ 0 ∷ 0 ∷ 0 ∷ 0 ∷ 0 ∷ []))))
  pub held_7 : (called posted_dwell (listed (close 200 3 7 7))).number ≡ 17
  pub free_8 : (called posted_dwell (listed (close 200 3 8 8))).number ≡ 0
  -- 7 ends at the horizon and 8 after it; 1,000 is a number that a light may have, 1,001 is not
  pub audit_7 : audited (light_of_dwell 0 7) ≡ 0
  pub audit_8 : audited (light_of_dwell 0 8) ≡ 17
  pub audit_1000 : audited (light_of_dwell 3 232) ≡ 17
  pub audit_1001 : audited (light_of_dwell 3 233) ≡ 10
  pub audit_old_head : audited light_of_no_dwell ≡ 8
  -- by script: B's dwells, the high byte first, one above the limit, and fields of other lengths
  pub day_dwell_2 : day_lines site_file (fields_bytes (closing ∷ routing_for 0 2 ∷ posting ∷ [])) ≡ line 0 1 0 ∷ line 0 1 10 ∷ line 0 2 0 ∷ []
  pub day_dwell_3 : day_lines site_file (fields_bytes (closing ∷ routing_for 0 3 ∷ [])) ≡ line 0 1 0 ∷ line 18 1 0 ∷ []
  pub day_dwell_256 : day_lines site_file (fields_bytes (routing_for 1 0 ∷ [])) ≡ line 18 0 0 ∷ []
  pub day_dwell_1001 : day_lines site_file (fields_bytes (routing_for 3 233 ∷ [])) ≡ line 10 0 0 ∷ []
  pub day_route_7 : day_lines site_file (sized 34 7) ≡ line 99 0 0 ∷ []
  pub day_route_8 : day_lines site_file (sized 34 8) ≡ line 99 0 0 ∷ []
  pub day_route_10 : day_lines site_file (sized 34 10) ≡ line 99 0 0 ∷ []
  -- a tug on its goal that cannot unload before the closure leaves, waits and comes back; with dwell 1 it stays
  pub back_1 : day_lines two_cells (back_for 1) ≡ line 0 1 0 ∷ line 0 1 0 ∷ []
  pub back_3 : day_lines two_cells (back_for 3) ≡ line 0 1 0 ∷ line 0 1 3 ∷ []
  pub back_4 : day_lines two_cells (back_for 4) ≡ line 0 1 0 ∷ line 18 1 0 ∷ []
  -- the longest dwell, in the one cell of a hall of 1,001 ticks
  pub day_dwell_1000 : day_lines (bare_site 1000 1 1) (staying_for 0 1000) ≡ line 0 0 0 ∷ []

-- air between tugs (request 5): A holds cell 0 at 0-1, cell 1 at 1-3, cell 2 at 3-4 and cell 3 at 4-5
pub record Margins : Type 0 where
  -- the head's last byte
  pub margin_20 : number_of (read_site (site_with 20)) ≡ 0
  pub margin_21 : number_of (read_site (site_with 21)) ≡ 3
  pub margin_255 : number_of (read_site (site_with 255)) ≡ 3
  pub old_head : number_of (read_site old_site) ≡ 3
  -- a tug that follows A through the same cells
  pub behind_0 : behind_a 0 2 ≡ found (wait 1 ∷ move 0 ∷ move 1 ∷ move 2 ∷ []) 8
  pub behind_1_early : behind_a 1 2 ≡ refused 18
  pub behind_1 : behind_a 1 3 ≡ found (wait 1 ∷ move 0 ∷ move 1 ∷ move 2 ∷ []) 9
  pub behind_2_early : behind_a 2 3 ≡ refused 18
  pub behind_2 : behind_a 2 4 ≡ found (wait 1 ∷ move 0 ∷ move 1 ∷ move 2 ∷ []) 10
  pub behind_4 : behind_a 4 6 ≡ found (wait 1 ∷ move 0 ∷ move 1 ∷ move 2 ∷ []) 12
  pub behind_5 : behind_a 5 7 ≡ refused 18
  -- the safe intervals of cell 1 behind A, and beside a closure at 4: tugs keep away from closures as from tugs
  pub intervals_0 : intervals_with 0 posted_a ≡ 0 ∷ 0 ∷ 4 ∷ 12 ∷ []
  pub intervals_1 : intervals_with 1 posted_a ≡ 5 ∷ 12 ∷ []
  pub intervals_2 : intervals_with 2 posted_a ≡ 6 ∷ 12 ∷ []
  pub intervals_8 : intervals_with 8 posted_a ≡ 12 ∷ 12 ∷ []
  pub intervals_9 : intervals_with 9 posted_a ≡ []
  pub n_1 : intervals_with 1 board_n ≡ 0 ∷ 2 ∷ 6 ∷ 12 ∷ []
  pub n_4 : intervals_with 4 board_n ≡ 9 ∷ 12 ∷ []
  pub n_8 : intervals_with 8 board_n ≡ []
  -- closures keep away from tugs
  pub close_4 : closing_with 1 posted_a 200 1 4 4 ≡ 17
  pub close_5 : closing_with 1 posted_a 200 1 5 5 ≡ 0
  pub close_0 : closing_with 1 posted_a 200 1 0 0 ≡ 17
  pub close_5_12 : closing_with 2 posted_a 200 1 5 12 ≡ 17
  pub close_6_12 : closing_with 2 posted_a 200 1 6 12 ≡ 0
  -- and may touch each other
  pub touch : closing_with 20 (closed_with 20 200 3 0 5 fresh) 201 3 6 8 ≡ 0
  pub touch_held : closing_with 20 board_touching 202 3 8 9 ≡ 17
  pub touch_next : closing_with 20 board_touching 202 3 9 9 ≡ 0
  -- A audited where cell 1 is closed after it
  pub audit_5 : audited_with 1 (closed_with 1 200 1 5 5 fresh) light_of_one ≡ 0
  pub audit_4 : audited_with 1 (closed_with 1 200 1 4 4 fresh) light_of_one ≡ 17
  -- a byte held by nobody known keeps tugs away, and closures only where it is
  pub unknown_audit : audited_with 1 board_unknown light_a ≡ 17
  pub unknown_beside : closing_with 1 board_unknown 200 1 5 5 ≡ 0
  pub unknown_there : closing_with 1 board_unknown 200 1 3 4 ≡ 17
  -- the dock is closed at 9: a tug that unloads keeps away from it
  pub dock_2 : routed_with 1 7 (closed_with 1 200 3 9 9 fresh) (node 0 0) 4 2 ≡ found (move 0 ∷ move 1 ∷ move 2 ∷ []) 5
  pub dock_3 : routed_with 1 7 (closed_with 1 200 3 9 9 fresh) (node 0 0) 4 3 ≡ refused 18

-- the cases without a star, and the day program's example
pub record Computed : Type 0 where
  -- an earliest-only search does find the way of case A
  pub a_earliest_only : earliest_number (site_of site_file) (free (site_of site_file) fresh) (node 0 0) 4 ≡ 0
  -- and one that must wait
  pub wait_earliest_only : earliest_number (site_of site_file) (free (site_of site_file) (closed 200 1 1 1 fresh)) (node 0 0) 4 ≡ 0
  -- and one that must come in the second interval of cell 1
  pub interval_earliest_only : earliest_number (site_of site_file) (free (site_of site_file) (closed 200 1 3 3 fresh)) (node 0 0) 4 ≡ 0
  -- B's board: edition 1, then cell by cell
  pub b_board : board_b ≡ (0 ∷ 0 ∷ 0 ∷ 1 ∷ []) ++ (replicate 39 0 ++ (replicate 9 200 ++ replicate 4 0))
  -- areas that just fit, and one less
  pub area_fits : (lent_route 78 65).number ≡ 0
  pub area_77 : (lent_route 77 65).number ≡ 14
  pub words_64 : (lent_route 78 64).number ≡ 14
  pub words_zero : (lent_route 78 65).lent.words ≡ replicate 65 0
  pub words_later : (lent_route 78 67).lent.words ≡ replicate 65 0 ++ (9 ∷ 9 ∷ [])
  pub numbers_14 : (lent_interval 14).number ≡ 0
  pub numbers_13 : (lent_interval 13).number ≡ 14
  pub j_late : routed fresh (node 0 13) 4 ≡ refused 10
  pub j_last : routed fresh (node 0 12) 4 ≡ refused 18
  pub O : read_site site_file_o ≡ refused 6
  pub day : day_lines site_file script ≡ line 0 1 0 ∷ line 0 1 10 ∷ line 0 2 0 ∷ []
  -- the example's lines, in bytes
  pub day_text_lem : day_text site_file script
      ≡ 0x30 ∷ 0x20 ∷ 0x31 ∷ 0x20 ∷ 0x30 ∷ 0x0A
      ∷ 0x30 ∷ 0x20 ∷ 0x31 ∷ 0x20 ∷ 0x31 ∷ 0x30 ∷ 0x0A
      ∷ 0x30 ∷ 0x20 ∷ 0x32 ∷ 0x20 ∷ 0x30 ∷ 0x0A
      ∷ []
  -- no light was granted yet, so 8; a withdrawal; then a field that is cut
  pub day_cut : day_lines site_file (fields_bytes (posting ∷ closing ∷ withdrawing ∷ []) ++ (33 ∷ 0 ∷ []))
      ≡ line 8 0 0 ∷ line 0 1 0 ∷ line 0 2 0 ∷ line 99 0 0 ∷ []
  -- a tag that is none ends the program
  pub day_tag : day_lines site_file (fields_bytes (record { tag = 31; value = [] } ∷ closing ∷ [])) ≡ line 99 0 0 ∷ []
  pub day_refused : day_lines site_file_o script ≡ line 6 0 0 ∷ []
  -- an empty script prints one line, unless the open is refused; one or two bytes are a cut field, and a field has no line more
  pub day_quiet : day_lines site_file [] ≡ line 0 0 0 ∷ []
  pub day_quiet_refused : day_lines site_file_o [] ≡ line 6 0 0 ∷ []
  pub day_quiet_cut_site : day_lines (take 115 site_file) [] ≡ line 2 0 0 ∷ []
  pub day_cut_1 : day_lines site_file (33 ∷ []) ≡ line 99 0 0 ∷ []
  pub day_cut_2 : day_lines site_file (33 ∷ 0 ∷ []) ≡ line 99 0 0 ∷ []
  pub day_close : day_lines site_file (fields_bytes (closing ∷ [])) ≡ line 0 1 0 ∷ []
  -- I by script: start 1, tick 3
  pub day_start : day_lines site_file (fields_bytes (
      record { tag = 32; value = 200 ∷ 0 ∷ 2 ∷ 0 ∷ 4 ∷ 0 ∷ 4 ∷ [] } ∷ record { tag = 34; value = 7 ∷ 0 ∷ 1 ∷ 0 ∷ 3 ∷ 0 ∷ 4 ∷ 0 ∷ 0 ∷ [] } ∷ []))
      ≡ line 0 1 0 ∷ line 0 1 9 ∷ []
  -- a closure after the grant: the light is of an older edition
  pub day_stale : day_lines site_file (fields_bytes (closing ∷ routing ∷ record { tag = 32; value = 201 ∷ 0 ∷ 0 ∷ 0 ∷ 12 ∷ 0 ∷ 12 ∷ [] } ∷ posting ∷ []))
      ≡ line 0 1 0 ∷ line 0 1 10 ∷ line 0 2 0 ∷ line 16 2 0 ∷ []
  -- boards of 1,001,004, 65,537 and 65,536 bytes in an area of 65,536
  pub day_board_largest : day_lines (bare_site 1000 1000 1) (staying 0) ≡ line 7 0 0 ∷ []
  pub day_board_65537 : day_lines (bare_site 922 71 1) (staying 922) ≡ line 7 0 0 ∷ []
  pub day_board_65536 : day_lines (bare_site 507 129 1) (staying 507) ≡ line 0 0 507 ∷ []
  -- searches of 17,000 and of 16,384 words in one of 16,384
  pub day_words_17000 : day_lines (bare_site 999 1 17) (staying 999) ≡ line 14 0 0 ∷ []
  pub day_words_16384 : day_lines (bare_site 511 1 32) (staying 511) ≡ line 0 0 511 ∷ []
  -- other lengths
  pub day_close_6 : day_lines site_file (sized 32 6) ≡ line 99 0 0 ∷ []
  pub day_close_8 : day_lines site_file (sized 32 8) ≡ line 99 0 0 ∷ []
  pub day_withdraw_0 : day_lines site_file (sized 33 0) ≡ line 99 0 0 ∷ []
  pub day_withdraw_2 : day_lines site_file (sized 33 2) ≡ line 99 0 0 ∷ []
  pub day_post_1 : day_lines site_file (sized 35 1) ≡ line 99 0 0 ∷ []
