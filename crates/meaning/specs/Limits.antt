-- The numbers of docs/FORMATS.md: limits, tags and sizes, each named once.
-- Assumes nothing.
use Rattle.std.specs.Prelude.{ℕ}

-- ---- limits

-- a site file's bytes
abbrev pub file_limit : ℕ
file_limit = 65536

-- H, C, S, and the number of motions and of a motion's sweeps
abbrev pub horizon_limit : ℕ
horizon_limit = 1000

abbrev pub cell_limit : ℕ
cell_limit = 1000

abbrev pub state_limit : ℕ
state_limit = 1280

abbrev pub motion_limit : ℕ
motion_limit = 4000

abbrev pub sweep_limit : ℕ
sweep_limit = 16

-- m, the ticks that a tug keeps from everybody else
abbrev pub margin_limit : ℕ
margin_limit = 20

-- a light's bytes
abbrev pub light_limit : ℕ
light_limit = 5018

-- a dwell: the ticks that a tug unloads on its goal cell
abbrev pub dwell_limit : ℕ
dwell_limit = 1000

-- a tug's speed, in decimetres a tick, and the last distance that has a travel time, in decimetres
abbrev pub speed_limit : ℕ
speed_limit = 15

abbrev pub last_distance : ℕ
last_distance = 511

-- the frames of a step, from 0 on: a motion is drawn in sixteenths
abbrev pub last_frame : ℕ
last_frame = 16

-- the edition after which no call changes the board
abbrev pub last_edition : ℕ
last_edition = 4294967295

-- the last tug and the last closure; 0 is nobody, and what is above is held by nobody known
abbrev pub last_tug : ℕ
last_tug = 199

abbrev pub last_closure : ℕ
last_closure = 254

-- ---- tags

abbrev pub head_tag : ℕ
head_tag = 1

abbrev pub state_tag : ℕ
state_tag = 2

abbrev pub motion_tag : ℕ
motion_tag = 3

abbrev pub centre_tag : ℕ
centre_tag = 4

abbrev pub light_tag : ℕ
light_tag = 16

abbrev pub wait_tag : ℕ
wait_tag = 17

abbrev pub move_tag : ℕ
move_tag = 18

abbrev pub close_tag : ℕ
close_tag = 32

abbrev pub withdraw_tag : ℕ
withdraw_tag = 33

abbrev pub route_tag : ℕ
route_tag = 34

abbrev pub post_tag : ℕ
post_tag = 35

-- ---- sizes in bytes

-- a field's tag and length
abbrev pub field_header : ℕ
field_header = 3

-- the values of a site's fields; a motion's before its sweeps
abbrev pub head_size : ℕ
head_size = 7

abbrev pub state_size : ℕ
state_size = 3

abbrev pub motion_size : ℕ
motion_size = 5

abbrev pub sweep_size : ℕ
sweep_size = 4

abbrev pub centre_size : ℕ
centre_size = 4

-- the values of a light's fields
abbrev pub light_head_size : ℕ
light_head_size = 15

abbrev pub step_size : ℕ
step_size = 2

-- the board's bytes before the first cell's: the edition
abbrev pub header : ℕ
header = 4

-- the values of a script's fields
abbrev pub close_size : ℕ
close_size = 7

abbrev pub withdraw_size : ℕ
withdraw_size = 1

abbrev pub route_size : ℕ
route_size = 9

-- each area of the day program, and how many 32-bit words one holds
abbrev pub day_area : ℕ
day_area = 65536

abbrev pub day_words : ℕ
day_words = 16384
