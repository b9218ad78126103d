-- The sizes of the search's tables, as clauses name them.
-- Assumes nothing.
use Rattle.std.specs.Prelude.{ℕ, ◌+◌, ◌*◌}

-- words and ticks of a block, and the number of blocks
abbrev pub block_words : ℕ
block_words = 4

abbrev pub block_ticks : ℕ
block_ticks = 256

abbrev pub blocks : ℕ
blocks = 4

-- a block and the one before it
abbrev pub window_words : ℕ
window_words = 8

abbrev pub window_ticks : ℕ
window_ticks = 512

-- a row: a block that stays empty, and all blocks
abbrev pub row_words : ℕ
row_words = 20

abbrev pub row_ticks : ℕ
row_ticks = 1280

-- the ticks of all blocks
abbrev pub ticks : ℕ
ticks = 1024

-- A position is a tick counted from one block before tick 0, so that no span leads below 0: tick t is at position block_ticks + t.
-- The window of block b starts at position block_ticks * b, and the block itself here.
abbrev pub block_start : ℕ → ℕ
block_start b = block_ticks * b + block_ticks

-- the longest span, which one byte holds
abbrev pub span_limit : ℕ
span_limit = 255

-- rows of cells, states and motions
abbrev pub cell_rows : ℕ
cell_rows = 1000

abbrev pub state_rows : ℕ
state_rows = 1280

abbrev pub motion_rows : ℕ
motion_rows = 4000

-- states, motions and rows of tables of a small site, of most others, and of a wide one
abbrev pub small_states : ℕ
small_states = 32

abbrev pub small_motions : ℕ
small_motions = 64

abbrev pub small_rows : ℕ
small_rows = 64

abbrev pub middle_states : ℕ
middle_states = 256

abbrev pub middle_motions : ℕ
middle_motions = 1024

abbrev pub middle_rows : ℕ
middle_rows = 1024

abbrev pub wide_states : ℕ
wide_states = 512

abbrev pub wide_motions : ℕ
wide_motions = 2048

abbrev pub wide_rows : ℕ
wide_rows = 4096

-- more words than any tables of runs have, so that no place in them is out of range
abbrev pub table_limit : ℕ
table_limit = 131072
