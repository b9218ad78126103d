-- The day program: from the bytes of site.bin and of the script to the lines that it prints ('Script' and
-- 'What the day program prints' of docs/FORMATS.md).
-- Assumes nothing.
use Rattle.std.specs.Prelude.{ℕ, zero, suc, ◌+◌, ◌/◌, ◌%◌, Bool, true, false, cond, ◌&&◌, List, [], ◌∷◌, ◌++◌, eqb, leb, ltb, length, get_or, take, replicate}
use Rattle.std.proofs.Math.Option.{Option, none, some}
use Rattle.meaning.specs.Limits.{field_header, close_tag, withdraw_tag, route_tag, post_tag, close_size, withdraw_size, route_size, day_area, day_words}
use Rattle.meaning.specs.Basics.{u16_at}
use Rattle.meaning.specs.Fields.{Field, Fields, end, cut, next, fields}
use Rattle.meaning.specs.Site.{site_of}
use Rattle.meaning.specs.Board.{board_length, edition}
use Rattle.meaning.specs.Calls.{Call, route, post, close, withdraw, opening, listed, lends, on_board, Done, meant}

-- a line's three numbers: number, edition after, arrival
pub record Line : Type 0 where
  pub number : ℕ
  pub edition : ℕ
  pub arrival : ℕ

abbrev pub line : ℕ → ℕ → ℕ → Line
line number edition arrival = record { number = number; edition = edition; arrival = arrival }

-- what follows ends the program
abbrev pub bad_line : Line
bad_line = line 99 0 0

-- a shift without movements
abbrev pub quiet_line : Line
quiet_line = line 0 0 0

-- ---- the calls of a script

abbrev pub is_field : Field → ℕ → ℕ → Bool
is_field f tag size = eqb f.tag tag && eqb (length f.value) size

-- the call of a field, given the last granted light; nothing for another tag or length
unfoldable pub call_of : List ℕ → Field → Option Call
call_of light f =
    let v : List ℕ = f.value in
    cond (is_field f close_tag close_size) (some (close (get_or v 0 0) (u16_at v 1) (u16_at v 3) (u16_at v 5)))
    (cond (is_field f withdraw_tag withdraw_size) (some (withdraw (get_or v 0 0)))
    (cond (is_field f route_tag route_size) (some (route (get_or v 0 0) (record { state = u16_at v 1; tick = u16_at v 3 }) (u16_at v 5) (u16_at v 7)))
    (cond (is_field f post_tag 0) (some (post light)) none)))

-- ---- a call of the day

-- the board, and the last granted light: none yet is an empty one
pub record Day : Type 0 where
  pub board : List ℕ
  pub light : List ℕ

-- the areas are lent whole; what they hold changes no answer
unfoldable pub day_done : List ℕ → Day → Call → Done
day_done file d c =
    meant file (lends d.board (replicate day_area 0) (replicate day_words 0)) (listed c)

-- a granted route has the light's length and the arrival beside its 0
abbrev pub arrival_of : List ℕ → ℕ
arrival_of [] = 0
arrival_of (n ∷ []) = 0
arrival_of (n ∷ arrival ∷ vs) = arrival

abbrev pub last_light : List ℕ → List ℕ → List ℕ → List ℕ
last_light old out [] = old
last_light old out (n ∷ vs) = take n out

abbrev pub line_of : Done → Line
line_of x = record { number = x.number; edition = edition x.lent.board; arrival = arrival_of x.values }

abbrev pub day_after : Day → Done → Day
day_after d x = record { board = x.lent.board; light = last_light d.light x.lent.out x.values }

-- ---- the program

-- a line for a call, and the lines after it; a field that is no call ends the program
abbrev pub line_then : List ℕ → Day → Option Call → (Day → List Line) → List Line
line_then file d none more = bad_line ∷ []
line_then file d (some c) more = let x : Done = day_done file d c in line_of x ∷ more (day_after d x)

unfoldable pub lines_from : List ℕ → Fields → Day → List Line
lines_from file end d = []
lines_from file cut d = bad_line ∷ []
lines_from file (next f fs) d = line_then file d (call_of d.light f) (lines_from file fs)

-- the board's part of its area: a site whose board is larger meets 7
abbrev pub day_board : List ℕ → List ℕ
day_board file = take (board_length (site_of file)) (replicate day_area 0)

-- the board just opened, and no light yet
abbrev pub day_opened : Done → Day
day_opened x = record { board = x.lent.board; light = [] }

-- a refused open prints its number and ends; after an accepted one an empty script prints one line, and any other those of its fields
abbrev pub opened : List ℕ → List ℕ → Done → ℕ → List Line
opened file script x (suc n) = line (suc n) 0 0 ∷ []
opened file [] x zero = quiet_line ∷ []
opened file (b ∷ script) x zero = lines_from file (fields (b ∷ script)) (day_opened x)

unfoldable pub day_lines : List ℕ → List ℕ → List Line
day_lines file script =
    let x : Done = meant file (on_board (day_board file)) opening in
    opened file script x x.number

-- ---- the text that is printed

-- the decimal digits of n, at most k of them, the highest first
abbrev pub decimal_by : ℕ → ℕ → List ℕ
decimal_by zero n = []
decimal_by (suc k) n = cond (ltb n 10) [] (decimal_by k (n / 10)) ++ ((48 + n % 10) ∷ [])

-- all of them: 0 has one, and any other number no more than it counts
unfoldable pub decimal : ℕ → List ℕ
decimal n = decimal_by (suc n) n

-- a blank between the numbers, and the line's end
abbrev pub text_of : Line → List ℕ
text_of x = decimal x.number ++ (32 ∷ decimal x.edition ++ (32 ∷ decimal x.arrival ++ (10 ∷ [])))

abbrev pub texts : List Line → List ℕ
texts [] = []
texts (x ∷ xs) = text_of x ++ texts xs

abbrev pub day_text : List ℕ → List ℕ → List ℕ
day_text file script = texts (day_lines file script)

-- ---- field by field

-- how many bytes are read after a header: its value, unless that is longer than any call's
unfoldable pub wanted : List ℕ → ℕ
wanted s = cond (leb (u16_at s 1) route_size) (u16_at s 1) 0

-- what is read of the script at one turn
abbrev pub piece : List ℕ → List ℕ
piece s = take (field_header + wanted s) s

-- the lines at the script's end: it is empty if the first turn finds its end
abbrev pub end_lines : Bool → List Line
end_lines true = quiet_line ∷ []
end_lines false = []

-- the lines of a turn, the first or a later one
abbrev pub line_next : List ℕ → Bool → Fields → Day → List Line
line_next file first end d = end_lines first
line_next file first cut d = bad_line ∷ []
line_next file first (next f fs) d = line_then file d (call_of d.light f) (λ (d' : Day). [])

-- the day after a turn; nothing where the program ends
abbrev pub day_by : List ℕ → Day → Option Call → Option Day
day_by file d none = none
day_by file d (some c) = some (day_after d (day_done file d c))

abbrev pub day_next : List ℕ → Fields → Day → Option Day
day_next file end d = none
day_next file cut d = none
day_next file (next f fs) d = day_by file d (call_of d.light f)

-- the lines of the rest of the script
abbrev pub lines_on : List ℕ → List ℕ → Option Day → List Line
lines_on file rest none = []
lines_on file rest (some d) = lines_from file (fields rest) d
