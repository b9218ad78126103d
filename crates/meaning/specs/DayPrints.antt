-- What the day program prints, in the words of docs/FORMATS.md: which bytes follow from a site file and a script. No reader and
-- no printing function stands in it.
-- Assumes nothing.
use Rattle.std.specs.Prelude.{ℕ, suc, ◌+◌, ◌*◌, ◌≤◌, ◌<◌, ◌≡◌, List, [], ◌∷◌, ◌++◌, length, take, replicate}
use Rattle.meaning.specs.Basics.{put16}
use Rattle.meaning.specs.Fields.{Field, field_bytes}
use Rattle.meaning.specs.Site.{site_of}
use Rattle.meaning.specs.Board.{edition}
use Rattle.meaning.specs.Plan.{Node}
use Rattle.meaning.specs.Calls.{Call, route, audit, post, close, withdraw, opening, listed, lends, on_board, Done, meant}

-- ---- a line

-- the decimal digits of a number, with no zero in front
pub data Digits : ℕ → List ℕ → Type 0 where
  one : {n : ℕ} → n < 10 → Digits n ((48 + n) ∷ [])
  more : {n d : ℕ} {front : List ℕ} → 1 ≤ n → d < 10 → Digits n front → Digits (n * 10 + d) (front ++ ((48 + d) ∷ []))

-- number, edition after, arrival, with a blank between them and a line feed behind
pub data LineText (number edition arrival : ℕ) : List ℕ → Type 0 where
  spaced : {a b c : List ℕ} → Digits number a → Digits edition b → Digits arrival c
      → LineText number edition arrival (a ++ (32 ∷ b ++ (32 ∷ c ++ (10 ∷ []))))

-- ---- a field

-- the field of a script that makes this call, given the last granted light; audit has none
abbrev pub ScriptField : List ℕ → Call → Field → Type 0
ScriptField light (close h cell first last) f =
    (cell < 65536) × (first < 65536) × (last < 65536)
    × (f ≡ record { tag = 32; value = h ∷ (put16 cell ++ (put16 first ++ put16 last)) })
ScriptField light (withdraw h) f = f ≡ record { tag = 33; value = h ∷ [] }
ScriptField light (route tug a goal dwell) f =
    (a.state < 65536) × (a.tick < 65536) × (goal < 65536) × (dwell < 65536)
    × (f ≡ record { tag = 34; value = tug ∷ (put16 a.state ++ (put16 a.tick ++ (put16 goal ++ put16 dwell))) })
ScriptField light (post granted) f = (granted ≡ light) × (f ≡ record { tag = 35; value = [] })
ScriptField light (audit x) f = ⊥

-- the bytes begin with this whole field
pub record Begins (s : List ℕ) (f : Field) (rest : List ℕ) : Type 0 where
  pub short : length f.value < 65536
  pub bytes : s ≡ field_bytes f ++ rest

-- ---- a call

-- areas of 65,536 bytes, so 16,384 words
abbrev pub called : List ℕ → List ℕ → Call → Done
called file board c = meant file (lends board (replicate 65536 0) (replicate 16384 0)) (listed c)

abbrev pub IsRoute : Call → Type 0
IsRoute c = (tug : ℕ) × (a : Node) × (goal : ℕ) × (dwell : ℕ) × (c ≡ route tug a goal dwell)

-- ---- the script

-- `Prints file board light script text`: what is printed for the rest of the script, from the board and the last granted light on
pub data Prints (file : List ℕ) : List ℕ → List ℕ → List ℕ → List ℕ → Type 0 where
  ends : {board light : List ℕ} → Prints file board light [] []
  -- a cut field, another tag or length: 99 0 0, and the program ends
  cut : {board light script text : List ℕ} → 1 ≤ length script → ((f : Field) (rest : List ℕ) → Begins script f rest → ⊥)
      → LineText 99 0 0 text → Prints file board light script text
  no_call : {board light script rest text : List ℕ} {f : Field} → Begins script f rest → ((c : Call) → ScriptField light c f → ⊥)
      → LineText 99 0 0 text → Prints file board light script text
  -- a granted route: its arrival, and its light is the last one from here on
  granted : {board light script rest line text : List ℕ} {f : Field} {c : Call} {n arrival : ℕ} → Begins script f rest → ScriptField light c f
      → IsRoute c → (called file board c).number ≡ 0 → (called file board c).values ≡ n ∷ arrival ∷ []
      → LineText 0 (edition (called file board c).lent.board) arrival line
      → Prints file (called file board c).lent.board (take n (called file board c).lent.out) rest text
      → Prints file board light script (line ++ text)
  -- any other call: 0 for the arrival, and the last light stays
  other : {board light script rest line text : List ℕ} {f : Field} {c : Call} → Begins script f rest → ScriptField light c f
      → (IsRoute c → (called file board c).number ≡ 0 → ⊥)
      → LineText (called file board c).number (edition (called file board c).lent.board) 0 line
      → Prints file (called file board c).lent.board light rest text
      → Prints file board light script (line ++ text)

-- opening the board: the part of its area of 65,536 bytes that the site needs
abbrev pub start : List ℕ → Done
start file = meant file (on_board (take (4 + (site_of file).cells * ((site_of file).horizon + 1)) (replicate 65536 0))) opening

-- the whole program
pub data DayPrints (file script : List ℕ) : List ℕ → Type 0 where
  -- a refused open: its number, 0, 0, and the program ends
  refused : {n : ℕ} {text : List ℕ} → (start file).number ≡ suc n → LineText (suc n) 0 0 text → DayPrints file script text
  -- an empty script: the single line 0 0 0 after a successful open
  quiet : {text : List ℕ} → (start file).number ≡ 0 → script ≡ [] → LineText 0 0 0 text → DayPrints file script text
  -- any other script: its fields on the opened board, with no light yet
  opened : {text : List ℕ} → (start file).number ≡ 0 → 1 ≤ length script → Prints file (start file).lent.board [] script text
      → DayPrints file script text
