-- The board: who holds which cell at which tick, as bytes ('Board' of docs/FORMATS.md).
-- Assumes nothing.
use Rattle.std.specs.Prelude.{ℕ, zero, suc, ◌+◌, ◌*◌, ◌-◌, Bool, true, false, cond, not, List, [], ◌∷◌, ◌++◌, map, leb, ltb, eqb, get_or, take, drop, set}
use Rattle.meaning.specs.Limits.{last_tug, last_closure, header}
use Rattle.meaning.specs.Basics.{every, any, all, all_from, u32_at, put32}
use Rattle.meaning.specs.Site.{Site}

-- ---- how a byte sorts

pub data Sort : Type 0 where
  nobody : Sort  -- free
  tug : Sort
  closure : Sort
  unknown : Sort  -- held by nobody known

unfoldable pub sort_of : ℕ → Sort
sort_of b = cond (eqb b 0) nobody (cond (leb b last_tug) tug (cond (leb b last_closure) closure unknown))

-- the holders of each call, as cases of the sort: tugs, closures, and both
abbrev pub tug_sort : Sort → Bool
tug_sort nobody = false
tug_sort tug = true
tug_sort closure = false
tug_sort unknown = false

abbrev pub closure_sort : Sort → Bool
closure_sort nobody = false
closure_sort tug = false
closure_sort closure = true
closure_sort unknown = false

abbrev pub holder_sort : Sort → Bool
holder_sort nobody = false
holder_sort tug = true
holder_sort closure = true
holder_sort unknown = false

unfoldable pub is_tug : ℕ → Bool
is_tug h = tug_sort (sort_of h)

unfoldable pub is_closure : ℕ → Bool
is_closure h = closure_sort (sort_of h)

unfoldable pub is_holder : ℕ → Bool
is_holder h = holder_sort (sort_of h)

-- ---- where things are

-- the edition, then a byte for each cell and tick, cell by cell
abbrev pub board_length : Site → ℕ
board_length site = header + site.cells * (site.horizon + 1)

abbrev pub place : Site → ℕ → ℕ → ℕ
place site c t = header + c * (site.horizon + 1) + t

abbrev pub byte_at : Site → List ℕ → ℕ → ℕ → ℕ
byte_at site board c t = get_or board (place site c t) 0

abbrev pub edition : List ℕ → ℕ
edition board = u32_at board 0

-- ---- free and standing

-- Which cells are free at which ticks. Plans see the board through this alone.
abbrev pub Free : Type 0
Free = ℕ → ℕ → Bool

-- no tick from the first to the last, both included and up to the horizon, is bad
unfoldable pub clear_from_to : Site → (ℕ → Bool) → ℕ → ℕ → Bool
clear_from_to site bad first last = all_from (λ (x : ℕ). not (every (leb x site.horizon ∷ bad x ∷ []))) first (suc last - first)

-- none from m ticks earlier to m later is, m the margin
unfoldable pub clear_around : Site → (ℕ → Bool) → ℕ → Bool
clear_around site bad t = clear_from_to site bad (t - site.margin) (t + site.margin)

-- a cell of the site, a tick up to the horizon, and nobody holds it there or within the margin
unfoldable pub free : Site → List ℕ → Free
free site board c t =
    every (ltb c site.cells ∷ leb t site.horizon ∷ clear_around site (λ (x : ℕ). not (eqb (byte_at site board c x) 0)) t ∷ [])

-- what a closure may take: nobody holds it, and no tug holds it within the margin; closures may touch each other
unfoldable pub closable : Site → List ℕ → Free
closable site board c t =
    every (
    ltb c site.cells
    ∷ leb t site.horizon
    ∷ eqb (byte_at site board c t) 0
    ∷ clear_around site (λ (x : ℕ). is_tug (byte_at site board c x)) t
    ∷ [])

-- a holder stands if some byte carries its number; the edition's bytes are no cell's
unfoldable pub stands : List ℕ → ℕ → Bool
stands board h = every (is_holder h ∷ any (λ (b : ℕ). eqb b h) (drop header board) ∷ [])

-- ---- pairs of a cell and a tick

pub record Pair : Type 0 where
  pub cell : ℕ
  pub tick : ℕ

-- a cell at n ticks from t on
abbrev pub run : ℕ → ℕ → ℕ → List Pair
run c t zero = []
run c t (suc n) = record { cell = c; tick = t } ∷ run c (suc t) n

-- a cell at the ticks first to last, both included
abbrev pub run_to : ℕ → ℕ → ℕ → List Pair
run_to c first last = run c first (suc last - first)

abbrev pub all_free : Free → List Pair → Bool
all_free f ps = all (λ (p : Pair). f p.cell p.tick) ps

-- ---- changes

-- the holder's number over each of the pairs
abbrev pub mark : Site → ℕ → List Pair → List ℕ → List ℕ
mark site h [] board = board
mark site h (p ∷ ps) board = mark site h ps (set board (place site p.cell p.tick) h)

-- every byte of the holder 0
unfoldable pub clear : ℕ → List ℕ → List ℕ
clear h board = take header board ++ map (λ (b : ℕ). cond (eqb b h) 0 b) (drop header board)

-- the board with another edition
unfoldable pub with_edition : ℕ → List ℕ → List ℕ
with_edition n board = put32 n ++ drop header board

-- one more than the edition that it had
unfoldable pub next_edition : List ℕ → List ℕ → List ℕ
next_edition old new = with_edition (edition old + 1) new
