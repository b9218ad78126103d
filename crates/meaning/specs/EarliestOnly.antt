-- The wrong desk of case C: a search that keeps one earliest arrival for each state and safe interval of its cell, as if a tug could
-- wait wherever it is. It is no part of any promise: case C says what it would answer.
-- Assumes nothing.
use Rattle.std.specs.Prelude.{ℕ, zero, suc, ◌+◌, ◌-◌, Bool, false, cond, not, ◌||◌, List, [], ◌∷◌, leb, eqb, length, get_or}
use Rattle.meaning.specs.Basics.{every, tabulate}
use Rattle.meaning.specs.Site.{Site, cell_of, standing, motion_at}
use Rattle.meaning.specs.Board.{Free}
use Rattle.meaning.specs.Plan.{move, Node, free_from_to, allowed, start_free}

abbrev some_from : (ℕ → Bool) → ℕ → ℕ → Bool
some_from p i zero = false
some_from p i (suc n) = p i || some_from p (suc i) n

-- rows of kept nodes, newest first, the newest of the tick t - 1
abbrev kept_in : List (List Bool) → ℕ → ℕ → Bool
kept_in rows back s = get_or (get_or rows back []) s false

-- some node of the state is kept at or before the tick, and its cell is free from there to the tick
abbrev kept_before : Site → Free → List (List Bool) → ℕ → ℕ → ℕ → Bool
kept_before site f rows t s u =
    some_from (λ (back : ℕ). every (leb (t - 1 - back) u ∷ kept_in rows back s ∷ free_from_to f (cell_of site s) (t - 1 - back) u ∷ [])) 0 (length rows)

-- a motion may leave the state at the tick: the state is kept there, or it stands and was kept earlier in the same interval
abbrev may_leave : Site → Free → List (List Bool) → ℕ → ℕ → ℕ → Bool
may_leave site f rows t s u = kept_in rows (t - 1 - u) s || every (standing site s ∷ kept_before site f rows t s u ∷ [])

abbrev kept_at : Site → Free → List (List Bool) → ℕ → ℕ → Bool
kept_at site f rows t s =
    every (
    some_from (λ (m : ℕ). every (
    eqb (motion_at site m).to s
    ∷ leb (motion_at site m).span (length rows)
    ∷ may_leave site f rows t (motion_at site m).from (t - (motion_at site m).span)
    ∷ allowed site f (move m) (record { state = (motion_at site m).from; tick = t - (motion_at site m).span })
    ∷ [])) 0 (length site.motions)
    ∷ not (kept_before site f rows t s t)
    ∷ [])

abbrev kept_rows : Site → Free → Node → ℕ → List (List Bool)
kept_rows site f a zero = tabulate (λ (s : ℕ). every (eqb s a.state ∷ start_free site f a ∷ [])) 0 (length site.states) ∷ []
kept_rows site f a (suc k) = let rows : List (List Bool) = kept_rows site f a k in tabulate (kept_at site f rows (a.tick + suc k)) 0 (length site.states) ∷ rows

abbrev any_row : List (List Bool) → ℕ → Bool
any_row [] s = false
any_row (r ∷ rs) s = get_or r s false || any_row rs s

-- the goal is kept at some tick
abbrev pub earliest_only : Site → Free → Node → ℕ → Bool
earliest_only site f a goal = any_row (kept_rows site f a (site.horizon - a.tick)) goal

-- what this search would answer
abbrev pub earliest_number : Site → Free → Node → ℕ → ℕ
earliest_number site f a goal = cond (earliest_only site f a goal) 0 18
