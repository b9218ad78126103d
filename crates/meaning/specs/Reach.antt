-- Which nodes some valid steps reach from a start, by a table of back pointers, and the plan that the table gives.
-- A word of the table is 0 for a node that is not reached, 1 for the start, 2 where a wait of one tick leads there,
-- and else 3 + m for the lowest motion m that leads there. What this computes is said without a table in ValidPlans (`Reached`,
-- `Arrival`, `Traced`), and SearchRight says that the two agree.
-- Assumes nothing.
use Rattle.std.specs.Prelude.{ℕ, zero, suc, ◌+◌, ◌-◌, Bool, true, false, cond, not, List, [], ◌∷◌, eqb, length, get_or}
use Rattle.std.proofs.Math.Option.{Option, none, some}
use Rattle.meaning.specs.Basics.{every, tabulate, least, is_zero}
use Rattle.meaning.specs.Site.{Site, motion_at}
use Rattle.meaning.specs.Board.{Free}
use Rattle.meaning.specs.Plan.{Step, wait, move, Node, allowed, start_free, can_unload}

-- A row has a word for each state. Rows are kept newest first: `back` is how many rows lie between.
abbrev pub reached_in : List (List ℕ) → ℕ → ℕ → Bool
reached_in rows back s = not (is_zero (get_or (get_or rows back []) s 0))

-- a wait of one tick is allowed, and its earlier node is reached; the rows end with the tick t - 1
unfoldable pub by_wait : Site → Free → List (List ℕ) → ℕ → ℕ → Bool
by_wait site f rows t s = every (reached_in rows 0 s ∷ allowed site f (wait 1) (record { state = s; tick = t - 1 }) ∷ [])

-- the motion m leads to s, is allowed, and its earlier node is reached
unfoldable pub by_motion : Site → Free → List (List ℕ) → ℕ → ℕ → ℕ → Bool
by_motion site f rows t s m =
    every (
    eqb (motion_at site m).to s
    ∷ reached_in rows ((motion_at site m).span - 1) (motion_at site m).from
    ∷ allowed site f (move m) (record { state = (motion_at site m).from; tick = t - (motion_at site m).span })
    ∷ [])

-- a wait goes before a motion
abbrev pub word_by : Bool → Option ℕ → ℕ
word_by true o = 2
word_by false none = 0
word_by false (some m) = suc (suc (suc m))

unfoldable pub word : Site → Free → List (List ℕ) → ℕ → ℕ → ℕ
word site f rows t s = word_by (by_wait site f rows t s) (least (by_motion site f rows t s) 0 (length site.motions))

unfoldable pub first_row : Site → Free → Node → List ℕ
first_row site f a = tabulate (λ (s : ℕ). cond (every (eqb s a.state ∷ start_free site f a ∷ [])) 1 0) 0 (length site.states)

unfoldable pub with_row : Site → Free → ℕ → List (List ℕ) → List (List ℕ)
with_row site f t rows = tabulate (word site f rows t) 0 (length site.states) ∷ rows

-- the rows of the ticks from the start's to k later, newest first
unfoldable pub rows_to : Site → Free → Node → ℕ → List (List ℕ)
rows_to site f a zero = first_row site f a ∷ []
rows_to site f a (suc k) = with_row site f (a.tick + suc k) (rows_to site f a k)

-- the word of a state k ticks after the start: the back pointer; 0 where it is not reached
abbrev pub reach_word : Site → Free → Node → ℕ → ℕ → ℕ
reach_word site f a k s = get_or (get_or (rows_to site f a k) 0 []) s 0

-- the state is reached k ticks after the start
abbrev pub reached : Site → Free → Node → ℕ → ℕ → Bool
reached site f a k s = reached_in (rows_to site f a k) 0 s

-- the word of a state k ticks after the start, in the rows up to n ticks after it
abbrev pub word_in : List (List ℕ) → ℕ → ℕ → ℕ → ℕ
word_in rows n k s = get_or (get_or rows (n - k) []) s 0

-- ---- the plan

-- one more tick of waiting before the steps; adjoining waits merge
abbrev pub wait_one : List Step → List Step
wait_one [] = wait 1 ∷ []
wait_one (move m ∷ ps) = wait 1 ∷ move m ∷ ps
wait_one (wait n ∷ ps) = wait (suc n) ∷ ps

-- the steps from the start to the state s, k ticks after the start, and then the steps ps; the first number bounds how many there are
unfoldable pub trace : Site → List (List ℕ) → ℕ → ℕ → ℕ → ℕ → List Step → List Step
trace site rows n zero k s ps = ps
trace site rows n (suc fuel) k s ps =
    elim (word_in rows n k s) [
      | zero ↦ ps
      | suc w ↦ elim w [
        | zero ↦ ps
        | suc v ↦ elim v [
          | zero ↦ trace site rows n fuel (k - 1) s (wait_one ps)
          | suc m ↦ trace site rows n fuel (k - (motion_at site m).span) (motion_at site m).from (move m ∷ ps)
        ]
      ]
    ]

-- a plan and the tick at which it arrives
pub record Route : Type 0 where
  pub steps : List Step
  pub arrival : ℕ

unfoldable pub traced_route : Site → List (List ℕ) → ℕ → Node → ℕ → Option ℕ → Option Route
traced_route site rows n a goal none = none
traced_route site rows n a goal (some k) = some (record { steps = trace site rows n (suc k) k goal []; arrival = a.tick + k })

-- the goal is reached k ticks after the start, and the tug can unload there
abbrev pub ends_after : Site → Free → List (List ℕ) → ℕ → Node → ℕ → ℕ → ℕ → Bool
ends_after site f rows n a goal dwell k =
    every (not (is_zero (word_in rows n k goal)) ∷ can_unload site f (record { state = goal; tick = a.tick + k }) dwell ∷ [])

unfoldable pub route_in : Site → Free → List (List ℕ) → ℕ → Node → ℕ → ℕ → Option Route
route_in site f rows n a goal dwell = traced_route site rows n a goal (least (ends_after site f rows n a goal dwell) 0 (suc n))

-- the traced plan to the goal with the least arrival from which the tug can unload, or nothing
unfoldable pub find_route : Site → Free → Node → ℕ → ℕ → Option Route
find_route site f a goal dwell =
    let rows : List (List ℕ) = rows_to site f a (site.horizon - a.tick) in
    route_in site f rows (site.horizon - a.tick) a goal dwell
