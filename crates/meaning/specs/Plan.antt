-- Plans: steps from a state and tick, what is allowed, where they lead, and the pairs that they hold.
-- Assumes nothing.
use Rattle.std.specs.Prelude.{ℕ, suc, ◌+◌, ◌-◌, Bool, List, [], ◌∷◌, ◌++◌, leb, ltb, eqb, length}
use Rattle.std.proofs.Math.Option.{Option, some}
use Rattle.meaning.specs.Basics.{every, all, all_from, when}
use Rattle.meaning.specs.Site.{Site, Sweep, cell_of, standing, motion_at}
use Rattle.meaning.specs.Board.{Free, Pair, run_to}

-- a wait of some ticks, or the motion of a number
pub data Step : Type 0 where
  wait : ℕ → Step
  move : ℕ → Step

-- a (state, tick) pair
pub record Node : Type 0 where
  pub state : ℕ
  pub tick : ℕ

abbrev pub node : ℕ → ℕ → Node
node s t = record { state = s; tick = t }

-- ---- what is allowed

-- the cell is free from t to u, both included
abbrev pub free_from_to : Free → ℕ → ℕ → ℕ → Bool
free_from_to f c t u = all_from (f c) t (suc u - t)

-- each swept cell is free from t + first to t + last
abbrev pub sweeps_free : Free → List Sweep → ℕ → Bool
sweeps_free f ws t = all (λ (w : Sweep). free_from_to f w.cell (t + w.first) (t + w.last)) ws

-- A wait of n ≥ 1 needs a standing state and its cell free from t to t + n. A motion needs its from state, and each swept cell
-- free. No tick exceeds the horizon.
unfoldable pub allowed : Site → Free → Step → Node → Bool
allowed site f (wait n) a =
    every (
    leb 1 n
    ∷ standing site a.state
    ∷ free_from_to f (cell_of site a.state) a.tick (a.tick + n)
    ∷ leb (a.tick + n) site.horizon
    ∷ [])
allowed site f (move m) a =
    every (
    ltb m (length site.motions)
    ∷ eqb (motion_at site m).from a.state
    ∷ sweeps_free f (motion_at site m).sweeps a.tick
    ∷ leb (a.tick + (motion_at site m).span) site.horizon
    ∷ [])

-- ---- where steps lead

-- the node after the step
abbrev pub after : Site → Step → Node → Node
after site (wait n) a = record { state = a.state; tick = a.tick + n }
after site (move m) a = record { state = (motion_at site m).to; tick = a.tick + (motion_at site m).span }

-- where steps lead from a node; nothing where one of them is not allowed
unfoldable pub walk : Site → Free → List Step → Node → Option Node
walk site f [] a = some a
walk site f (p ∷ ps) a = when (allowed site f p a) (walk site f ps (after site p a))

-- a plan starts at a state and tick whose cell is free then
unfoldable pub start_free : Site → Free → Node → Bool
start_free site f a =
    every (ltb a.state (length site.states) ∷ leb a.tick site.horizon ∷ f (cell_of site a.state) a.tick ∷ [])

-- where a plan leads; nothing where it is not valid
unfoldable pub plan_end : Site → Free → Node → List Step → Option Node
plan_end site f a ps = when (start_free site f a) (walk site f ps a)

-- unloading: the cell of the node is free for the dwell, which ends by the horizon
unfoldable pub can_unload : Site → Free → Node → ℕ → Bool
can_unload site f b dwell =
    every (free_from_to f (cell_of site b.state) b.tick (b.tick + dwell) ∷ leb (b.tick + dwell) site.horizon ∷ [])

-- ---- the pairs that a plan holds: its start's, those that its steps need free, and those of its unloading at b

abbrev pub swept_pairs : List Sweep → ℕ → List Pair
swept_pairs [] t = []
swept_pairs (w ∷ ws) t = run_to w.cell (t + w.first) (t + w.last) ++ swept_pairs ws t

abbrev pub step_pairs : Site → Step → Node → List Pair
step_pairs site (wait n) a = run_to (cell_of site a.state) a.tick (a.tick + n)
step_pairs site (move m) a = swept_pairs (motion_at site m).sweeps a.tick

abbrev pub walk_pairs : Site → List Step → Node → List Pair
walk_pairs site [] a = []
walk_pairs site (p ∷ ps) a = step_pairs site p a ++ walk_pairs site ps (after site p a)

unfoldable pub plan_pairs : Site → Node → List Step → Node → ℕ → List Pair
plan_pairs site a ps b dwell =
    record { cell = cell_of site a.state; tick = a.tick } ∷ (walk_pairs site ps a ++ run_to (cell_of site b.state) b.tick (b.tick + dwell))
