-- Safe intervals of a cell: runs of free ticks that can't be lengthened on either side.
-- Assumes nothing.
use Rattle.std.specs.Prelude.{ℕ, zero, suc, Bool, false, cond, not, ◌&&◌, List, [], ◌∷◌, ◌++◌}

-- its first and its last tick
pub record Interval : Type 0 where
  pub first : ℕ
  pub last : ℕ

-- the tick before t is free; there is none before 0
abbrev pub free_before : (ℕ → Bool) → ℕ → Bool
free_before p zero = false
free_before p (suc t) = p t

-- an interval begins at t
unfoldable pub begins : (ℕ → Bool) → ℕ → Bool
begins p t = p t && not (free_before p t)

-- the last tick of the run of free ticks from t on, where n ticks follow t
unfoldable pub run_end : (ℕ → Bool) → ℕ → ℕ → ℕ
run_end p t zero = t
run_end p t (suc n) = let later : ℕ = run_end p (suc t) n in cond (p (suc t)) later t

-- those that begin at one of the n ticks from t on, in rising order; no tick follows them
unfoldable pub intervals_from : (ℕ → Bool) → ℕ → ℕ → List Interval
intervals_from p t zero = []
intervals_from p t (suc n) = cond (begins p t) (record { first = t; last = run_end p t n } ∷ []) [] ++ intervals_from p (suc t) n

-- the safe intervals of the ticks 0 to the horizon
unfoldable pub intervals : (ℕ → Bool) → ℕ → List Interval
intervals p horizon = intervals_from p 0 (suc horizon)

-- the numbers that the interval call writes
abbrev pub numbers_of : List Interval → List ℕ
numbers_of [] = []
numbers_of (i ∷ is) = i.first ∷ i.last ∷ numbers_of is
