-- `board::holder_stands` meets its contract. The invariant: what was found and the bytes from a place on answer as all do.
-- Assumes nothing.
use Prim.Native.Nat.{ℕ}
use mathlib.Core.Path.{◌≡◌}
use mathlib.Core.Bool.{Bool, ◌&&◌, ◌||◌}
use mathlib.Core.List.{List}
use lib.Dec.{eqb}
use lib.ListN.{drop}
use Rattle.meaning.specs.Basics.{any}
use Rattle.meaning.specs.Board.{is_holder}
use Rattle.board.proofs.holder_stands.Given as goal

-- some byte sorts as a holder and is h
abbrev pub carried : ℕ → List ℕ → Bool
carried h bytes = any (λ (b : ℕ). is_holder b && eqb b h) bytes

abbrev pub invariant-loop-b : goal.invariant-loop-b
invariant-loop-b l = (l.found || carried l.h (drop l.b-index l.b-items)) ≡ carried l.h l.b-items
