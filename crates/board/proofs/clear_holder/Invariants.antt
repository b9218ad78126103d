-- `board::clear_holder` meets its contract. The invariant: what clearing from a place on leaves is what clearing the whole leaves.
-- Assumes nothing.
use mathlib.Core.Path.{◌≡◌}
use Rattle.board.proofs.HolderLaws.{clear_from}
use Rattle.board.proofs.clear_holder.Given as goal

abbrev pub invariant-loop-b : goal.invariant-loop-b
invariant-loop-b l = clear_from l.h l.b-index l.b-items ≡ clear_from l.h 0 l.initial.b-items
