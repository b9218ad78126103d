-- `board::clear_holder` meets its contract. The invariant: what clearing from a place on leaves is what clearing the whole leaves.
-- Assumes nothing.
use native.Mathlib.Omega.{arith}
use mathlib.Core.Path.{sym, ◌∙◌}
use Rattle.board.proofs.HolderLaws.{clear_end, cleared}
use Rattle.board.proofs.clear_holder.Goals as goal

pub returns : goal.returns
returns c = let l = c.loop-b in
    cleared c.args.h c.args.board.now l.b-items (sym (clear_end c.args.h l.b-index l.b-items (omega arith)) ∙ l.invariant)
