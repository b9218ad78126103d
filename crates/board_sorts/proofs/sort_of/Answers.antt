-- `board_sorts::sort_of` meets its contract: each arm's range is that of a sort.
-- Assumes nothing.
use native.Mathlib.Omega.{arith}
use mathlib.Core.Path.{sym, ap}
use Rattle.meaning.specs.Board.{sort_of}
use Rattle.meaning.proofs.HolderLaws.{sort_tug, sort_closure, sort_unknown}
use Rattle.board_sorts.proofs.sort_of.Goals as goal

pub returns-in-0 : goal.returns-in-0
unfolding sort_of
returns-in-0 c = sym (ap sort_of c.in-0.is)

pub returns-in-1-to-199 : goal.returns-in-1-to-199
returns-in-1-to-199 c = sym (sort_tug c.args.b (omega arith) (omega arith))

pub returns-in-200-to-254 : goal.returns-in-200-to-254
returns-in-200-to-254 c = sym (sort_closure c.args.b (omega arith) (omega arith))

pub returns-in_default : goal.returns-in_default
returns-in_default c = sym (sort_unknown c.args.b (omega arith))
