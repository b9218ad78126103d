-- `board_sorts::is_closure` meets its contract: the comparison is the test of the sort.
-- Assumes nothing.
use mathlib.Core.Path.{ap, ◌∙◌}
use Rattle.meaning.specs.Board.{closure_sort, is_closure}
use Rattle.board_sorts.proofs.SortLaws.{same_closure}
use Rattle.board_sorts.proofs.is_closure.Goals as goal

pub returns : goal.returns
unfolding is_closure
returns c = c.eq.ensures ∙ same_closure _ ∙ ap closure_sort c.sort_of.ensures
