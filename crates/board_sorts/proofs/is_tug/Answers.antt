-- `board_sorts::is_tug` meets its contract: the comparison is the test of the sort.
-- Assumes nothing.
use mathlib.Core.Path.{ap, ◌∙◌}
use Rattle.meaning.specs.Board.{tug_sort, is_tug}
use Rattle.board_sorts.proofs.SortLaws.{same_tug}
use Rattle.board_sorts.proofs.is_tug.Goals as goal

pub returns : goal.returns
unfolding is_tug
returns c = c.eq.ensures ∙ same_tug _ ∙ ap tug_sort c.sort_of.ensures
