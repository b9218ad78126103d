-- `board_sorts::is_free_byte` meets its contract: the comparison is the test of the sort, and the free byte is 0.
-- Assumes nothing.
use mathlib.Core.Path.{ap, ◌∙◌}
use Rattle.board_sorts.proofs.SortLaws.{same_free, free_sort, free_sort_lem}
use Rattle.board_sorts.proofs.is_free_byte.Goals as goal

pub returns : goal.returns
returns c = c.eq.ensures ∙ same_free _ ∙ ap free_sort c.sort_of.ensures ∙ free_sort_lem _
