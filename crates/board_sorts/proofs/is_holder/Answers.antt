-- `board_sorts::is_holder` meets its contract: each arm answers for the sorts of its cases.
-- Assumes nothing.
use mathlib.Core.Path.{ap, ◌∙◌}
use Rattle.meaning.specs.Board.{holder_sort, is_holder}
use Rattle.board_sorts.proofs.SortLaws.{is_holders, no_holders}
use Rattle.board_sorts.proofs.is_holder.Goals as goal

pub returns-in-Tug : goal.returns-in-Tug
unfolding is_holder
returns-in-Tug c = is_holders _ c.in-Tug.is ∙ ap holder_sort c.sort_of.ensures

pub returns-in_default : goal.returns-in_default
unfolding is_holder
returns-in_default c = no_holders _ c.in_default.not-Tug c.in_default.not-Closure ∙ ap holder_sort c.sort_of.ensures
