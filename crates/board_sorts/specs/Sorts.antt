-- Each case of the enum `Sort` as the sort that 'Board' of docs/FORMATS.md names.
-- Assumes nothing.
use Rattle.meaning.specs.Board.{Sort, nobody, tug, closure, unknown}
use Rattle.board_sorts.specs.declared.Sort as Read
use Rattle.board_sorts.specs.declared.Sort.TheVariants.{Free, Tug, Closure, Unknown}

abbrev pub sort_case : Read.Sort → Sort
sort_case Free = nobody
sort_case Tug = tug
sort_case Closure = closure
sort_case Unknown = unknown
