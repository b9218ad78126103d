-- `checks_board::close_work` meets its contract: the run is marked on a board that has an edition.
-- Assumes nothing.
use Rattle.std.proofs.Common.{refl, arith}
use Rattle.meaning.specs.Board.{run_to}
use Rattle.checks.proofs.Laws.{mark_editable}
use Rattle.checks_board.proofs.Laws.{bare}
use Rattle.checks_board.proofs.close_work.Goals as goal

pub next_edition-requires : goal.next_edition-requires
next_edition-requires c =
    let site = bare c.args.horizon in
    mark_editable site c.args.holder (run_to c.args.cell c.args.first c.args.last) c.args.board.now _ (c.mark_run.ensures site refl) (omega arith, c.requires.2)
