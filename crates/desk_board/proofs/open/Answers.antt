-- `desk_board::open` meets its contract.
-- Assumes nothing.
use mathlib.Core.Path.{refl, ap, ◌∙◌}
use Rattle.meaning.specs.Calls.{opening, on_board, Done, accepted_done}
use Rattle.checks.proofs.Laws.{passed_on}
use Rattle.answers.proofs.Laws.{refused_number, refused_board, accepted_number, accepted_meant}
use Rattle.desk_board.proofs.open.Goals as goal

pub returns-in_err-check_board : goal.returns-in_err-check_board
returns-in_err-check_board c = let first = c.in_err-check_board.ensures.number in record {
  number = passed_on _ _ c.from_residual.ensures ∙ refused_number _ (on_board _) opening _ first;
  board_after = refused_board _ (on_board _) opening _ first;
  file_unchanged = refl;
}

-- the board that is left, every byte of it 0
pub returns : goal.returns
unfolding accepted_done
returns c = let none = c.in_ok-check_board.ensures.number in record {
  number = accepted_number _ (on_board _) opening none;
  board_after = c.set_free.ensures ∙ ap (λ (d : Done). d.lent.board) (accepted_meant _ (on_board _) opening none);
  file_unchanged = refl;
}
