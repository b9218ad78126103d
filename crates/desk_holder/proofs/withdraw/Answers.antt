-- `desk_holder::withdraw` meets its contract.
-- Assumes nothing.
use native.Mathlib.Omega.{arith}
use borrow.Author.Rules.{rules}
use mathlib.Core.Path.{refl, sym, ◌∙◌}
use Rattle.meaning.specs.Calls.{listed, withdraw, on_board}
use Rattle.checks.proofs.Laws.{passed_on, refused_first, later_lowest}
use Rattle.checks.proofs.Passed.{hall_ready, edition_below}
use Rattle.checks_board.proofs.Laws.{withdraw_edition}
use Rattle.answers.proofs.Laws.{refused_number, refused_board, accepted_number, accepted_board}
use Rattle.desk_holder.proofs.withdraw.Goals as goal

pub returns-in_err-check_board : goal.returns-in_err-check_board
returns-in_err-check_board c = let first = refused_first _ (on_board _) (listed (withdraw c.args.holder)) _ c.in_err-check_board.ensures.number in
    record {
      number = passed_on _ _ c.from_residual.ensures ∙ refused_number _ (on_board _) (listed (withdraw _)) _ first;
      board_after = refused_board _ (on_board _) (listed (withdraw _)) _ first;
      file_unchanged = refl;
    }

pub returns-in_err-check_withdraw : goal.returns-in_err-check_withdraw
returns-in_err-check_withdraw c =
    let first = c.in_err-check_withdraw.ensures _ ∙ sym (later_lowest _ (on_board _) (listed (withdraw c.args.holder)) c.in_ok-check_board.ensures.number) in
    record {
      number = passed_on _ _ c.from_residual-in_err-check_withdraw.ensures ∙ refused_number _ (on_board _) (listed (withdraw _)) _ first;
      board_after = refused_board _ (on_board _) (listed (withdraw _)) _ first;
      file_unchanged = refl;
    }

pub withdraw_work-requires : goal.withdraw_work-requires
withdraw_work-requires c =
    let none = c.in_ok-check_withdraw.ensures _ ∙ sym (later_lowest _ (on_board _) (listed (withdraw c.args.holder)) c.in_ok-check_board.ensures.number) in
    let size = (hall_ready c.in_ok-check_board.field-0 c.in_ok-check_board.ensures.hall).board in
    (omega arith, edition_below c.args.board.now (search rules) (withdraw_edition _ _ _ (sym none)))

pub returns : goal.returns
returns c =
    let none = c.in_ok-check_withdraw.ensures _ ∙ sym (later_lowest _ (on_board _) (listed (withdraw c.args.holder)) c.in_ok-check_board.ensures.number) in
    record {
      number = accepted_number _ (on_board _) (listed (withdraw _)) none;
      board_after = accepted_board _ (on_board _) (withdraw _) none _ (c.withdraw_work.ensures _);
      file_unchanged = refl;
    }
