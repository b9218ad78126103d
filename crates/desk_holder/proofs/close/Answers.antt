-- `desk_holder::close` meets its contract.
-- Assumes nothing.
use borrow.Author.Rules.{rules}
use mathlib.Core.Path.{refl, sym, ◌∙◌}
use Rattle.meaning.specs.Calls.{listed, close, on_board}
use native.Mathlib.Omega.{arith}
use Rattle.plan_ticks.proofs.ReadyLaws.{ready_cell}
use Rattle.checks.proofs.Laws.{passed_on, refused_first, later_in}
use Rattle.checks.proofs.Passed.{hall_ready, edition_below}
use Rattle.checks_board.proofs.Laws.{ready_horizon, named_cell, named_last, close_named, close_edition}
use Rattle.answers.proofs.Laws.{refused_number, refused_board, accepted_number, accepted_board}
use Rattle.desk_holder.proofs.close.Goals as goal

pub returns-in_err-hall : goal.returns-in_err-hall
returns-in_err-hall c =
    let first = refused_first _ (on_board _) (listed (close c.args.holder c.args.cell c.args.first c.args.last)) _ c.in_err-hall.ensures.number in
    record {
      number = passed_on _ _ c.from_residual.ensures ∙ refused_number _ (on_board _) (listed (close _ _ _ _)) _ first;
      board_after = refused_board _ (on_board _) (listed (close _ _ _ _)) _ first;
      file_unchanged = refl;
    }

pub returns-in_err-check_close : goal.returns-in_err-check_close
returns-in_err-check_close c =
    let first = c.in_err-check_close.ensures ∙ sym (later_in _ (on_board _) (listed (close _ _ _ _)) c.in_ok-hall.hall c.in_ok-hall.ensures.hall c.in_ok-hall.ensures.number) in
    record {
      number = passed_on _ _ c.from_residual-in_err-check_close.ensures ∙ refused_number _ (on_board _) (listed (close _ _ _ _)) _ first;
      board_after = refused_board _ (on_board _) (listed (close _ _ _ _)) _ first;
      file_unchanged = refl;
    }

pub close_work-requires : goal.close_work-requires
close_work-requires c =
    let none = c.in_ok-check_close.ensures ∙ sym (later_in _ (on_board _) (listed (close _ _ _ _)) c.in_ok-hall.hall c.in_ok-hall.ensures.hall c.in_ok-hall.ensures.number) in
    let readied = hall_ready c.in_ok-hall.hall c.in_ok-hall.ensures.hall in
    let run = close_named _ _ _ _ _ _ (sym none) in
    let same = ready_horizon readied in
    let late = named_last _ _ _ _ run in (
      ready_cell readied _ (named_cell _ _ _ _ run),
      omega arith,
      edition_below c.args.board.now (search rules) (close_edition _ _ _ _ _ _ (sym none)),
    )

pub returns : goal.returns
returns c =
    let none = c.in_ok-check_close.ensures ∙ sym (later_in _ (on_board _) (listed (close _ _ _ _)) c.in_ok-hall.hall c.in_ok-hall.ensures.hall c.in_ok-hall.ensures.number) in
    let readied = hall_ready c.in_ok-hall.hall c.in_ok-hall.ensures.hall in
    record {
      number = accepted_number _ (on_board _) (listed (close _ _ _ _)) none;
      board_after = accepted_board _ (on_board _) (close _ _ _ _) none _ (c.close_work.ensures _ (ready_horizon readied));
      file_unchanged = refl;
    }
