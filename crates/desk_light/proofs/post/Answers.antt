-- `desk_light::post` meets its contract.
-- Assumes nothing.
use borrow.Author.Rules.{rules}
use mathlib.Core.Path.{refl, sym, ◌∙◌}
use Rattle.meaning.specs.Calls.{listed, post, on_board}
use Rattle.checks.proofs.Laws.{passed_on, refused_first, later_in}
use Rattle.checks.proofs.Passed.{hall_ready}
use Rattle.checks_light.proofs.Laws.{post_passed}
use Rattle.answers.proofs.Laws.{refused_number, refused_board, accepted_number, accepted_board}
use Rattle.desk_light.proofs.post.Goals as goal

pub returns-in_err-hall : goal.returns-in_err-hall
returns-in_err-hall c =
    let first = refused_first _ (on_board _) (listed (post c.args.light.now)) _ c.in_err-hall.ensures.number in
    record {
      number = passed_on _ _ c.from_residual.ensures ∙ refused_number _ (on_board _) (listed (post _)) _ first;
      board_after = refused_board _ (on_board _) (listed (post _)) _ first;
      file_unchanged = refl;
      light_unchanged = refl;
    }

pub returns-in_err-check_light : goal.returns-in_err-check_light
returns-in_err-check_light c =
    let first = c.in_err-check_light.ensures ∙ sym (later_in _ (on_board _) (listed (post _)) c.in_ok-hall.hall c.in_ok-hall.ensures.hall c.in_ok-hall.ensures.number) in
    record {
      number = passed_on _ _ c.from_residual-in_err-check_light.ensures ∙ refused_number _ (on_board _) (listed (post _)) _ first;
      board_after = refused_board _ (on_board _) (listed (post _)) _ first;
      file_unchanged = refl;
      light_unchanged = refl;
    }

pub post_work-requires : goal.post_work-requires
post_work-requires c =
    let none = c.in_ok-check_light.ensures ∙ sym (later_in _ (on_board _) (listed (post _)) c.in_ok-hall.hall c.in_ok-hall.ensures.hall c.in_ok-hall.ensures.number) in
    let readied = hall_ready c.in_ok-hall.hall c.in_ok-hall.ensures.hall in
    post_passed _ _ _ (sym none) readied (search rules)

pub returns : goal.returns
returns c =
    let none = c.in_ok-check_light.ensures ∙ sym (later_in _ (on_board _) (listed (post _)) c.in_ok-hall.hall c.in_ok-hall.ensures.hall c.in_ok-hall.ensures.number) in
    record {
      number = accepted_number _ (on_board _) (listed (post _)) none;
      board_after = accepted_board _ (on_board _) (post _) none _ c.post_work.ensures;
      file_unchanged = refl;
      light_unchanged = refl;
    }
