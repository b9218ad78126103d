-- `desk_light::audit` meets its contract.
-- Assumes nothing.
use Rattle.std.proofs.Common.{refl, sym, ◌∙◌, rules}
use Rattle.meaning.specs.Calls.{listed, audit, on_board}
use Rattle.meaning.proofs.CallLaws.{meant_number}
use Rattle.checks.proofs.Laws.{passed_on, refused_first, later_in}
use Rattle.answers.proofs.Laws.{refused_number}
use Rattle.desk_light.proofs.audit.Goals as goal

pub returns-in_err-hall : goal.returns-in_err-hall
returns-in_err-hall c =
    let first = refused_first _ (on_board _) (listed (audit c.args.light.now)) _ c.in_err-hall.ensures.number in
    record {
      number = passed_on _ _ c.from_residual.ensures ∙ refused_number _ (on_board _) (listed (audit _)) _ first;
      file_unchanged = refl;
      board_unchanged = refl;
      light_unchanged = refl;
    }

pub returns : goal.returns
returns c = record {
  number = (search rules) ∙ sym (later_in _ (on_board _) (listed (audit _)) c.in_ok-hall.hall c.in_ok-hall.ensures.hall c.in_ok-hall.ensures.number) ∙ sym (meant_number _ (on_board _) (listed (audit _)));
  file_unchanged = refl;
  board_unchanged = refl;
  light_unchanged = refl;
}
