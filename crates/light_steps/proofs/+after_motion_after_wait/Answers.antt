use Rattle.std.proofs.Common.{sym, ◌∙◌, true, false, rules}
use Rattle.light_steps.proofs.StepLaws.{is_move_lem, is_wait_lem, move_laid, wait_laid, end_laid, wrong_laid}
use Rattle.light_steps.proofs.+after_motion_after_wait.Goals as goal

pub after_motion-after_motion-requires : goal.after_motion-after_motion-requires
after_motion-after_motion-requires t c =
    let a = c.args in
    let (w, m) = is_move_lem a.s.now a.at _ _ (sym c.in-Move.is ∙ c.step_at.ensures) in
    let up = w.ahead in
    let in_s = w.inside in
    search rules

pub after_motion-after_wait-requires : goal.after_motion-after_wait-requires
after_motion-after_wait-requires t c =
    let a = c.args in
    let (w, m, k) = is_wait_lem a.s.now a.at _ _ (sym c.in-Wait.is ∙ c.step_at.ensures) in
    let up = w.ahead in
    let in_s = w.inside in
    search rules

pub after_motion-returns-in-Move : goal.after_motion-returns-in-Move
after_motion-returns-in-Move t c =
    c.after_motion.ensures ∙ sym (move_laid true c.args.s.now c.args.at _ _ (sym c.in-Move.is ∙ c.step_at.ensures))

pub after_motion-returns-in-Wait : goal.after_motion-returns-in-Wait
after_motion-returns-in-Wait t c =
    c.after_wait.ensures ∙ sym (wait_laid true c.args.s.now c.args.at _ _ (sym c.in-Wait.is ∙ c.step_at.ensures))

pub after_motion-returns-in-End : goal.after_motion-returns-in-End
after_motion-returns-in-End t c =
    sym (end_laid true c.args.s.now c.args.at (sym c.in-End.is ∙ c.step_at.ensures))

pub after_motion-returns-in-Wrong : goal.after_motion-returns-in-Wrong
after_motion-returns-in-Wrong t c =
    sym (wrong_laid true c.args.s.now c.args.at (sym c.in-Wrong.is ∙ c.step_at.ensures))

pub after_wait-after_motion-requires : goal.after_wait-after_motion-requires
after_wait-after_motion-requires t c =
    let a = c.args in
    let (w, m) = is_move_lem a.s.now a.at _ _ (sym c.in-Move.is ∙ c.step_at.ensures) in
    let up = w.ahead in
    let in_s = w.inside in
    search rules

pub after_wait-returns-in-Move : goal.after_wait-returns-in-Move
after_wait-returns-in-Move t c =
    c.after_motion.ensures ∙ sym (move_laid false c.args.s.now c.args.at _ _ (sym c.in-Move.is ∙ c.step_at.ensures))

pub after_wait-returns-in-Wait : goal.after_wait-returns-in-Wait
after_wait-returns-in-Wait t c =
    sym (wait_laid false c.args.s.now c.args.at _ _ (sym c.in-Wait.is ∙ c.step_at.ensures))

pub after_wait-returns-in-End : goal.after_wait-returns-in-End
after_wait-returns-in-End t c =
    sym (end_laid false c.args.s.now c.args.at (sym c.in-End.is ∙ c.step_at.ensures))

pub after_wait-returns-in-Wrong : goal.after_wait-returns-in-Wrong
after_wait-returns-in-Wrong t c =
    sym (wrong_laid false c.args.s.now c.args.at (sym c.in-Wrong.is ∙ c.step_at.ensures))
