-- `plan_mark::mark_steps` meets its contract. The invariant: marking the steps from the place at on leaves the board as marking all does.
-- Assumes nothing.
use mathlib.Core.Path.{refl}
use mathlib.Core.Path.{sym, ap, ◌∙◌}
use mathlib.Core.List.{List}
use Rattle.meaning.specs.Site.{Sweep, site_of}
use Rattle.meaning.specs.Board.{mark}
use Rattle.meaning.specs.Plan.{swept_pairs}
use Rattle.light_steps.proofs.StepLaws.{wait_on, move_on, end_on, never_wrong}
use Rattle.plan_steps.proofs.Laws.{known, read_motion}
use Rattle.plan_steps.proofs.NodeLaws.{next_wait, next_move}
use Rattle.plan_mark.proofs.MarkLaws.{keep, steps_in_time, marks, marks_end}
use native.Mathlib.Omega.{arith}
use Rattle.plan_mark.proofs.mark_steps.Goals as goal

pub mark_wait-requires : goal.mark_wait-requires
mark_wait-requires c = let v = c.loop-n.invariant in
    let o = wait_on _ _ _ _ (sym c.in-Wait.is ∙ c.step_at.ensures) in
    (keep v.room c.requires.ready.0, v.known, (steps_in_time v o).0)

pub after_wait-here-requires : goal.after_wait-here-requires
after_wait-here-requires c = let o = wait_on _ _ _ _ (sym c.in-Wait.is ∙ c.step_at.ensures) in
    omega (arith, (steps_in_time c.loop-n.invariant o).0, (known c.requires.ready.0).short)

pub loop-n-smaller-in-Wait : goal.loop-n-smaller-in-Wait
loop-n-smaller-in-Wait c = let o = wait_on _ _ _ _ (sym c.in-Wait.is ∙ c.step_at.ensures) in
    omega (arith, o.ahead, o.inside)

pub loop-n-preserved-in-Wait : goal.loop-n-preserved-in-Wait
loop-n-preserved-in-Wait c = let o = wait_on _ _ _ _ (sym c.in-Wait.is ∙ c.step_at.ensures) in
    let v = c.loop-n.invariant in
    let (in_time, later) = steps_in_time v o in
    marks v o _ c.mark_wait.ensures (next_wait v.known in_time c.after_wait-here.ensures) later

pub motion_at-m-requires : goal.motion_at-m-requires
motion_at-m-requires c = let o = move_on _ _ _ _ (sym c.in-Move.is ∙ c.step_at.ensures) in
    (steps_in_time c.loop-n.invariant o).0

pub mark_sweeps-requires : goal.mark_sweeps-requires
mark_sweeps-requires c = let v = c.loop-n.invariant in
    let o = move_on _ _ _ _ (sym c.in-Move.is ∙ c.step_at.ensures) in
    let t = steps_in_time v o in
    let shown = c.motion_at-m.ensures in
    let ready = keep v.room c.requires.ready.0 in
    record { ready = (ready, (read_motion ready t.0 shown).sweeps); span_bound = omega (arith, t.1, shown.span) }

pub after_move-here-requires : goal.after_move-here-requires
after_move-here-requires c = let o = move_on _ _ _ _ (sym c.in-Move.is ∙ c.step_at.ensures) in
    omega (arith, (steps_in_time c.loop-n.invariant o).1, c.motion_at-m.ensures.span, (known c.requires.ready.0).short)

pub loop-n-smaller : goal.loop-n-smaller
loop-n-smaller c = let o = move_on _ _ _ _ (sym c.in-Move.is ∙ c.step_at.ensures) in
    omega (arith, o.ahead, o.inside)

pub loop-n-preserved : goal.loop-n-preserved
loop-n-preserved c = let l = c.loop-n in
    let o = move_on _ _ _ _ (sym c.in-Move.is ∙ c.step_at.ensures) in
    let shown = c.motion_at-m.ensures in
    let (named, in_time, later) = steps_in_time l.invariant o in
    let r = read_motion c.requires.ready.0 named shown in
    let e = c.mark_sweeps.ensures ∙ ap (λ (ws : List Sweep). mark (site_of c.args.motions.now.file.bytes.now) c.args.tug (swept_pairs ws l.here.tick.0) l.board) shown.sweeps in
    marks l.invariant o _ e (next_move shown r.to in_time c.after_move-here.ensures) later

pub returns-in-End : goal.returns-in-End
returns-in-End c = marks_end c.loop-n.invariant (end_on _ _ (sym c.in-End.is ∙ c.step_at.ensures))

pub returns-in-Wrong : goal.returns-in-Wrong
returns-in-Wrong c = absurd (never_wrong _ _ c.loop-n.invariant.laid (sym c.in-Wrong.is ∙ c.step_at.ensures))

pub loop-n-init : goal.loop-n-init
loop-n-init c = record { rest = refl; room = refl; laid = c.requires.laid_in_time.0; known = c.requires.ready.1; in_time = c.requires.laid_in_time.1 }
