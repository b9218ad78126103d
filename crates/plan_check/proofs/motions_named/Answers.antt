-- `plan_check::motions_named` meets its contract. The invariant: the steps from the place at on answer as all do.
-- Assumes nothing.
use Rattle.plan_check.proofs.LightLaws.{named_wait, named_hit, named_miss, named_end}
use mathlib.Core.Path.{sym, ◌∙◌}
use Rattle.light_steps.proofs.StepLaws.{wait_on, move_on, end_on, never_wrong}
use native.Mathlib.Omega.{arith}
use Rattle.plan_check.proofs.motions_named.Goals as goal

pub loop-next-smaller-in-Wait : goal.loop-next-smaller-in-Wait
loop-next-smaller-in-Wait c = let o = wait_on _ _ _ _ (sym c.in-Wait.is ∙ c.step_at.ensures) in
    omega (arith, o.ahead, o.inside)

pub loop-next-preserved-in-Wait : goal.loop-next-preserved-in-Wait
loop-next-preserved-in-Wait c = let o = wait_on _ _ _ _ (sym c.in-Wait.is ∙ c.step_at.ensures) in
    let v = c.loop-next.invariant in
    (o.laid v.0, λ s e. sym (named_wait s _ _ o) ∙ v.1 s e)

pub returns-then-motions-k : goal.returns-then-motions-k
returns-then-motions-k c = λ s e.
    let o = move_on _ _ _ _ (sym c.in-Move.is ∙ c.step_at.ensures) in
    sym (named_miss s _ _ c.args.motions o e (omega arith)) ∙ c.loop-next.invariant.1 s e

pub loop-next-smaller : goal.loop-next-smaller
loop-next-smaller c = let o = move_on _ _ _ _ (sym c.in-Move.is ∙ c.step_at.ensures) in
    omega (arith, o.ahead, o.inside)

pub loop-next-preserved : goal.loop-next-preserved
loop-next-preserved c = let o = move_on _ _ _ _ (sym c.in-Move.is ∙ c.step_at.ensures) in
    let v = c.loop-next.invariant in
    (o.laid v.0, λ s e. sym (named_hit s _ _ _ o e c.if-motions-k.false) ∙ v.1 s e)

pub returns-in-End : goal.returns-in-End
returns-in-End c = λ s e. sym (named_end s _ _ (end_on _ _ (sym c.in-End.is ∙ c.step_at.ensures))) ∙ c.loop-next.invariant.1 s e

pub returns-in-Wrong : goal.returns-in-Wrong
returns-in-Wrong c = λ s e. absurd (never_wrong _ _ c.loop-next.invariant.0 (sym c.in-Wrong.is ∙ c.step_at.ensures))
