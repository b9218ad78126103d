-- `plan_steps::wait_allowed` meets its contract: each way out is a law of the step.
-- Assumes nothing.
use mathlib.Core.Path.{sym, ◌∙◌}
use mathlib.Core.Bool.{true≢false}
use borrow.Author.Tests.{eqb-true, eqb-false, eq-eqb, not-true}
use Rattle.plan_steps.specs.Nodes.{node_of}
use Rattle.plan_steps.proofs.StepLaws.{wait_none, wait_rolling, wait_stays}
use Rattle.plan_steps.proofs.wait_allowed.Goals.{then-n-ne0, else-n-ne0}
use Rattle.plan_steps.proofs.wait_allowed.Goals as goal

pub returns-then-state_speed-eq0 : goal.returns-then-state_speed-eq0
returns-then-state_speed-eq0 c = elim c.if-n-ne0.branch [
  | then-n-ne0 w ↦
      let stands = eqb-true _ 0 (sym w.value-is ∙ c.if-state_speed-eq0.true) in
      c.can_stay.ensures ∙ sym (wait_stays _ _ (node_of c.args.a) c.args.n.0 w.if-n-ne0.true (sym w.state_speed.ensures ∙ stands))
  | else-n-ne0 w ↦ absurd (true≢false (sym (eq-eqb _ 0 w.if-n-ne0.false) ∙ not-true _ (sym w.value-is ∙ c.if-state_speed-eq0.true)))
]

pub returns-else-state_speed-eq0 : goal.returns-else-state_speed-eq0
returns-else-state_speed-eq0 c = c.if-state_speed-eq0.false ∙ sym (elim c.if-n-ne0.branch [
  | then-n-ne0 w ↦ wait_rolling _ _ (node_of c.args.a) c.args.n.0 (λ e. eqb-false _ 0 (sym w.value-is ∙ c.if-state_speed-eq0.false) (w.state_speed.ensures ∙ e))
  | else-n-ne0 w ↦ wait_none _ _ (node_of c.args.a) c.args.n.0 w.if-n-ne0.false
])
