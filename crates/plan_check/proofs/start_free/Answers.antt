-- `plan_check::start_free` meets its contract: each way out is a law of the start.
-- Assumes nothing.
use native.Mathlib.Omega.{arith}
use mathlib.Core.Path.{sym, ◌∙◌}
use borrow.Author.Tests.{ltb-true}
use Rattle.plan_steps.specs.Nodes.{node_of}
use Rattle.plan_steps.proofs.Laws.{known}
use Rattle.plan_check.proofs.LightLaws.{start_unknown, start_late, start_is}
use Rattle.plan_check.proofs.start_free.Goals.{then-a-hall, else-a-hall}
use Rattle.plan_check.proofs.start_free.Goals as goal

pub returns-then-in_time : goal.returns-then-in_time
returns-then-in_time c = let k = known c.args.hall.now.ready in
    c.free_at.ensures
    ∙ sym (elim c.if-a-hall.branch [
      | then-a-hall w ↦ start_is _ _ (node_of c.args.a) _ (omega (arith, k.states, w.if-a-hall.true)) k.horizon (sym w.in_time.ensures ∙ sym w.value-is ∙ c.if-in_time.true)
      | else-a-hall w ↦ absurd (omega (arith, w.if-a-hall.false, ltb-true _ _ (sym w.value-is ∙ c.if-in_time.true)))
    ])

pub returns-else-in_time : goal.returns-else-in_time
returns-else-in_time c = let k = known c.args.hall.now.ready in
    c.if-in_time.false ∙ sym (elim c.if-a-hall.branch [
      | then-a-hall w ↦ start_late _ _ (node_of c.args.a) _ k.horizon (sym w.in_time.ensures ∙ sym w.value-is ∙ c.if-in_time.false)
      | else-a-hall w ↦ start_unknown _ _ (node_of c.args.a) (omega (arith, k.states, w.if-a-hall.false))
    ])
