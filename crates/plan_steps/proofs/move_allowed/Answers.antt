-- `plan_steps::move_allowed` meets its contract: each way out is a law of the step.
-- Assumes nothing.
use Prim.Native.Nat.{ℕ, ◌+◌}
use native.Mathlib.Omega.{arith}
use mathlib.Core.Path.{sym, ap, ◌∙◌}
use mathlib.Core.List.{List}
use borrow.Author.Tests.{eqb-true}
use Rattle.meaning.specs.Site.{Sweep}
use Rattle.site.specs.Halls.{site_in, free_in}
use Rattle.meaning.specs.Plan.{sweeps_free}
use Rattle.plan_steps.specs.Nodes.{node_of}
use Rattle.plan_steps.proofs.Laws.{known}
use Rattle.plan_steps.proofs.StepLaws.{move_other, move_late, move_is}
use Rattle.plan_steps.proofs.move_allowed.Goals.{then-m-a, else-m-a}
use Rattle.plan_steps.proofs.move_allowed.Goals as goal

pub after-end-requires : goal.after-end-requires
after-end-requires c = let k = known c.args.hall.now.ready in
    omega (arith, k.short, c.requires.0.tick)

pub returns-then-in_time : goal.returns-then-in_time
returns-then-in_time c = λ k named shown.
    let s = site_in c.args.hall.now in
    let f = free_in c.args.hall.now in
    let last = c.after-end.ensures ∙ ap (λ (d : ℕ). c.args.a.tick.0 + d) shown.span in
    elim c.if-m-a.branch [
      | then-m-a w ↦
          c.sweeps_free.ensures
          ∙ ap (λ (ws : List Sweep). sweeps_free f ws c.args.a.tick.0) shown.sweeps
          ∙ sym (move_is s f (node_of c.args.a) k _ _ named (sym shown.from ∙ w.if-m-a.true) last (known c.args.hall.now.ready).horizon (sym w.in_time.ensures ∙ sym w.value-is ∙ c.if-in_time.true))
      | else-m-a w ↦ absurd (w.if-m-a.false (eqb-true _ _ (sym w.value-is ∙ c.if-in_time.true)))
    ]

pub returns-else-in_time : goal.returns-else-in_time
returns-else-in_time c = λ k named shown.
    let last = c.after-end.ensures ∙ ap (λ (d : ℕ). c.args.a.tick.0 + d) shown.span in
    c.if-in_time.false ∙ sym (elim c.if-m-a.branch [
      | then-m-a w ↦ move_late _ _ (node_of c.args.a) k _ _ last (known c.args.hall.now.ready).horizon (sym w.in_time.ensures ∙ sym w.value-is ∙ c.if-in_time.false)
      | else-m-a w ↦ move_other _ _ (node_of c.args.a) k (λ e. w.if-m-a.false (shown.from ∙ e))
    ])
