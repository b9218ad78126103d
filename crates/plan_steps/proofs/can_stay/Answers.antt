-- `plan_steps::can_stay` meets its contract.
-- Assumes nothing.
use Prim.Native.Nat.{ℕ, ◌+◌}
use mathlib.Core.Path.{sym, ap, ◌∙◌}
use borrow.Author.Tests.{leb-true}
use Rattle.site.specs.Halls.{site_in, free_in}
use Rattle.meaning.specs.Plan.{free_from_to}
use Rattle.board_ticks.specs.Ticks.{from_to}
use Rattle.plan_steps.specs.Nodes.{node_of}
use Rattle.plan_steps.proofs.Laws.{known}
use Rattle.plan_steps.proofs.StepLaws.{stay_late, stay_is}
use native.Mathlib.Omega.{arith}
use Rattle.plan_steps.proofs.can_stay.Goals as goal

pub after-last-requires : goal.after-last-requires
after-last-requires c = let k = known c.args.hall.now.ready in
    omega (arith, k.short, c.requires.0.tick)

pub ticks_of-requires : goal.ticks_of-requires
ticks_of-requires c =
    let inside = (known c.args.hall.now.ready).cell _ c.requires.0.state in
    omega (arith, c.state_cell-cell.ensures.0)

pub run_free-requires : goal.run_free-requires
run_free-requires c =
    let k = known c.args.hall.now.ready in
    let late = leb-true c.after-last.result.0 c.args.hall.now.sizes.horizon (sym c.in_time.ensures ∙ c.if-not-in_time.false) in
    omega (arith, late, k.horizon, c.ticks_of.ensures.horizon, c.number-2.ensures)

pub returns : goal.returns
returns c =
    let k = known c.args.hall.now.ready in
    let f = free_in c.args.hall.now in
    let cell = c.state_cell-cell.ensures.0 in
    let last = c.after-last.ensures in
    c.run_free.ensures.value
    ∙ (λ i. from_to (c.ticks_of.ensures.frees i) (c.number.ensures i) ((c.number-2.ensures ∙ last) i))
    ∙ ap (λ (s : ℕ). free_from_to f s c.args.a.tick.0 (c.args.a.tick.0 + c.args.n.0)) cell
    ∙ sym (stay_is (site_in c.args.hall.now) f (node_of c.args.a) c.args.n.0 _ _ last k.horizon (sym c.in_time.ensures ∙ c.if-not-in_time.false))

pub returns-then-not-in_time : goal.returns-then-not-in_time
returns-then-not-in_time c =
    sym (stay_late (site_in c.args.hall.now) _ (node_of c.args.a) c.args.n.0 _ _ c.after-last.ensures (known c.args.hall.now.ready).horizon (sym c.in_time.ensures ∙ c.if-not-in_time.true))
