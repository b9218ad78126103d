-- `site_layout::layout_good` meets its contract.
-- Assumes nothing.
use Prim.Native.Nat.{ℕ, ◌+◌, ◌-◌}
use mathlib.Core.Path.{◌≡◌, sym, ap, ◌∙◌}
use Rattle.meaning.specs.Fields.{listed}
use Rattle.meaning.specs.Site.{is_state, layout_good}
use Rattle.fields.specs.Places.{fields_at}
use Rattle.site_layout.proofs.Laws.{first_inside, layout_next, layout_miss}
use native.Mathlib.Omega.{arith}
use Rattle.site_layout.proofs.layout_good.Goals as goal

pub next_field-at-requires : goal.next_field-at-requires
next_field-at-requires c =
    let f = c.args.file.now in
    let l = c.loop in
    (l.invariant.1, first_inside is_state f l.at (sym c.is_state.ensures ∙ c.if-not-is_state.false))

pub loop-preserved : goal.loop-preserved
loop-preserved c =
    let f = c.args.file.now in
    let l = c.loop in
    let x = c.next_field-at.ensures in
    let e = layout_next c.args.cells f l.at _ (c.args.count - l.counter) (omega arith) (sym c.is_state.ensures ∙ c.if-not-is_state.false) x in
    let left : c.args.count - l.counter - 1 ≡ c.args.count - (l.counter + 1) = omega arith in
    (x.inside, x.whole, ap (λ (n : ℕ). layout_good c.args.cells n (listed (fields_at f c.next_field-at.result))) (sym left) ∙ sym e ∙ l.invariant.2)

pub returns-then-not-is_state : goal.returns-then-not-is_state
returns-then-not-is_state c =
    let l = c.loop in
    sym (layout_miss _ _ (c.args.count - l.counter) (omega arith) (sym c.is_state.ensures ∙ c.if-not-is_state.true)) ∙ l.invariant.2
