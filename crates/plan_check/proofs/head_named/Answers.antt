-- `plan_check::head_named` meets its contract.
-- Assumes nothing.
use mathlib.Core.Path.{sym, ap, ◌∙◌}
use Rattle.site.specs.declared.Sizes.{Sizes}
use Rattle.plan_check.proofs.LightLaws.{head_off, head_on}
use Rattle.plan_check.proofs.head_named.Goals as goal

pub returns-then-trip_named : goal.returns-then-trip_named
returns-then-trip_named c = λ s e.
    let named = sym (c.trip_named.ensures s e) ∙ c.if-trip_named.true in
    c.in_time.ensures ∙ sym (head_on s c.args.head named _ (ap (λ (k : Sizes). k.horizon) e))

pub returns-else-trip_named : goal.returns-else-trip_named
returns-else-trip_named c = λ s e. c.if-trip_named.false ∙ sym (head_off s c.args.head (sym (c.trip_named.ensures s e) ∙ c.if-trip_named.false))
