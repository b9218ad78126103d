-- `plan_check::light_named` meets its contract.
-- Assumes nothing.
use mathlib.Core.Path.{sym, ap, ◌∙◌}
use Rattle.light_read.proofs.HeadLaws.{accepted}
use Rattle.site.specs.declared.Sizes.{Sizes}
use Rattle.plan_check.proofs.LightLaws.{light_names}
use Rattle.plan_check.proofs.light_named.Goals as goal

pub motions_named-requires : goal.motions_named-requires
motions_named-requires c = (accepted c.args.light.now c.requires).laid

pub returns-then-head_named : goal.returns-then-head_named
returns-then-head_named c = λ s e.
    let light = c.args.light.now in
    c.motions_named.ensures s (ap (λ (l : Sizes). l.motions) (sym e))
    ∙ sym (light_names s light _ _ c.requires c.read_head-head.ensures (sym (c.head_named.ensures s e) ∙ c.if-head_named.true))

pub returns-else-head_named : goal.returns-else-head_named
returns-else-head_named c = λ s e. c.if-head_named.false ∙ sym (light_names s c.args.light.now _ _ c.requires c.read_head-head.ensures (sym (c.head_named.ensures s e) ∙ c.if-head_named.false))
