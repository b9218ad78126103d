-- `site_layout::head_good` meets its contract.
-- Assumes nothing.
use Prim.Native.Nat.{ℕ}
use mathlib.Core.Path.{sym, ap, ◌∙◌}
use Rattle.std.specs.Prelude.{Option, Some}
use Rattle.std.specs.Option.{option_eq}
use lib.Dec.{eqb}
use Rattle.site_layout.proofs.Laws.{tagged_inside, head_tests}
use Rattle.site_layout.proofs.head_good.Goals as goal

pub head_values-requires : goal.head_values-requires
head_values-requires c = tagged_inside 1 c.args.file.now 0 7 (sym (c.eq.ensures ∙ ap (λ (o : Option ℕ). option_eq eqb o (Some 7)) c.tagged.ensures) ∙ c.if-eq.true)

pub returns-then-eq : goal.returns-then-eq
returns-then-eq c =
    let e = c.eq.ensures ∙ ap (λ (o : Option ℕ). option_eq eqb o (Some 7)) c.tagged.ensures in
    c.head_values.ensures ∙ sym (head_tests c.args.file.now ∙ simp (sym e ∙ c.if-eq.true))

pub returns-else-eq : goal.returns-else-eq
returns-else-eq c =
    let e = c.eq.ensures ∙ ap (λ (o : Option ℕ). option_eq eqb o (Some 7)) c.tagged.ensures in
    c.if-eq.false ∙ sym (head_tests c.args.file.now ∙ simp (sym e ∙ c.if-eq.false))
