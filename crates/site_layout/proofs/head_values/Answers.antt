-- `site_layout::head_values` meets its contract.
-- Assumes nothing.
use Prim.Native.Nat.{ℕ}
use mathlib.Core.Path.{◌≡◌, sym, ap, ◌∙◌}
use mathlib.Core.Bool.{true, true≢false}
use lib.Dec.{leb}
use Rattle.meaning.specs.Limits.{horizon_limit, cell_limit, state_limit, margin_limit}
use Rattle.meaning.specs.Basics.{within}
use Rattle.site_layout.specs.Laid.{head_values}
use Rattle.site_layout.proofs.head_values.Goals as goal
use Rattle.site_layout.proofs.head_values.Goals.{then-in_range, else-in_range, then-in_range-2, else-in_range-2}

-- the values that are taken
pub returns-then-in_range-3 : goal.returns-then-in_range-3
unfolding head_values
returns-then-in_range-3 c =
    elim c.if-in_range-2.branch [
      | then-in_range-2 v ↦ elim c.if-in_range.branch [
        | then-in_range w ↦
            let h : within 1 horizon_limit c.number_at.result ≡ true = sym c.in_range.ensures ∙ w.if-in_range.true in
            let k : within 1 cell_limit w.number_at-then-in_range.result ≡ true = sym w.in_range-then-in_range.ensures ∙ sym w.value-is ∙ v.if-in_range-2.true in
            let s : within 1 state_limit v.number_at-then-in_range-2.result ≡ true = sym v.in_range-then-in_range-2.ensures ∙ sym v.value-is ∙ c.if-in_range-3.true in
            rw (← c.number_at.ensures.0, ← w.number_at-then-in_range.ensures.0, ← v.number_at-then-in_range-2.ensures.0, h, k, s) (ap (λ (n : ℕ). leb n margin_limit) c.byte_at.ensures.0)
        | else-in_range w ↦ absurd (true≢false (sym v.if-in_range-2.true ∙ w.value-is ∙ w.if-in_range.false))
      ]
      | else-in_range-2 v ↦ absurd (true≢false (sym c.if-in_range-3.true ∙ v.value-is ∙ v.if-in_range-2.false))
    ]
