-- `site_layout::is_state` meets its contract.
-- Assumes nothing.
use mathlib.Core.Path.{ap, ◌∙◌}
use Rattle.std.specs.Prelude.{Option, Some}
use Rattle.std.specs.Option.{option_eq}
use Prim.Native.Nat.{ℕ}
use lib.Dec.{eqb}
use Rattle.site_layout.proofs.Laws.{state_tagged}
use Rattle.site_layout.proofs.is_state.Goals as goal

pub returns : goal.returns
returns c = c.eq.ensures ∙ ap (λ (o : Option ℕ). option_eq eqb o (Some 3)) c.tagged.ensures ∙ state_tagged _
