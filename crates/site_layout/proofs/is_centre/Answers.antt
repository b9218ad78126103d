-- `site_layout::is_centre` meets its contract.
-- Assumes nothing.
use mathlib.Core.Path.{ap, ◌∙◌}
use Rattle.std.specs.Prelude.{Option, Some}
use Rattle.std.specs.Option.{option_eq}
use Prim.Native.Nat.{ℕ}
use lib.Dec.{eqb}
use Rattle.site_layout.proofs.Laws.{centre_tagged}
use Rattle.site_layout.proofs.is_centre.Goals as goal

pub returns : goal.returns
returns c = c.eq.ensures ∙ ap (λ (o : Option ℕ). option_eq eqb o (Some 4)) c.tagged.ensures ∙ centre_tagged _
