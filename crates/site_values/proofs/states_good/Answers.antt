-- `site_values::states_good` meets its contract.
-- Assumes nothing.
use Prim.Native.Nat.{ℕ}
use mathlib.Core.Path.{refl, ◌∙◌}
use borrow.Author.Rules.{rules}
use native.Mathlib.Omega.{arith}
use borrow.Author.Tests.{tests}
use Rattle.std.proofs.lemmas.Iterator.{YieldsList-from_range}
use Rattle.std.proofs.lemmas.Iterator.Search.{all_from_yields_List}
use Rattle.meaning.specs.Site.{no_state, site_of, state_at, cell_good}
use Rattle.site_values.proofs.Laws.{range_rest}
use Rattle.site_values.proofs.states_good.Goals as goal

pub returns : goal.returns
returns c =
    let site = site_of c.args.file.now.bytes.now in
    let good = cell_good c.args.cells in
    all_from_yields_List (λ (i : ℕ). good (state_at site i)) _ _ _ c.all.ensures.ran (YieldsList-from_range 0 c.args.count c.args.count refl (omega arith)) (λ x b q k. (search rules, search (rules, tests)))
    ∙ range_rest good no_state site.states 0 c.args.count (omega (arith, c.requires))
