-- `site_sweeps::sweeps_good` meets its contract.
-- Assumes nothing.
use mathlib.Core.Path.{◌∙◌}
use Rattle.std.proofs.lemmas.Iterator.{YieldsList-from_slice}
use Rattle.std.proofs.lemmas.Iterator.Search.{all_from_yields_List}
use Rattle.meaning.specs.Site.{sweep_good}
use Rattle.site_sweeps.specs.Places.{sweep_at}
use Rattle.site_sweeps.proofs.Laws.{all_in, read_same}
use borrow.Author.Rules.{rules}
use Rattle.site_sweeps.proofs.sweeps_good.Goals as goal

pub returns : goal.returns
returns c =
    let p = sweep_good c.args.cells c.args.span in
    all_from_yields_List (λ b. p (sweep_at b 0)) _ _ _ c.all.ensures.ran (YieldsList-from_slice c.args.sweeps.now cc) (λ x b q k. (search rules, search (rules, read_same p)))
    ∙ all_in p c.args.sweeps.now
