-- `site_sweeps::used` meets its contract.
-- Assumes nothing.
use mathlib.Core.Path.{◌∙◌}
use Rattle.std.proofs.lemmas.Iterator.{YieldsList-from_slice}
use Rattle.std.proofs.lemmas.Iterator.Search.{any_from_yields_List}
use Rattle.meaning.specs.Site.{covers, uses}
use Rattle.site_sweeps.specs.Places.{sweep_at}
use Rattle.site_sweeps.proofs.Laws.{any_in, read_same}
use borrow.Author.Rules.{rules}
use Rattle.site_sweeps.proofs.used.Goals as goal

pub returns : goal.returns
unfolding uses
returns c =
    let p = covers c.args.cell c.args.t in
    any_from_yields_List (λ b. p (sweep_at b 0)) _ _ _ c.any.ensures.ran (YieldsList-from_slice c.args.sweeps.now cc) (λ x b q k. (search rules, search (rules, read_same p)))
    ∙ any_in p c.args.sweeps.now
