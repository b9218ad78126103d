-- `site_handover::handed_over` meets its contract.
-- Assumes nothing.
use mathlib.Core.Path.{◌∙◌}
use Rattle.std.proofs.lemmas.Iterator.{YieldsList-from_slice}
use Rattle.std.proofs.lemmas.Iterator.Search.{any_from_yields_List}
use Rattle.site_sweeps.specs.Places.{sweep_at, sweeps_in}
use Rattle.site_sweeps.proofs.Laws.{any_in, read_same}
use Rattle.site_handover.specs.Links.{hands_over}
use Rattle.site_handover.proofs.LinkLaws.{hands_over_lem}
use borrow.Author.Rules.{rules}
use Rattle.site_handover.proofs.handed_over.Goals as goal

pub returns : goal.returns
returns c =
    let p = hands_over (sweeps_in c.args.sweeps.now) c.args.j in
    any_from_yields_List (λ b. p (sweep_at b 0)) _ _ _ c.any.ensures.ran (YieldsList-from_slice c.args.sweeps.now cc) (λ x b q k. (search rules, search (rules, read_same p)))
    ∙ any_in p c.args.sweeps.now
    ∙ hands_over_lem _ _
