-- `site_handover::sweeps_pass` meets its contract.
-- Assumes nothing.
use mathlib.Core.Path.{◌≡◌}
use borrow.Author.Rules.{rules}
use Rattle.meaning.specs.Basics.{all_below}
use Rattle.meaning.specs.Site.{handover, sweeps_good}
use Rattle.site_sweeps.specs.Places.{sweeps_in}
use Rattle.site_handover.proofs.sweeps_pass.Goals as goal

-- the handovers are those of the whole span
pub returns-then-used-2 : goal.returns-then-used-2
unfolding sweeps_good
returns-then-used-2 c =
    let h : c.all_handed_over.result ≡ all_below (handover (sweeps_in c.args.sweeps.now)) c.args.span = c.all_handed_over.ensures in
    search rules
