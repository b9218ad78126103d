-- `site_values::motions_good` meets its contract. The invariant: the motions from the count on, which start at the place, answer as all do.
-- Assumes nothing.
use mathlib.Core.Path.{◌≡◌}
use lib.ListN.{drop}
use Rattle.meaning.specs.Basics.{all}
use Rattle.meaning.specs.Site.{site_of, motion_good}
use Rattle.site_read.proofs.Laws.{Reached}
use Rattle.site_values.proofs.motions_good.Given as goal

abbrev pub invariant-loop : goal.invariant-loop
invariant-loop l = Reached l.file.bytes.now l.at l.counter × (all (motion_good (site_of l.file.bytes.now)) (drop l.counter (site_of l.file.bytes.now).motions) ≡ all (motion_good (site_of l.file.bytes.now)) (site_of l.file.bytes.now).motions)
