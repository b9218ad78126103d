-- Steps that name the site's motions and end by the horizon, whatever is free.
-- Assumes nothing.
use Rattle.std.specs.Prelude.{◌+◌, ◌≤◌, ◌<◌, List, [], ◌∷◌, length}
use Rattle.meaning.specs.Site.{Site, motion_at}
use Rattle.meaning.specs.Plan.{Step, wait, move, Node, after}

abbrev pub InTime : Site → List Step → Node → Type 0
InTime site [] a = Unit {0}
InTime site (wait n ∷ ps) a = (a.tick + n ≤ site.horizon) × InTime site ps (after site (wait n) a)
InTime site (move k ∷ ps) a = (k < length site.motions) × (a.tick + (motion_at site k).span ≤ site.horizon) × InTime site ps (after site (move k) a)
