-- The state in which a step begins.
-- Assumes nothing.
use Rattle.std.specs.Prelude.{ℕ, zero, suc, List, [], ◌∷◌}
use Rattle.meaning.specs.Site.{Site, motion_at}
use Rattle.meaning.specs.Plan.{Step, wait, move}

-- step i of the steps from the state s on
abbrev pub stands_in : Site → ℕ → List Step → ℕ → ℕ
stands_in site s ps zero = s
stands_in site s [] (suc i) = s
stands_in site s (wait n ∷ ps) (suc i) = stands_in site s ps i
stands_in site s (move m ∷ ps) (suc i) = stands_in site (motion_at site m).to ps i
