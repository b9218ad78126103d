-- What the work of a post asks.
-- Assumes nothing.
use Rattle.std.specs.Prelude.{ℕ, ◌<◌, ◌≡◌, true, List, length}
use Rattle.meaning.specs.Limits.{last_edition}
use Rattle.meaning.specs.Site.{site_of}
use Rattle.meaning.specs.Board.{edition, free}
use Rattle.meaning.specs.Light.{is_light, light_of}
use Rattle.meaning.specs.Calls.{light_valid}
use Rattle.site.specs.declared.Sizes.{Sizes}
use Rattle.site.specs.Ready.{Ready}

-- the site file and the board are ready, the light is valid on the board, and there is a next edition
pub record Postable (file board : List ℕ) (l : Sizes) (light : List ℕ) : Type 0 where
  pub ready : Ready file (length board) l
  pub lit : is_light light ≡ true
  pub valid : light_valid (site_of file) (free (site_of file) board) (light_of light) ≡ true
  pub below : edition board < last_edition
