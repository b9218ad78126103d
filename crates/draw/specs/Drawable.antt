-- What the functions that draw ask of a site file and of a light.
-- Assumes nothing.
use Rattle.std.specs.Prelude.{ℕ, ◌≡◌, true, List, length}
use Rattle.meaning.specs.Answers.{accepted}
use Rattle.meaning.specs.Site.{Site, site_of, read_site}
use Rattle.meaning.specs.Light.{is_light, light_of}
use Rattle.meaning.specs.Calls.{light_named}
use Rattle.site.specs.Check.{sizes_of}
use Rattle.site.specs.declared.Sizes.{Sizes}

-- the site file is accepted, l says its counts, and it has a centre for each cell
pub record Drawable (file : List ℕ) (l : Sizes) : Type 0 where
  pub read : read_site file ≡ accepted (site_of file)
  pub sizes : l ≡ sizes_of (site_of file)
  pub centres : length (site_of file).centres ≡ (site_of file).cells

-- the bytes are a light that names the site's states and motions
pub record LightDrawable (site : Site) (light : List ℕ) : Type 0 where
  pub lit : is_light light ≡ true
  pub named : light_named site (light_of light) ≡ true
