-- Arrays that hold the site of a file.
-- Assumes nothing.
use Rattle.std.specs.Prelude.{ℕ, List}
use Rattle.meaning.specs.Site.{site_of}
use Rattle.site.specs.declared.Sizes.{Sizes}
use Rattle.search_site.specs.Arrays.{States, Motions, CellsBelow, Leads}
use Rattle.search_site.specs.Decoded.{Sweeps, Decoded}

-- the arrays hold the site of the file
pub record InArrays (file : List ℕ) (l : Sizes) (st mv : List ℕ) : Type 0 where
  pub states : States l.states st
  pub motions : Motions l.motions mv
  pub cells : CellsBelow l.cells l.states st
  pub leads : Leads l.states l.motions mv
  pub sweeps : Sweeps l.cells l.motions mv file
  pub decoded : Decoded (site_of file) l.states l.motions st mv file
