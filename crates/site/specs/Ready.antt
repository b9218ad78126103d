-- What the functions that read an accepted site file ask of it, of its sizes and of the board.
-- Assumes nothing.
use Rattle.std.specs.Prelude.{ℕ, ◌≡◌, List}
use Rattle.meaning.specs.Answers.{accepted}
use Rattle.meaning.specs.Site.{site_of, read_site}
use Rattle.meaning.specs.Board.{board_length}
use Rattle.site.specs.Check.{sizes_of}
use Rattle.site.specs.declared.Sizes.{Sizes}

-- the site file is accepted, l says its counts, and a board of that many bytes is the site's
pub record Ready (file : List ℕ) (room : ℕ) (l : Sizes) : Type 0 where
  pub read : read_site file ≡ accepted (site_of file)
  pub sizes : l ≡ sizes_of (site_of file)
  pub board : room ≡ board_length (site_of file)
