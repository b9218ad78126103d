-- The site of a hall, and which ticks of its cells are free.
-- Assumes nothing.
use Rattle.meaning.specs.Site.{Site, site_of}
use Rattle.meaning.specs.Board.{Free, free}
use Rattle.site.specs.declared.hall.Hall.{Hall}

abbrev pub site_in : Hall → Site
site_in h = site_of h.file.bytes.now

abbrev pub free_in : Hall → Free
free_in h = free (site_in h) h.board.now
