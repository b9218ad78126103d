-- An abbreviation for the clauses of the functions that draw.
-- Assumes nothing.
use Rattle.meaning.specs.Site.{Site, site_of}
use Rattle.draw.specs.declared.drawing.Drawing.{Drawing}

-- the site of the file
abbrev pub site_drawn : Drawing → Site
site_drawn d = site_of d.file.bytes.now
