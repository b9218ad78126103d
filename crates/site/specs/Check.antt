-- What the check says of an accepted file's site.
-- Assumes nothing.
use Rattle.std.specs.Prelude.{length}
use Rattle.meaning.specs.Site.{Site}
use Rattle.site_layout.specs.Laid.{state_place}
use Rattle.site.specs.declared.Sizes.{Sizes}

-- what is said of an accepted site: H, C, the margin, the counts, and where the motions start
abbrev pub sizes_of : Site → Sizes
sizes_of site =
    record {
      horizon = site.horizon;
      cells = site.cells;
      margin = site.margin;
      states = length site.states;
      motions = length site.motions;
      start = state_place (length site.states);
      centres = length site.centres;
    }
