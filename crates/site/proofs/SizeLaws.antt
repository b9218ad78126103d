-- The limits that the sizes of an accepted file keep.
-- Assumes nothing.
use Rattle.std.proofs.Common.{◌≡◌, ℕ, ◌≤◌, List, sym}
use Rattle.meaning.specs.Limits.{cell_limit, horizon_limit}
use Rattle.meaning.specs.Answers.{lowest}
use Rattle.meaning.specs.Site.{site_of, site_refusals}
use Rattle.meaning.proofs.SiteLaws.{site_read, read_well}
use Rattle.site.specs.declared.Sizes.{Sizes}
use Rattle.site.specs.Check.{sizes_of}

-- those that the length of its board asks for
pub sizes_small : (file : List ℕ) (l : Sizes) → 0 ≡ lowest (site_refusals file) → l ≡ sizes_of (site_of file) → (l.cells ≤ cell_limit) × (l.horizon ≤ horizon_limit)
sizes_small file l none said =
    let well = read_well file _ (site_read file (sym none)) in
    rw said (well.cells_range.1, well.horizon_range.1)
