-- Laws of the sizes that the checks of a route call are given.
-- Assumes nothing.
use Prim.Native.Nat.{ℕ, ◌≤◌}
use native.Mathlib.Omega.{arith}
use mathlib.Core.Path.{◌≡◌, ap}
use mathlib.Core.List.{List}
use lib.ListN.{length}
use Rattle.meaning.specs.Limits.{horizon_limit, state_limit}
use Rattle.meaning.specs.Site.{Site, site_of}
use Rattle.meaning.proofs.SiteLaws.{read_well}
use Rattle.site.specs.Ready.{Ready}
use Rattle.site.specs.Check.{sizes_of}
use Rattle.site.specs.declared.Sizes.{Sizes}
use Rattle.checks.proofs.Passed.{ready_short}

-- ---- the sizes of a site

states_of : {l : Sizes} (site : Site) → l ≡ sizes_of site → l.states ≡ length site.states
states_of site e = ap (λ (k : Sizes). k.states) e

pub ready_small : {file : List ℕ} {room : ℕ} {l : Sizes} → Ready file room l → (l.states ≤ state_limit) × (l.horizon ≤ horizon_limit)
ready_small {file} r =
    let few = (read_well file (site_of file) r.read).states_range.1 in
    let same = states_of (site_of file) r.sizes in
    (omega arith, ready_short r)
