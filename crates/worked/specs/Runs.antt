-- Runs of ticks that meet and that do not, and where a sweep of 'Four in line' uses its cell: 'Sweeps of a motion' of docs/FORMATS.md.
-- Assumes nothing.
use Rattle.std.specs.Prelude.{◌≡◌, true, false, [], ◌∷◌}
use Rattle.meaning.specs.Runs.{meets}
use Rattle.meaning.specs.Site.{Sweep, motion_at, site_of, covers}
use Rattle.worked.specs.FourInLine.{site_file}

-- the sweeps of motion 0: cell 0 at the offsets 0 and 1, and cell 1 at 1 and 2
abbrev pub out_of_cell0 : Sweep
out_of_cell0 = record { cell = 0; first = 0; last = 1 }

abbrev pub into_cell1 : Sweep
into_cell1 = record { cell = 1; first = 1; last = 2 }

pub record RunsMeet : Type 0 where
  -- 3 lies in both; the same runs the other way round
  pub one_tick : meets 0 3 3 5 ≡ true
  pub one_tick_back : meets 3 5 0 3 ≡ true
  -- next to each other, and further apart
  pub adjoining : meets 0 2 3 5 ≡ false
  pub adjoining_back : meets 3 5 0 2 ≡ false
  pub apart : meets 0 1 7 9 ≡ false
  pub apart_back : meets 7 9 0 1 ≡ false
  -- one within the other, and a run with itself
  pub within : meets 0 9 4 5 ≡ true
  pub within_back : meets 4 5 0 9 ≡ true
  pub itself : meets 4 4 4 4 ≡ true
  -- a run whose end lies before its start has no tick: not one that its ends enclose, not its ends, not with itself
  pub backwards : meets 5 3 0 9 ≡ false
  pub backwards_back : meets 0 9 5 3 ≡ false
  pub backwards_between : meets 5 3 4 4 ≡ false
  pub backwards_start : meets 5 3 5 5 ≡ false
  pub backwards_end : meets 5 3 3 3 ≡ false
  pub backwards_itself : meets 5 3 5 3 ≡ false
  -- ends that no byte holds
  pub large : meets 0 1000 1000 70000 ≡ true
  pub large_apart : meets 0 1000 1001 70000 ≡ false
  -- a sweep of the site
  pub of_motion_0 : (motion_at (site_of site_file) 0).sweeps ≡ out_of_cell0 ∷ into_cell1 ∷ []
  pub before : covers 1 0 into_cell1 ≡ false
  pub first : covers 1 1 into_cell1 ≡ true
  pub last : covers 1 2 into_cell1 ≡ true
  pub after : covers 1 3 into_cell1 ≡ false
  pub other_cell : covers 0 1 into_cell1 ≡ false
