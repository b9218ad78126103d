-- Motions by their place in a site file.
-- Assumes nothing.
use Rattle.std.specs.Prelude.{ℕ, ◌+◌, ◌*◌, ◌≤◌, ◌<◌, ◌≡◌, List, true, length, get_or}
use Rattle.meaning.specs.Limits.{sweep_size}
use Rattle.meaning.specs.Basics.{all}
use Rattle.meaning.specs.Fields.{complete, listed}
use Rattle.meaning.specs.Site.{Motion, before_centres, is_motion, motion_of, motion_at, site_of}
use Rattle.fields.specs.Places.{fields_at, field_at}
use Rattle.site_sweeps.specs.Places.{sweeps_at}
use Rattle.site_read.specs.declared.Motion as ReadMotion

-- what r says is the motion m: its numbers, and where its sweeps stand
pub record MotionIs (file : List ℕ) (m : Motion) (r : ReadMotion.Motion) : Type 0 where
  pub from : r.from ≡ m.from
  pub to : r.to ≡ m.to
  pub span : r.span ≡ m.span
  pub sweeps : sweeps_at file r.first r.count ≡ m.sweeps
  pub inside : r.first + sweep_size * r.count ≤ length file

-- from the place start on there are motions, each laid out well, and then the centres
pub record Motions (file : List ℕ) (start : ℕ) : Type 0 where
  pub inside : start ≤ length file
  pub whole : complete (fields_at file start) ≡ true
  pub motions : all is_motion (before_centres (listed (fields_at file start))) ≡ true

-- the field of the motion k starts at the place r
pub record MotionPlace (file : List ℕ) (k r : ℕ) : Type 0 where
  pub inside : r < length file
  pub whole : complete (fields_at file r) ≡ true
  pub laid : is_motion (field_at file r) ≡ true
  pub motion : motion_of (field_at file r) ≡ motion_at (site_of file) k

-- the index has room for every motion, and says the place of each, by number
pub record Index (file places : List ℕ) : Type 0 where
  pub room : length (site_of file).motions ≤ length places
  pub place : (k : ℕ) → k < length (site_of file).motions → MotionPlace file k (get_or places k 0)
