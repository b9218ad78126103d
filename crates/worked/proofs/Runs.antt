-- The cases of runs of ticks, by computation.
-- Assumes nothing.
use mathlib.Core.Path.{refl}
use Rattle.meaning.specs.Runs.{meets}
use Rattle.meaning.specs.Fields.{split, fields, listed}
use Rattle.meaning.specs.Site.{sweeps_of, motion_of, before_centres, head_of, later_of, state_count, site_of}
use Rattle.worked.specs.Runs.{RunsMeet}

pub runs_meet : RunsMeet
unfolding meets split fields listed sweeps_of motion_of before_centres head_of later_of state_count site_of
runs_meet = record {
  one_tick = refl;
  one_tick_back = refl;
  adjoining = refl;
  adjoining_back = refl;
  apart = refl;
  apart_back = refl;
  within = refl;
  within_back = refl;
  itself = refl;
  backwards = refl;
  backwards_back = refl;
  backwards_between = refl;
  backwards_start = refl;
  backwards_end = refl;
  backwards_itself = refl;
  large = refl;
  large_apart = refl;
  of_motion_0 = refl;
  before = refl;
  first = refl;
  last = refl;
  after = refl;
  other_cell = refl;
}
