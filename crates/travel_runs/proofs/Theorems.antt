-- The theorems about travel times, as they are stated in specs/Laws.antt.
-- Assumes nothing.
use mathlib.Core.Path.{refl}
use Rattle.travel_runs.specs.Laws.{TravelRight}
use Rattle.travel_runs.specs.Entries.{farthest, fewest}
use Rattle.travel_runs.proofs.RunLaws.{no_farther, that_far}
use Rattle.travel_runs.proofs.EntryLaws.{right, no_other}
use Rattle.travel_runs.proofs.CallLaws.{demand}

pub travel_right : TravelRight
unfolding farthest fewest
travel_right =
    record {
      no_farther = no_farther;
      that_far = that_far;
      right = right;
      no_other = no_other;
      named = (refl, refl, refl, refl, refl, refl, refl, refl);
      demand = demand;
    }
