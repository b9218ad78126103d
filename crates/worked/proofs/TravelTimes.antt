-- The cases of travel times, by computation.
-- Assumes nothing.
use Prim.Native.Nat.{ℕ, suc, ◌+◌}
use mathlib.Core.Path.{◌≡◌, refl}
use mathlib.Core.Bool.{true}
use mathlib.Core.List.{List}
use native.Mathlib.Omega.{arith}
use lib.Dec.{leb}
use borrow.Author.Tests.{leb-true}
use Rattle.meaning.specs.Basics.{all_below}
use Rattle.meaning.proofs.BasicsLaws.{below_at}
use Rattle.meaning.specs.Answers.{lowest}
use Rattle.meaning.specs.Calls.{travel_refusals}
use Rattle.travel_runs.specs.Runs.{Run}
use Rattle.travel_runs.specs.Entries.{farthest, fewest}
use Rattle.travel_runs.specs.Travel.{travel_meant}
use Rattle.worked.specs.TravelTimes.{speeds, up_and_down, halting, TravelTimes}

-- a run, by three tests of its speeds
run_by : (vs : List ℕ) (n : ℕ) → speeds vs 0 ≡ 0 → speeds vs n ≡ 0
    → all_below (λ (t : ℕ). leb (speeds vs (suc t)) (speeds vs t + 1)) n ≡ true
    → all_below (λ (t : ℕ). leb (speeds vs t) (speeds vs (suc t) + 1)) n ≡ true
    → all_below (λ (t : ℕ). leb (speeds vs t) 15) (suc n) ≡ true
    → Run n (speeds vs)
run_by vs n first last up down low =
    record {
      from_rest = first;
      to_rest = last;
      gains = λ t h. leb-true (speeds vs (suc t)) (speeds vs t + 1) (below_at _ n up t h);
      loses = λ t h. leb-true (speeds vs t) (speeds vs (suc t) + 1) (below_at _ n down t h);
      limited = λ t h. leb-true (speeds vs t) 15 (below_at _ (suc n) low t (omega arith));
    }

pub travel_times : TravelTimes
unfolding all_below lowest farthest fewest travel_refusals travel_meant
travel_times =
    record {
      up_and_down_lem = run_by up_and_down 4 refl refl refl refl refl;
      up_and_down_far = refl;
      halting_run = run_by halting 6 refl refl refl refl refl;
      halting_far = refl;
      first_ticks = refl;
      at_the_limit = refl;
      last_ticks = refl;
      first_entries = refl;
      around_the_limit = refl;
      next_tick = refl;
      last_entries = refl;
      call_0 = refl;
      call_4 = refl;
      call_511 = refl;
      call_512 = refl;
      call_65536 = refl;
      call_most = refl;
    }
