-- When a wait or a motion from a reached pair ends in a pair, by the tests in the order that the code has them.
-- Assumes nothing.
use Prim.Native.Nat.{ℕ, ◌+◌, ◌-◌, ◌≤◌, ◌<◌}
use native.Mathlib.Omega.{arith}
use mathlib.Core.Path.{◌≡◌, sym, ap, ap₂, ◌∙◌}
use mathlib.Core.Bool.{Bool, true, false, ◌&&◌, and-false}
use mathlib.Core.List.{List}
use lib.Dec.{eqb}
use lib.ListN.{length}
use borrow.Author.Tests.{le-leb, lt-leb, eq-eqb, ne_eqb}
use Rattle.meaning.specs.Site.{Site, site_of, state_at, cell_of, motion_at}
use Rattle.meaning.specs.Board.{Free}
use Rattle.meaning.specs.Plan.{move, node, free_from_to, allowed}
use Rattle.meaning.proofs.BasicsLaws.{decide}
use Rattle.site_sweeps.specs.Places.{sweeps_at}
use Rattle.site_read.specs.Motions.{MotionIs}
use Rattle.search_sizes.specs.Sizes.{block_ticks}
use Rattle.search_site.specs.Arrays.{from_at, to_at, span_at, place_at, count_at}
use Rattle.search_site.specs.Decoded.{MotionsDecoded}
use Rattle.search_ticks.specs.Rows.{has}
use Rattle.plan_steps.proofs.StepLaws.{wait_rolling, wait_stays, stay_is}
use Rattle.search_back.specs.Words.{wait_hit, move_hit}

-- ---- a wait of one tick

module _ (site : Site) (f : Free) (re : List ℕ) (s t : ℕ) where
  pub wait_moving : ((state_at site s).speed ≡ 0 → ⊥) → false ≡ wait_hit site f re s t
  unfolding wait_hit
  wait_moving ne = sym (rw (wait_rolling site f (node s (t - 1)) 1 ne) (and-false (has re s (block_ticks + (t - 1)))))

  pub wait_unset : (b : Bool) → b ≡ has re s (block_ticks + (t - 1)) → b ≡ false → false ≡ wait_hit site f re s t
  unfolding wait_hit
  wait_unset b is miss = let none : has re s (block_ticks + (t - 1)) ≡ false = sym is ∙ miss in rw none

  pub wait_tested : (b r : Bool) (cell : ℕ) → 1 ≤ t → t ≤ site.horizon → (state_at site s).speed ≡ 0 → cell ≡ cell_of site s
      → b ≡ has re s (block_ticks + (t - 1)) → b ≡ true → r ≡ free_from_to f cell (t - 1) t → r ≡ wait_hit site f re s t
  unfolding wait_hit
  wait_tested b r cell pos in_time stands is_cell is hit is_free =
      let set : has re s (block_ticks + (t - 1)) ≡ true = sym is ∙ hit in
      let end : t ≡ t - 1 + 1 = omega arith in
      rw set
      (is_free
      ∙ ap (λ (c : ℕ). free_from_to f c (t - 1) t) is_cell
      ∙ ap (λ (u : ℕ). free_from_to f (cell_of site s) (t - 1) u) end
      ∙ sym (wait_stays site f (node s (t - 1)) 1 (λ e. omega arith) stands ∙ stay_is site f (node s (t - 1)) 1 t site.horizon end (λ i. site.horizon) (le-leb t site.horizon in_time)))

-- ---- motion m, whose numbers the code has

module _ (site : Site) (f : Free) (re : List ℕ) (s t m : ℕ) where
  pub move_elsewhere : (to : ℕ) → to ≡ (motion_at site m).to → (to ≡ s → ⊥) → false ≡ move_hit site f re s t m
  unfolding move_hit
  move_elsewhere to e ne = rw (ne_eqb (motion_at site m).to s (λ q. ne (e ∙ q)))

  pub move_soon : (span : ℕ) → span ≡ (motion_at site m).span → t < span → false ≡ move_hit site f re s t m
  unfolding move_hit
  move_soon span e lt = decide (eqb (motion_at site m).to s) (λ q. rw (q, lt-leb (motion_at site m).span t (omega arith))) (λ q. rw q)

  module _ (to span from : ℕ) (b : Bool) (is_to : to ≡ (motion_at site m).to) (here : to ≡ s) (is_span : span ≡ (motion_at site m).span) (in_time : span ≤ t)
      (is_from : from ≡ (motion_at site m).from) (is : b ≡ has re from (block_ticks + (t - span))) where
    -- only the last two tests are left
    tests : move_hit site f re s t m ≡ b && allowed site f (move m) (node from (t - span))
    unfolding move_hit
    tests = rw (eq-eqb (motion_at site m).to s (sym is_to ∙ here), le-leb (motion_at site m).span t (omega arith), is, is_from, is_span)

    pub move_unset : b ≡ false → false ≡ move_hit site f re s t m
    move_unset miss = sym (tests ∙ rw miss)

    pub move_tested : (r : Bool) → b ≡ true → r ≡ allowed site f (move m) (node from (t - span)) → r ≡ move_hit site f re s t m
    move_tested r hit e = e ∙ sym (tests ∙ rw hit)

-- ---- the motion that the code makes of the numbers of the arrays

pub motion_is : (file mv : List ℕ) (m from to span first count : ℕ) → MotionsDecoded file mv → m < length (site_of file).motions
    → from ≡ from_at mv m → to ≡ to_at mv m → span ≡ span_at mv m → first ≡ place_at mv m → count ≡ count_at mv m
    → MotionIs file (motion_at (site_of file) m) (record { from = from; to = to; span = span; first = first; count = count })
motion_is file mv m from to span first count held h is_from is_to is_span is_first is_count =
    let x = (held m h).shows in
    record {
      from = is_from ∙ x.from;
      to = is_to ∙ x.to;
      span = is_span ∙ x.span;
      sweeps = ap₂ (sweeps_at file) is_first is_count ∙ x.sweeps;
      inside = omega (arith, x.inside);
    }
