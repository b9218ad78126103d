-- The walk back, one turn at a time: tracing the rest in front of the steps so far gives the whole.
-- Assumes nothing.
use Prim.Native.Nat.{ℕ, suc, ◌-◌, ◌≤◌, ◌<◌}
use native.Mathlib.Omega.{arith}
use mathlib.Core.Path.{◌≡◌, refl, sym, ap, ◌∙◌}
use mathlib.Core.Bool.{true}
use mathlib.Core.List.{List, ◌∷◌}
use lib.ListN.{length}
use Rattle.meaning.specs.Site.{Site, motion_at}
use Rattle.meaning.specs.Board.{Free}
use Rattle.meaning.specs.Plan.{Step, move, Node}
use Rattle.meaning.specs.WellFormed.{WellFormed}
use Rattle.meaning.specs.Reach.{rows_to, reach_word, reached, wait_one, trace}
use Rattle.meaning.proofs.ReachLaws.{Came, at_start, by_wait_lem, by_move, came_here, move_known, trace_start, trace_wait, trace_move, word_row}
use Rattle.meaning.proofs.MotionLaws.{good_at}

-- ---- what a word says, and what is left to trace

module _ (site : Site) (f : Free) (a : Node) where
  -- motion m leads here, from a reached pair
  pub record ByMotion (k w : ℕ) : Type 0 where
    pub number : ℕ
    pub word : w ≡ suc (suc (suc number))
    pub known : number < length site.motions
    pub takes_time : 1 ≤ (motion_at site number).span
    pub in_time : (motion_at site number).span ≤ k
    pub state : (motion_at site number).from < length site.states
    pub before : reached site f a (k - (motion_at site number).span) (motion_at site number).from ≡ true

  -- the pair is reached, and its trace in front of the steps is the whole
  pub record Rest (n : ℕ) (whole : List Step) (k s : ℕ) (ps : List Step) : Type 0 where
    pub fuel : ℕ
    pub enough : k < fuel
    pub early : k ≤ n
    pub here : reached site f a k s ≡ true
    pub traced : trace site (rows_to site f a n) n fuel k s ps ≡ whole

module _ (site : Site) (well : WellFormed site) (f : Free) (a : Node) where
  came_wait : {k s w : ℕ} → Came site f a k s w → w ≡ 2 → (1 ≤ k) × (reached site f a (k - 1) s ≡ true)
  came_wait (at_start same free_there) e = absurd (omega arith)
  came_wait (by_wait_lem {k = k} {s = s} r ok) e =
      let same : suc k - 1 ≡ k = omega arith in
      (omega arith, rw same r)
  came_wait (by_move m j same_to same_tick r ok no_wait lowest) e = absurd (omega arith)

  came_motion : {k s w : ℕ} → Came site f a k s w → 1 ≤ k → (w ≡ 2 → ⊥) → ByMotion site f a k w
  came_motion (at_start same free_there) pos other = absurd (omega arith)
  came_motion (by_wait_lem r ok) pos other = absurd (other refl)
  came_motion (by_move {k = k} m j same_to same_tick r ok no_wait lowest) pos other =
      let known : m < length site.motions = move_known site f m _ ok in
      let good = good_at site well m known in
      let same : suc k - (motion_at site m).span ≡ j = omega arith in
      record {
        number = m;
        word = refl;
        known = known;
        takes_time = good.takes_time;
        in_time = omega arith;
        state = good.from_below;
        before = rw same r;
      }

  said_wait : (k s : ℕ) → reached site f a k s ≡ true → reach_word site f a k s ≡ 2 → (1 ≤ k) × (reached site f a (k - 1) s ≡ true)
  said_wait k s r e = came_wait (came_here site well f a k s r) e

  pub said_motion : (k s w : ℕ) → reached site f a k s ≡ true → w ≡ reach_word site f a k s → 1 ≤ k → (w ≡ 2 → ⊥) → ByMotion site f a k w
  said_motion k s w r e pos other = rw e (came_motion (came_here site well f a k s r) pos (λ two. other (e ∙ two)))

  -- ---- a turn

  module _ (n : ℕ) (whole : List Step) where
    abbrev Left : ℕ → ℕ → List Step → Type 0
    Left k s ps = Rest site f a n whole k s ps

    fueled : {k s : ℕ} {ps : List Step} (r : Left k s ps) → trace site (rows_to site f a n) n (suc (r.fuel - 1)) k s ps ≡ whole
    fueled {k} {s} {ps} r =
        let same : suc (r.fuel - 1) ≡ r.fuel = omega (arith, r.enough) in
        ap (λ (j : ℕ). trace site (rows_to site f a n) n j k s ps) same ∙ r.traced

    pub rest_wait : {k s : ℕ} {ps : List Step} → Left k s ps → reach_word site f a k s ≡ 2 → Left (k - 1) s (wait_one ps)
    rest_wait {k} {s} {ps} r e =
        let (pos, before) = said_wait k s r.here e in
        record {
          fuel = r.fuel - 1;
          enough = omega (arith, r.enough);
          early = omega (arith, r.early);
          here = before;
          traced = sym (trace_wait site (rows_to site f a n) n (r.fuel - 1) k s ps (word_row site well f a n k s r.early ∙ e)) ∙ fueled r;
        }

    pub rest_move : {k s w : ℕ} {ps : List Step} → Left k s ps → w ≡ reach_word site f a k s → (b : ByMotion site f a k w)
        → Left (k - (motion_at site b.number).span) (motion_at site b.number).from (move b.number ∷ ps)
    rest_move {k} {s} {w} {ps} r e b =
        record {
          fuel = r.fuel - 1;
          enough = omega (arith, r.enough, b.takes_time, b.in_time);
          early = omega (arith, r.early);
          here = b.before;
          traced =
              sym (trace_move site (rows_to site f a n) n (r.fuel - 1) k s ps b.number (word_row site well f a n k s r.early ∙ sym e ∙ b.word))
              ∙ fueled r;
        }

    came_start : {k s w : ℕ} → Came site f a k s w → k ≡ 0 → w ≡ 1
    came_start (at_start same free_there) e = refl
    came_start (by_wait_lem r ok) e = absurd (omega arith)
    came_start (by_move m j same_to same_tick r ok no_wait lowest) e = absurd (omega arith)

    pub rest_done : {k s : ℕ} {ps : List Step} → Left k s ps → k ≡ 0 → ps ≡ whole
    rest_done {k} {s} {ps} r e =
        sym (trace_start site (rows_to site f a n) n (r.fuel - 1) k s ps (word_row site well f a n k s r.early ∙ came_start (came_here site well f a k s r.here) e))
        ∙ fueled r
