-- A set of pairs that has the start, lies in every set with the start that is closed in all blocks, and is closed in the blocks so far, has in
-- these blocks exactly the reached pairs: steps only go up in time.
-- Assumes nothing.
use Prim.Native.Nat.{ℕ, zero, suc, ◌+◌, ◌-◌, ◌*◌, ◌/◌, ◌≤◌, ◌<◌}
use native.Mathlib.Nat.{not-suc-le-zero}
use native.Mathlib.Omega.{arith}
use mathlib.Core.Path.{◌≡◌, sym, ap, ◌∙◌, subst}
use mathlib.Core.Bool.{Bool, true, ◌&&◌}
use mathlib.Core.List.{List}
use lib.Dec.{leb}
use lib.ListN.{length}
use borrow.Author.Tests.{leb-true, le-leb, lt-ltb}
use Rattle.meaning.specs.Basics.{Each}
use Rattle.meaning.specs.Site.{Site, Motion, motion_at, cell_of}
use Rattle.meaning.specs.Board.{Free}
use Rattle.meaning.specs.Plan.{wait, move, Node, sweeps_free, allowed, start_free, node as at}
use Rattle.meaning.specs.Reach.{reached}
use Rattle.meaning.specs.WellFormed.{WellFormed}
use Rattle.meaning.proofs.BasicsLaws.{and_left, and_right, every_nil, every_cons, each_map, same_test}
use Rattle.meaning.proofs.ReachLaws.{span_pos, move_known, Came, at_start, by_wait_lem, by_move, came_here, reached_start, reached_state, reached_wait, reached_move}
use Rattle.meaning.proofs.MotionLaws.{good_at}
use Rattle.search_sizes.specs.Sizes.{block_ticks, blocks, block_start}
use Rattle.search_ticks.specs.Rows.{has}
use Rattle.search_arrivals.specs.Arrivals.{arrives}
use Rattle.search_site.specs.Arrays.{cell_at, speed_at, from_at, to_at, span_at}
use Rattle.search_site.specs.Decoded.{Decoded}
use Rattle.search_step.specs.Sets.{Pairs, ends_at, WaitClosed, MoveClosed, Below, Closed, Inside}
use Rattle.search_ends.specs.Ends.{reached_at}
use Rattle.search_reach.specs.Explored.{free_from}
use Rattle.search_reach.proofs.ArriveLaws.{wait_made, wait_stands, wait_both, move_made, move_free, used_free, Orderly, arrives_there, arrives_sound, arrives_complete}

-- ---- what the sweeps of a motion say

module _ (site : Site) (well : WellFormed site) (n k : ℕ) (st mv sw : List ℕ) (dec : Decoded site n k st mv sw) where
  orderly : (m : ℕ) → m < length site.motions → Each (Orderly (motion_at site m).span) (motion_at site m).sweeps
  orderly m mine = each_map _ _ (λ w fit. (fit.1, fit.2)) (motion_at site m).sweeps (good_at site well m mine).sweeps_fit

  -- a motion ends only where the cell of its end is free
  pub ends_free : (g : ℕ → ℕ → Bool) → ((m : ℕ) → m < k → to_at mv m < n) → (m u : ℕ) → m < k → ends_at mv sw g m u ≡ true → g (cell_at st (to_at mv m)) u ≡ true
  ends_free g tos m u below h =
      let x : Motion = motion_at site m in
      let mine : m < length site.motions = omega (arith, dec.motions) in
      let cell : cell_at st (to_at mv m) ≡ cell_of site x.to = dec.cell (to_at mv m) (tos m below) ∙ ap (cell_of site) (dec.to m below) in
      let ends : arrives g x.sweeps x.span u ≡ true = rw (dec.sweeps m below, dec.span m below) at h in
      rw cell (arrives_there g (cell_of site x.to) x.span u (good_at site well m mine).to_cell (orderly m mine) ends)

  -- ---- the reached pairs, by position

  module _ (f : Free) (in_time : (c t : ℕ) → f c t ≡ true → t ≤ site.horizon) (start tick first : ℕ)
      (known : start < n) (early : tick ≤ site.horizon) (base : block_ticks * first ≤ tick) (start_is_free : f (cell_of site start) tick ≡ true) where
    abbrev a : Node
    a = at start tick

    abbrev g : ℕ → ℕ → Bool
    g = free_from f first

    abbrev R : Pairs
    R s u = leb block_ticks u && reached_at site f a s (u - block_ticks)

    abbrev Reaches : ℕ → ℕ → Type 0
    Reaches s t = (tick ≤ t) × (reached site f a (t - tick) s ≡ true)

    pair_in : (s t : ℕ) → Reaches s t → R s (block_ticks + t) ≡ true
    pair_in s t (late, r) =
        let back : block_ticks + t - block_ticks ≡ t = omega arith in
        rw (le-leb block_ticks (block_ticks + t) (omega arith), back, le-leb tick t late) r

    reaches : (s t : ℕ) → reached_at site f a s t ≡ true → Reaches s t
    reaches s t r = (leb-true _ _ (and_left (leb tick t) _ r), and_right (leb tick t) _ r)

    pair_out : (s t : ℕ) → R s (block_ticks + t) ≡ true → Reaches s t
    pair_out s t r =
        let back : block_ticks + t - block_ticks ≡ t = omega arith in
        reaches s t (subst (λ (x : ℕ). reached_at site f a s x ≡ true) back (and_right (leb block_ticks (block_ticks + t)) _ r))

    free_at : (c t : ℕ) → g c (block_ticks + t) ≡ true → f c t ≡ true
    free_at c t h =
        let back : block_ticks + t - block_ticks ≡ t = omega arith in
        subst (λ (x : ℕ). f c x ≡ true) back (and_right (leb (block_start first) (block_ticks + t)) _ h)

    free_in : (c t : ℕ) → tick ≤ t → f c t ≡ true → g c (block_ticks + t) ≡ true
    free_in c t late h =
        let back : block_ticks + t - block_ticks ≡ t = omega arith in
        rw (le-leb (block_start first) (block_ticks + t) (omega (arith, base)), back) h

    -- a pair's position as a tick
    at_tick : (X : ℕ → Type 0) (s u : ℕ) → R s u ≡ true → ((t : ℕ) → R s (block_ticks + t) ≡ true → X (block_ticks + t)) → X u
    at_tick X s u r h =
        let late : block_ticks ≤ u = leb-true _ _ (and_left (leb block_ticks u) _ r) in
        let is : block_ticks + (u - block_ticks) ≡ u = omega arith in
        subst X is (h (u - block_ticks) (subst (λ (x : ℕ). R s x ≡ true) (sym is) r))

    -- ---- they are closed in every block

    wait_in : (s t : ℕ) → s < n → speed_at st s ≡ 0 → R s (block_ticks + t) ≡ true → g (cell_at st s) (block_ticks + t) ≡ true → g (cell_at st s) (suc (block_ticks + t)) ≡ true
        → R s (suc (block_ticks + t)) ≡ true
    wait_in s t below stands r now next =
        let (late, was) = pair_out s t r in
        let here_tick : tick + (t - tick) ≡ t = omega arith in
        let since : suc t - tick ≡ suc (t - tick) = omega arith in
        let up : block_ticks + suc t ≡ suc (block_ticks + t) = omega arith in
        let cell : cell_at st s ≡ cell_of site s = dec.cell s below in
        let free_now : f (cell_of site s) t ≡ true = subst (λ (c : ℕ). f c t ≡ true) cell (free_at (cell_at st s) t now) in
        let free_next : f (cell_of site s) (suc t) ≡ true =
        subst (λ (c : ℕ). f c (suc t) ≡ true) cell (free_at (cell_at st s) (suc t) (subst (λ (x : ℕ). g (cell_at st s) x ≡ true) (sym up) next)) in
        let ok : allowed site f (wait 1) (at s t) ≡ true =
        wait_made site f s t (sym (dec.speed s below) ∙ stands) free_now free_next (in_time (cell_of site s) (suc t) free_next) in
        subst (λ (x : ℕ). R s x ≡ true) up
        (pair_in s (suc t) (omega arith, rw since (reached_wait site well f a (t - tick) s was (rw here_tick ok))))

    waits_closed : (b : ℕ) → Below (WaitClosed st g b) n R
    waits_closed b s below stands u lo hi r now next =
        at_tick (λ (x : ℕ). g (cell_at st s) x ≡ true → g (cell_at st s) (suc x) ≡ true → R s (suc x) ≡ true) s u r
        (λ t q now₁ next₁. wait_in s t below stands q now₁ next₁) now next

    move_in : (m t : ℕ) → m < k → R (from_at mv m) (block_ticks + t) ≡ true → ends_at mv sw g m (block_ticks + t + span_at mv m) ≡ true
        → R (to_at mv m) (block_ticks + t + span_at mv m) ≡ true
    move_in m t below r may =
        let x : Motion = motion_at site m in
        let mine : m < length site.motions = omega (arith, dec.motions) in
        let (late, was) = pair_out x.from t (rw (dec.from m below) at r) in
        let here_tick : tick + (t - tick) ≡ t = omega arith in
        let since : t + x.span - tick ≡ t - tick + x.span = omega arith in
        let up : block_ticks + (t + x.span) ≡ block_ticks + t + x.span = omega arith in
        let ends : arrives g x.sweeps x.span (block_ticks + t + x.span) ≡ true = rw (dec.sweeps m below, dec.span m below) at may in
        let swept : sweeps_free f x.sweeps t ≡ true = arrives_sound f first x.span t x.sweeps (orderly m mine) ends in
        let end : t + x.span ≤ site.horizon = in_time (cell_of site x.to) (t + x.span) (used_free site f _ x.span t (good_at site well m mine).to_cell swept) in
        let ok : allowed site f (move m) (at x.from t) ≡ true = move_made site f m t mine swept end in
        let there_too : R x.to (block_ticks + t + x.span) ≡ true =
        subst (λ (y : ℕ). R x.to y ≡ true) up
        (pair_in x.to (t + x.span) (omega arith, rw since (reached_move site well f a m (t - tick) x.from was (rw here_tick ok)))) in
        rw (dec.to m below, dec.span m below) there_too

    moves_closed : (b : ℕ) → Below (MoveClosed mv sw g b) k R
    moves_closed b m below u lo hi r may =
        at_tick (λ (x : ℕ). ends_at mv sw g m (x + span_at mv m) ≡ true → R (to_at mv m) (x + span_at mv m) ≡ true) (from_at mv m) u r
        (λ t q may₁. move_in m t below q may₁) may

    -- ---- and every set with the start that is closed in the blocks up to b has them

    module _ (Q : Pairs) (b : ℕ) (closed : (d : ℕ) → first ≤ d → d < b → Closed n k st mv sw g d Q) (has_start : Q start (block_ticks + tick) ≡ true) where
      by_came : (fuel : ℕ) → ((j s : ℕ) → j < fuel → tick + j < block_ticks * b → reached site f a j s ≡ true → Q s (block_ticks + (tick + j)) ≡ true)
          → {j s w : ℕ} → Came site f a j s w → j < suc fuel → tick + j < block_ticks * b → s < length site.states → Q s (block_ticks + (tick + j)) ≡ true
      by_came fuel ih (at_start {s = s} same start_free_lem) h low mine =
          let here_tick : tick + 0 ≡ tick = omega arith in
          rw (same, here_tick) has_start
      by_came fuel ih (by_wait_lem {k = j} {s = s} r ok) h low mine =
          let below : s < n = omega (arith, dec.states) in
          let frees_both = wait_both site f s (tick + j) ok in
          let cell : cell_at st s ≡ cell_of site s = dec.cell s below in
          let up : suc (block_ticks + (tick + j)) ≡ block_ticks + (tick + suc j) = omega arith in
          let next : block_ticks + suc (tick + j) ≡ suc (block_ticks + (tick + j)) = omega arith in
          let d : ℕ = (tick + suc j) / block_ticks in
          subst (λ (x : ℕ). Q s x ≡ true) up
          ((closed ((tick + suc j) / block_ticks) (omega (arith, base)) (omega arith)).0 s below (dec.speed s below ∙ wait_stands site f s (tick + j) ok)
          (block_ticks + (tick + j)) (omega arith) (omega arith)
          (ih j s (omega arith) (omega arith) r)
          (rw cell (free_in (cell_of site s) (tick + j) (omega arith) frees_both.0))
          (rw cell (subst (λ (x : ℕ). g (cell_of site s) x ≡ true) next (free_in (cell_of site s) (suc (tick + j)) (omega arith) frees_both.1))))
      by_came fuel ih (by_move {k = i} {s = s} m j same_to same_tick r ok no_wait lowest) h low mine =
          let x : Motion = motion_at site m in
          let known_m : m < length site.motions = move_known site f m (at x.from (tick + j)) ok in
          let below : m < k = omega (arith, dec.motions) in
          let pos : 1 ≤ x.span = span_pos site well m known_m in
          let end_tick : block_ticks + (tick + j) + x.span ≡ block_ticks + (tick + suc i) = omega arith in
          let from_in : Q (from_at mv m) (block_ticks + (tick + j)) ≡ true = rw (dec.from m below) (ih j x.from (omega arith) (omega arith) r) in
          let ends : arrives g x.sweeps x.span (block_ticks + (tick + j) + x.span) ≡ true =
          arrives_complete f first x.span (tick + j) (omega (arith, base)) x.sweeps (orderly m known_m) (move_free site f m (tick + j) ok) in
          let may : ends_at mv sw g m (block_ticks + (tick + j) + span_at mv m) ≡ true = rw (dec.sweeps m below, dec.span m below) ends in
          let there_too = (closed ((tick + suc i) / block_ticks) (omega (arith, base)) (omega arith)).1 m below (block_ticks + (tick + j))
          (omega (arith, dec.span m below)) (omega (arith, dec.span m below)) from_in may in
          rw (← same_to) (subst (λ (y : ℕ). Q x.to y ≡ true) end_tick (rw (dec.to m below, dec.span m below) at there_too))

      all_in : (fuel j s : ℕ) → j < fuel → tick + j < block_ticks * b → reached site f a j s ≡ true → Q s (block_ticks + (tick + j)) ≡ true
      all_in zero j s h low r = absurd (not-suc-le-zero h)
      all_in (suc fuel) j s h low r = by_came fuel (all_in fuel) (came_here site well f a j s r) h low (reached_state site f a j s r)

    starts : start_free site f a ≡ true
    unfolding start_free
    starts =
        every_cons _ _ (lt-ltb start (length site.states) (omega (arith, dec.states)))
        (every_cons _ _ (le-leb tick site.horizon early) (every_cons _ _ start_is_free every_nil))

    -- the result, for the blocks below b
    pub reached_right : (re : List ℕ) (b : ℕ) → b ≤ blocks → has re start (block_ticks + tick) ≡ true
        → ((d : ℕ) → first ≤ d → d < b → Closed n k st mv sw g d (has re))
        → ((Q : Pairs) → ((d : ℕ) → first ≤ d → d < blocks → Closed n k st mv sw g d Q) → Q start (block_ticks + tick) ≡ true → Inside re Q)
        → (s t : ℕ) → t < block_ticks * b → has re s (block_ticks + t) ≡ reached_at site f a s t
    reached_right re b few begun closed least s t low =
        let since : tick - tick ≡ 0 = omega arith in
        let start_in_lem : R start (block_ticks + tick) ≡ true = pair_in start tick (omega arith, rw since (reached_start site well f a starts)) in
        let back : block_ticks + t - block_ticks ≡ t = omega arith in
        same_test _ _
        (λ i.
        let r : R s (block_ticks + t) ≡ true = least R (λ d lo hi. (waits_closed d, moves_closed d)) start_in_lem s (block_ticks + t) (omega arith) i in
        subst (λ (x : ℕ). reached_at site f a s x ≡ true) back (and_right (leb block_ticks (block_ticks + t)) _ r))
        (λ r.
        let (late, was) = reaches s t r in
        let here_tick : tick + (t - tick) ≡ t = omega arith in
        subst (λ (u : ℕ). has re s (block_ticks + u) ≡ true) here_tick
        (all_in (has re) b closed begun (suc (t - tick)) (t - tick) s (omega arith) (omega arith) was))
