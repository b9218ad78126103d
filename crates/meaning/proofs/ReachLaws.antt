-- The table of back pointers is right: a node's word is not 0 exactly when some valid steps lead there; so a route is found
-- exactly when a valid plan exists, its traced plan is valid, and no valid plan arrives earlier.
-- Assumes nothing.
use Prim.Native.Nat.{ℕ, zero, suc, ◌+◌, ◌-◌, ◌≤◌, ◌<◌}
use native.Mathlib.Nat.{not-suc-le-zero, le_of_suc-le-suc, sub-zero, suc-sub-suc}
use native.Mathlib.Numerals.{add-one}
use native.Mathlib.Omega.{arith}
use mathlib.Core.Path.{◌≡◌, refl, sym, ap, ap₂, ◌∙◌, subst}
use mathlib.Core.Bool.{Bool, true, false, cond, not, false≢true, true≢false}
use mathlib.Core.Option.{Option, none, some}
use mathlib.Core.List.{List, [], ◌∷◌}
use lib.Dec.{leb, ltb, eqb}
use borrow.Author.Tests.{ltb-true, ltb-false, leb-true, leb-false, eqb-true, le-leb, eq-eqb}
use lib.ListN.{length, get_or, get_or-eq_default}
use Rattle.meaning.specs.Basics.{every, all_from, least, is_zero}
use Rattle.meaning.proofs.BasicsLaws.{and_left, and_right, every_at, every_nil, every_cons, decide, when_test, when_value, same_test, length_tabulate, tabulate_at, least_holds, least_below, least_range, least_found, least_same, options}
use Rattle.meaning.proofs.MotionLaws.{good_at}
use Rattle.meaning.specs.Site.{Site, Motion, cell_of, standing, motion_at}
use Rattle.meaning.specs.Board.{Free}
use Rattle.meaning.specs.Plan.{Step, wait, move, Node, node as at, allowed, after, walk, start_free, plan_end, can_unload}
use Rattle.meaning.specs.WellFormed.{WellFormed}
use Rattle.meaning.specs.Reach.{reached_in, by_wait, by_motion, word_by, word, first_row, with_row, rows_to, reach_word, reached, word_in, wait_one, trace, Route, traced_route, ends_after, route_in, find_route}

-- ---- the rows

module _ (site : Site) (f : Free) (a : Node) where
  rows_back : (n j : ℕ) → j ≤ n → get_or (rows_to site f a n) j [] ≡ get_or (rows_to site f a (n - j)) 0 []
  unfolding rows_to with_row
  rows_back n zero h = rw sub-zero
  rows_back zero (suc j) h = absurd (not-suc-le-zero h)
  rows_back (suc n) (suc j) h = rows_back n j (le_of_suc-le-suc h) ∙ rw suc-sub-suc

  rows_past : (n j : ℕ) → n < j → get_or (rows_to site f a n) j [] ≡ []
  unfolding rows_to with_row
  rows_past n zero h = absurd (not-suc-le-zero h)
  rows_past zero (suc j) h = refl
  rows_past (suc n) (suc j) h = rows_past n j (le_of_suc-le-suc h)

  row_length : (k : ℕ) → length (get_or (rows_to site f a k) 0 []) ≡ length site.states
  unfolding rows_to with_row first_row
  row_length zero = length_tabulate _ 0 (length site.states)
  row_length (suc k) = length_tabulate _ 0 (length site.states)

  pub word_first : (s : ℕ) → s < length site.states
      → reach_word site f a 0 s ≡ cond (every (eqb s a.state ∷ start_free site f a ∷ [])) 1 0
  unfolding rows_to first_row
  word_first s h = tabulate_at (λ (s : ℕ). cond (every (eqb s a.state ∷ start_free site f a ∷ [])) 1 0) 0 (length site.states) s h

  pub word_later : (k s : ℕ) → s < length site.states
      → reach_word site f a (suc k) s ≡ word site f (rows_to site f a k) (a.tick + suc k) s
  unfolding rows_to with_row
  word_later k s h = tabulate_at (word site f (rows_to site f a k) (a.tick + suc k)) 0 (length site.states) s h

  -- only states of the site are reached
  pub reached_state : (k s : ℕ) → reached site f a k s ≡ true → s < length site.states
  reached_state k s h =
      decide (ltb s (length site.states))
      (λ e. ltb-true _ _ e)
      (λ e.
      let past : length site.states ≤ s = ltb-false _ _ e in
      let none_there : reach_word site f a k s ≡ 0 = get_or-eq_default (get_or (rows_to site f a k) 0 []) 0 {n = s} (omega (arith, row_length k)) in
      absurd (false≢true (rw none_there at h)))

  -- the rows seen from later ones
  back_reached : (k j s : ℕ) → reached_in (rows_to site f a k) j s ≡ true → (j ≤ k) × (reached site f a (k - j) s ≡ true)
  back_reached k j s h =
      decide (leb j k)
      (λ e. (leb-true _ _ e, rw (rows_back k j (leb-true _ _ e)) at h))
      (λ e. absurd (false≢true (rw (rows_past k j (leb-false _ _ e)) at h)))

  reached_back : (k j s : ℕ) → j ≤ k → reached site f a (k - j) s ≡ true → reached_in (rows_to site f a k) j s ≡ true
  reached_back k j s h r = rw (rows_back k j h) r

-- ---- steps with no two waits in a row and no wait of 0

-- a wait comes only where one may come
abbrev pub Merged : Bool → List Step → Type 0
Merged may_wait [] = Unit {0}
Merged may_wait (wait n ∷ ps) = (may_wait ≡ true) × (1 ≤ n) × Merged false ps
Merged may_wait (move m ∷ ps) = Merged true ps

pub wait_one_merged : (ps : List Step) → Merged true ps → Merged true (wait_one ps)
wait_one_merged [] h = (refl, omega arith, tt)
wait_one_merged (move m ∷ ps) h = (refl, omega arith, h)
wait_one_merged (wait n ∷ ps) (e, pos, h) = (refl, omega arith, h)

-- ---- what a well-formed site and an allowed step give

module _ (site : Site) (well : WellFormed site) (m : ℕ) (known : m < length site.motions) where
  pub to_known : (motion_at site m).to < length site.states
  to_known = (good_at site well m known).to_below

  pub span_pos : 1 ≤ (motion_at site m).span
  span_pos = (good_at site well m known).takes_time

module _ (site : Site) (f : Free) where
  -- the parts of an allowed motion
  pub move_known : (m : ℕ) (b : Node) → allowed site f (move m) b ≡ true → m < length site.motions
  unfolding allowed
  move_known m b h = ltb-true _ _ (every_at _ h 0)

  pub move_from : (m : ℕ) (b : Node) → allowed site f (move m) b ≡ true → (motion_at site m).from ≡ b.state
  unfolding allowed
  move_from m b h = eqb-true _ _ (every_at _ h 1)

  pub move_ends : (m : ℕ) (b : Node) → allowed site f (move m) b ≡ true → b.tick + (motion_at site m).span ≤ site.horizon
  unfolding allowed
  move_ends m b h = leb-true _ _ (every_at _ h 3)

  pub wait_ends : (n : ℕ) (b : Node) → allowed site f (wait n) b ≡ true → b.tick + n ≤ site.horizon
  unfolding allowed
  wait_ends n b h = leb-true _ _ (every_at _ h 3)

  pub wait_pos : (n : ℕ) (b : Node) → allowed site f (wait n) b ≡ true → 1 ≤ n
  unfolding allowed
  wait_pos n b h = leb-true _ _ (every_at _ h 0)

  -- a wait's cell is free at each of its ticks
  wait_free : (s t n : ℕ) → allowed site f (wait n) (at s t) ≡ true → all_from (f (cell_of site s)) t (suc n) ≡ true
  unfolding allowed
  wait_free s t n h = let same : suc (t + n) - t ≡ suc n = omega arith in rw same at (every_at _ h 2)

  wait_stands : (s t n : ℕ) → allowed site f (wait n) (at s t) ≡ true → standing site s ≡ true
  unfolding allowed
  wait_stands s t n h = every_at _ h 1

  wait_made : (s t n : ℕ) → 1 ≤ n → standing site s ≡ true → all_from (f (cell_of site s)) t (suc n) ≡ true → t + n ≤ site.horizon
      → allowed site f (wait n) (at s t) ≡ true
  unfolding allowed
  wait_made s t n pos stands frees in_time =
      let same : suc (t + n) - t ≡ suc n = omega arith in
      every_cons _ _ (le-leb _ _ pos) (every_cons _ _ stands (every_cons _ _ (rw same frees) (every_cons _ _ (le-leb _ _ in_time) every_nil)))

  -- a wait is a wait of one tick and a wait of the rest
  wait_rest : (s t n : ℕ) → allowed site f (wait (suc (suc n))) (at s t) ≡ true → allowed site f (wait (suc n)) (at s (suc t)) ≡ true
  wait_rest s t n h =
      let ends : t + suc (suc n) ≤ site.horizon = wait_ends (suc (suc n)) _ h in
      wait_made s (suc t) (suc n) (omega arith) (wait_stands s t _ h)
      (and_right (f (cell_of site s) t) _ (wait_free s t _ h)) (omega arith)

  wait_first : (s t n : ℕ) → allowed site f (wait (suc (suc n))) (at s t) ≡ true → allowed site f (wait 1) (at s t) ≡ true
  wait_first s t n h =
      let c : ℕ = cell_of site s in
      let frees : all_from (f c) t (suc (suc (suc n))) ≡ true = wait_free s t _ h in
      let later : all_from (f c) (suc t) (suc (suc n)) ≡ true = and_right (f c t) _ frees in
      let now_free : f c t ≡ true = and_left _ (all_from (f c) (suc t) (suc (suc n))) frees in
      let next_free : f c (suc t) ≡ true = and_left _ (all_from (f c) (suc (suc t)) (suc n)) later in
      let ends : t + suc (suc n) ≤ site.horizon = wait_ends (suc (suc n)) _ h in
      wait_made s t 1 (omega arith) (wait_stands s t _ h) (simp (now_free, next_free)) (omega arith)

  wait_join : (s t n : ℕ) → allowed site f (wait 1) (at s t) ≡ true → allowed site f (wait (suc n)) (at s (suc t)) ≡ true
      → allowed site f (wait (suc (suc n))) (at s t) ≡ true
  wait_join s t n h k =
      let c : ℕ = cell_of site s in
      let now_free : f c t ≡ true = and_left _ (all_from (f c) (suc t) 1) (wait_free s t 1 h) in
      let ends : suc t + suc n ≤ site.horizon = wait_ends (suc n) _ k in
      wait_made s t (suc (suc n)) (omega arith) (wait_stands s t _ h) (simp (now_free, wait_free s (suc t) _ k)) (omega arith)

  -- a step that is allowed leads on
  pub walk_step : (p : Step) (ps : List Step) (b : Node) → allowed site f p b ≡ true → walk site f (p ∷ ps) b ≡ walk site f ps (after site p b)
  unfolding walk
  walk_step p ps b h = simp h

  -- waiting one tick more before some steps
  walk_wait_one : (ps : List Step) (s t : ℕ) → allowed site f (wait 1) (at s t) ≡ true → Merged true ps
      → walk site f (wait_one ps) (at s t) ≡ walk site f ps (at s (suc t))
  unfolding walk
  walk_wait_one [] s t h m = simp (h, add-one)
  walk_wait_one (move j ∷ ps) s t h m = simp (h, add-one)
  walk_wait_one (wait zero ∷ ps) s t h (e, pos, m) = absurd (not-suc-le-zero pos)
  walk_wait_one (wait (suc n) ∷ ps) s t h m =
      let same_end : t + suc (suc n) ≡ suc t + suc n = omega arith in
      let same : allowed site f (wait (suc (suc n))) (at s t) ≡ allowed site f (wait (suc n)) (at s (suc t)) =
      same_test _ _ (wait_rest s t n) (wait_join s t n h) in
      simp (same, same_end)

-- ---- the tests of a word, in terms of what is reached at earlier ticks and of no rows

module _ (site : Site) (f : Free) (a : Node) where
  -- a wait of one tick leads to s, k + 1 ticks after the start
  abbrev pub waited : ℕ → ℕ → Bool
  waited k s = every (reached site f a k s ∷ allowed site f (wait 1) (at s (a.tick + k)) ∷ [])

  pub wait_law : (k s : ℕ) → by_wait site f (rows_to site f a k) (a.tick + suc k) s ≡ waited k s
  unfolding by_wait
  wait_law k s = let same : a.tick + suc k - 1 ≡ a.tick + k = omega arith in rw same

  -- the motion leads to s, k + 1 ticks after the start
  abbrev pub arrives : ℕ → ℕ → ℕ → Bool
  arrives k s m =
      every (
      eqb (motion_at site m).to s
      ∷ every (leb (motion_at site m).span (suc k) ∷ reached site f a (suc k - (motion_at site m).span) (motion_at site m).from ∷ [])
      ∷ allowed site f (move m) (at (motion_at site m).from (a.tick + suc k - (motion_at site m).span))
      ∷ [])

  -- a motion that is allowed from a reached node arrives
  pub move_arrives : (k s m j : ℕ) → (motion_at site m).to ≡ s → (motion_at site m).span + j ≡ suc k
      → reached site f a j (motion_at site m).from ≡ true → allowed site f (move m) (at (motion_at site m).from (a.tick + j)) ≡ true
      → arrives k s m ≡ true
  move_arrives k s m j same_to same_tick r ok =
      let d : ℕ = (motion_at site m).span in
      let row : suc k - d ≡ j = omega arith in
      let tick : a.tick + suc k - d ≡ a.tick + j = omega arith in
      every_cons _ _ (eq-eqb _ _ same_to)
      (every_cons _ _ (every_cons _ _ (le-leb d (suc k) (omega arith)) (every_cons _ _ (rw row r) every_nil))
      (every_cons _ _ (rw tick ok) every_nil))

module _ (site : Site) (well : WellFormed site) (f : Free) (a : Node) where
  pub motion_law : (k s m : ℕ) → m < length site.motions → by_motion site f (rows_to site f a k) (a.tick + suc k) s m ≡ arrives site f a k s m
  unfolding by_motion
  motion_law k s m known =
      let x : Motion = motion_at site m in
      ap (λ (b : Bool). every (eqb x.to s ∷ b ∷ allowed site f (move m) (at x.from (a.tick + suc k - x.span)) ∷ []))
      (seen x (span_pos site well m known))
    where
      seen : (x : Motion) → 1 ≤ x.span
          → reached_in (rows_to site f a k) (x.span - 1) x.from ≡ every (leb x.span (suc k) ∷ reached site f a (suc k - x.span) x.from ∷ [])
      seen x pos =
          let same : k - (x.span - 1) ≡ suc k - x.span = omega arith in
          same_test _ _
          (λ e.
          let (le, r) = back_reached site f a k (x.span - 1) x.from e in
          every_cons _ _ (le-leb x.span (suc k) (omega arith)) (every_cons _ _ (rw same at r) every_nil))
          (λ q.
          let le : x.span ≤ suc k = leb-true _ _ (every_at _ q 0) in
          reached_back site f a k (x.span - 1) x.from (omega arith) (rw same (every_at _ q 1)))

  -- a word from the words of earlier ticks: what code that fills a table tick by tick computes
  pub word_next : (k s : ℕ) → s < length site.states
      → reach_word site f a (suc k) s
      ≡ word_by (waited site f a k s) (least (arrives site f a k s) 0 (length site.motions))
  unfolding word
  word_next k s known =
      word_later site f a k s known
      ∙ ap₂ word_by (wait_law site f a k s)
      (least_same (by_motion site f (rows_to site f a k) (a.tick + suc k) s) (arrives site f a k s) 0 (length site.motions) (λ m lt. motion_law k s m (omega arith)))

-- ---- what a word says

-- How a reached node was reached: it is the start, or by a wait of one tick, or by a motion; then no wait leads there, and no
-- lower motion.
pub data Came (site : Site) (f : Free) (a : Node) : ℕ → ℕ → ℕ → Type 0 where
  at_start : {s : ℕ} → s ≡ a.state → start_free site f a ≡ true → Came site f a 0 s 1
  by_wait_lem : {k s : ℕ} → reached site f a k s ≡ true → allowed site f (wait 1) (at s (a.tick + k)) ≡ true → Came site f a (suc k) s 2
  by_move : {k s : ℕ} (m j : ℕ)
      → (motion_at site m).to ≡ s
      → (motion_at site m).span + j ≡ suc k
      → reached site f a j (motion_at site m).from ≡ true
      → allowed site f (move m) (at (motion_at site m).from (a.tick + j)) ≡ true
      → waited site f a k s ≡ false
      → ((l : ℕ) → l < m → arrives site f a k s l ≡ false)
      → Came site f a (suc k) s (suc (suc (suc m)))

module _ (site : Site) (well : WellFormed site) (f : Free) (a : Node) where
  move_came : (k s m : ℕ) → least (arrives site f a k s) 0 (length site.motions) ≡ some m
      → waited site f a k s ≡ false
      → Came site f a (suc k) s (suc (suc (suc m)))
  move_came k s m q no_wait =
      let d : ℕ = (motion_at site m).span in
      let tests : arrives site f a k s m ≡ true = least_holds (arrives site f a k s) 0 (length site.motions) m q in
      let le : d ≤ suc k = leb-true _ _ (every_at _ (every_at _ tests 1) 0) in
      let same : a.tick + suc k - d ≡ a.tick + (suc k - d) = omega arith in
      by_move {k = k} m (suc k - d) (eqb-true _ _ (every_at _ tests 0)) (omega arith) (every_at _ (every_at _ tests 1) 1) (rw same at (every_at _ tests 2)) no_wait
      (λ l lt. least_below (arrives site f a k s) 0 (length site.motions) m q l (omega arith) lt)

  came : (k s w : ℕ) → reach_word site f a k s ≡ suc w → Came site f a k s (suc w)
  came zero s w h =
      let known : s < length site.states = reached_state site f a 0 s (rw h) in
      decide (every (eqb s a.state ∷ start_free site f a ∷ []))
      (λ e.
      let one : 1 ≡ suc w = sym (word_first site f a s known ∙ simp e) ∙ h in
      subst (λ (v : ℕ). Came site f a 0 s v) one (at_start (eqb-true _ _ (every_at _ e 0)) (every_at _ e 1)))
      (λ e. let zero_one : 0 ≡ suc w = sym (word_first site f a s known ∙ simp e) ∙ h in absurd (omega arith))
  came (suc k) s w h =
      let known : s < length site.states = reached_state site f a (suc k) s (rw h) in
      let moved : Option ℕ = least (arrives site f a k s) 0 (length site.motions) in
      let value : word_by (waited site f a k s) moved ≡ suc w = sym (word_next site well f a k s known) ∙ h in
      decide (waited site f a k s)
      (λ e.
      let two : 2 ≡ suc w = simp e at value in
      subst (λ (v : ℕ). Came site f a (suc k) s v) two (by_wait_lem (every_at _ e 0) (every_at _ e 1)))
      (λ e.
      options moved
      (λ q. let nil : 0 ≡ suc w = simp (e, q) at value in absurd (omega arith))
      (λ m q.
      let three : suc (suc (suc m)) ≡ suc w = simp (e, q) at value in
      subst (λ (v : ℕ). Came site f a (suc k) s v) three (move_came k s m q e)))

  -- a reached node has a word, which says how it was reached
  pub came_here : (k s : ℕ) → reached site f a k s ≡ true → Came site f a k s (reach_word site f a k s)
  came_here k s r = by_word (reach_word site f a k s) refl
    where
      by_word : (w : ℕ) → reach_word site f a k s ≡ w → Came site f a k s (reach_word site f a k s)
      by_word zero e = absurd (false≢true (rw e at r))
      by_word (suc w) e = rw e (came k s w e)

-- ---- the traced steps lead to the node that they are traced from

module _ (site : Site) (rows : List (List ℕ)) (n fuel k s : ℕ) (ps : List Step) where
  pub trace_start : word_in rows n k s ≡ 1 → trace site rows n (suc fuel) k s ps ≡ ps
  unfolding trace
  trace_start h = rw (h, trace)

  pub trace_wait : word_in rows n k s ≡ 2 → trace site rows n (suc fuel) k s ps ≡ trace site rows n fuel (k - 1) s (wait_one ps)
  unfolding trace
  trace_wait h = rw (h, trace)

  pub trace_move : (m : ℕ) → word_in rows n k s ≡ suc (suc (suc m))
      → trace site rows n (suc fuel) k s ps ≡ trace site rows n fuel (k - (motion_at site m).span) (motion_at site m).from (move m ∷ ps)
  unfolding trace
  trace_move m h = rw (h, trace)

module _ (site : Site) (well : WellFormed site) (f : Free) (a : Node) (n : ℕ) where
  pub word_row : (k s : ℕ) → k ≤ n → word_in (rows_to site f a n) n k s ≡ reach_word site f a k s
  word_row k s h =
      let same : n - (n - k) ≡ k = omega arith in
      ap (λ (row : List ℕ). get_or row s 0) (rows_back site f a n (n - k) (omega arith) ∙ ap (λ (j : ℕ). get_or (rows_to site f a j) 0 []) same)

  -- what the traced steps and then some more do
  abbrev pub TracesTo : ℕ → Type 0
  TracesTo fuel = (k s : ℕ) (ps : List Step) → Merged true ps → k ≤ n → k < fuel → reached site f a k s ≡ true
      → walk site f (trace site (rows_to site f a n) n fuel k s ps) a ≡ walk site f ps (at s (a.tick + k))

  trace_came : (fuel : ℕ) → TracesTo fuel → {k s w : ℕ} → Came site f a k s w → (ps : List Step) → Merged true ps → k ≤ n → k < suc fuel
      → word_in (rows_to site f a n) n k s ≡ w
      → walk site f (trace site (rows_to site f a n) n (suc fuel) k s ps) a ≡ walk site f ps (at s (a.tick + k))
  trace_came fuel ih (at_start {s = s} same free_there) ps merged h hf e =
      ap (λ (qs : List Step). walk site f qs a) (trace_start site (rows_to site f a n) n fuel 0 s ps e)
      ∙ ap (walk site f ps) (ap₂ at (sym same) (omega arith))
  trace_came fuel ih (by_wait_lem {k = k} {s = s} r ok) ps merged h hf e =
      let before : suc k - 1 ≡ k = omega arith in
      ap (λ (qs : List Step). walk site f qs a) (trace_wait site (rows_to site f a n) n fuel (suc k) s ps e)
      ∙ ap (λ (j : ℕ). walk site f (trace site (rows_to site f a n) n fuel j s (wait_one ps)) a) before
      ∙ ih k s (wait_one ps) (wait_one_merged ps merged) (omega arith) (omega arith) r
      ∙ walk_wait_one site f ps s (a.tick + k) ok merged
      ∙ ap (λ (t : ℕ). walk site f ps (at s t)) (omega arith)
  trace_came fuel ih (by_move {k = k} {s = s} m j same_to same_tick r ok no_wait lowest) ps merged h hf e =
      let x : Motion = motion_at site m in
      let pos : 1 ≤ x.span = span_pos site well m (move_known site f m _ ok) in
      let before : suc k - x.span ≡ j = omega arith in
      ap (λ (qs : List Step). walk site f qs a) (trace_move site (rows_to site f a n) n fuel (suc k) s ps m e)
      ∙ ap (λ (i : ℕ). walk site f (trace site (rows_to site f a n) n fuel i x.from (move m ∷ ps)) a) before
      ∙ ih j x.from (move m ∷ ps) merged (omega arith) (omega arith) r
      ∙ walk_step site f (move m) ps (at x.from (a.tick + j)) ok
      ∙ ap (walk site f ps) (ap₂ at same_to (omega arith))

  pub trace_walk : (fuel : ℕ) → TracesTo fuel
  trace_walk zero k s ps merged h hf r = absurd (not-suc-le-zero hf)
  trace_walk (suc fuel) k s ps merged h hf r = trace_came fuel (trace_walk fuel) (came_here site well f a k s r) ps merged h hf (word_row k s h)

-- ---- whatever allowed steps lead to is reached

module _ (site : Site) (well : WellFormed site) (f : Free) (a : Node) where
  -- a word from a wait, or from a motion, is not 0
  pub reached_wait : (k s : ℕ) → reached site f a k s ≡ true → allowed site f (wait 1) (at s (a.tick + k)) ≡ true → reached site f a (suc k) s ≡ true
  reached_wait k s r ok =
      let by_one : waited site f a k s ≡ true = every_cons _ _ r (every_cons _ _ ok every_nil) in
      ap (λ (w : ℕ). not (is_zero w)) (word_next site well f a k s (reached_state site f a k s r)) ∙ simp by_one

  reached_motion : (k s m : ℕ) → s < length site.states → m < length site.motions → arrives site f a k s m ≡ true
      → reached site f a (suc k) s ≡ true
  reached_motion k s m known hm e =
      let (j, q) = least_found (arrives site f a k s) 0 (length site.motions) m e (omega arith) (omega arith) in
      ap (λ (w : ℕ). not (is_zero w)) (word_next site well f a k s known) ∙ some_word (waited site f a k s) q
    where
      some_word : (b : Bool) {o : Option ℕ} {j : ℕ} → o ≡ some j → not (is_zero (word_by b o)) ≡ true
      some_word true q = refl
      some_word false q = simp q

  reached_waits : (n k s : ℕ) → reached site f a k s ≡ true → allowed site f (wait (suc n)) (at s (a.tick + k)) ≡ true
      → reached site f a (k + suc n) s ≡ true
  reached_waits zero k s r ok = rw add-one (reached_wait k s r ok)
  reached_waits (suc n) k s r ok =
      let later : allowed site f (wait (suc n)) (at s (suc (a.tick + k))) ≡ true = wait_rest site f s (a.tick + k) n ok in
      let same : suc (a.tick + k) ≡ a.tick + suc k = omega arith in
      let same_end : suc k + suc n ≡ k + suc (suc n) = omega arith in
      rw same_end at (reached_waits n (suc k) s (reached_wait k s r (wait_first site f s (a.tick + k) n ok)) (rw same at later))

  pub reached_move : (m k s : ℕ) → reached site f a k s ≡ true → allowed site f (move m) (at s (a.tick + k)) ≡ true
      → reached site f a (k + (motion_at site m).span) (motion_at site m).to ≡ true
  reached_move m k s r ok =
      let x : Motion = motion_at site m in
      let known : m < length site.motions = move_known site f m _ ok in
      let pos : 1 ≤ x.span = span_pos site well m known in
      let from : x.from ≡ s = move_from site f m _ ok in
      let j : ℕ = k + (x.span - 1) in
      let same_end : suc j ≡ k + x.span = omega arith in
      rw same_end at
      (reached_motion j x.to m (to_known site well m known) known
      (move_arrives site f a j x.to m k refl (omega arith) (rw from r) (rw from ok)))

  -- a node that is reached: the ticks since the start, within the horizon
  abbrev pub Found : Node → Type 0
  Found b = (k : ℕ) × (b.tick ≡ a.tick + k) × (a.tick + k ≤ site.horizon) × (reached site f a k b.state ≡ true)

  walk_reached : (ps : List Step) (k s : ℕ) (b : Node) → reached site f a k s ≡ true → a.tick + k ≤ site.horizon
      → walk site f ps (at s (a.tick + k)) ≡ some b → Found b
  unfolding walk
  walk_reached [] k s b r hk h = let same : at s (a.tick + k) ≡ b = cc in subst Found same (k, refl, hk, r)
  walk_reached (wait zero ∷ ps) k s b r hk h =
      let ok : allowed site f (wait zero) (at s (a.tick + k)) ≡ true = when_test _ (walk site f ps (at s (a.tick + k + 0))) h in
      absurd (not-suc-le-zero (wait_pos site f zero _ ok))
  walk_reached (wait (suc n) ∷ ps) k s b r hk h =
      let rest : Option Node = walk site f ps (at s (a.tick + k + suc n)) in
      let ok : allowed site f (wait (suc n)) (at s (a.tick + k)) ≡ true = when_test _ rest h in
      let same : a.tick + k + suc n ≡ a.tick + (k + suc n) = omega arith in
      let ends : a.tick + k + suc n ≤ site.horizon = wait_ends site f (suc n) _ ok in
      walk_reached ps (k + suc n) s b (reached_waits n k s r ok) (omega arith) (rw same at (when_value (allowed site f (wait (suc n)) (at s (a.tick + k))) rest h))
  walk_reached (move m ∷ ps) k s b r hk h =
      let x : Motion = motion_at site m in
      let rest : Option Node = walk site f ps (at x.to (a.tick + k + x.span)) in
      let ok : allowed site f (move m) (at s (a.tick + k)) ≡ true = when_test _ rest h in
      let same : a.tick + k + x.span ≡ a.tick + (k + x.span) = omega arith in
      let ends : a.tick + k + x.span ≤ site.horizon = move_ends site f m _ ok in
      walk_reached ps (k + x.span) x.to b (reached_move m k s r ok) (omega arith) (rw same at (when_value (allowed site f (move m) (at s (a.tick + k))) rest h))

  pub start_known : start_free site f a ≡ true → a.state < length site.states
  unfolding start_free
  start_known h = ltb-true _ _ (every_at _ h 0)

  pub start_early : start_free site f a ≡ true → a.tick ≤ site.horizon
  unfolding start_free
  start_early h = leb-true _ _ (every_at _ h 1)

  pub reached_start : start_free site f a ≡ true → reached site f a 0 a.state ≡ true
  unfolding every
  reached_start h =
      let known : a.state < length site.states = start_known h in
      let one : reach_word site f a 0 a.state ≡ 1 =
      word_first site f a a.state known ∙ simp (eq-eqb a.state a.state refl, h) in
      ap (λ (w : ℕ). not (is_zero w)) one

  -- where something is reached, the start is free
  start_of_reached : (fuel k s : ℕ) → k < fuel → reached site f a k s ≡ true → start_free site f a ≡ true
  start_of_reached zero k s hf r = absurd (not-suc-le-zero hf)
  start_of_reached (suc fuel) k s hf r = by_came (start_of_reached fuel) hf (came_here site well f a k s r)
    where
      by_came : {k s w : ℕ} → ((k s : ℕ) → k < fuel → reached site f a k s ≡ true → start_free site f a ≡ true) → k < suc fuel
          → Came site f a k s w → start_free site f a ≡ true
      by_came ih h (at_start same free_there) = free_there
      by_came ih h (by_wait_lem {k = k} {s = s} r ok) = ih k s (omega arith) r
      by_came ih h (by_move {k = k} m j same_to same_tick r ok no_wait lowest) =
          let pos : 1 ≤ (motion_at site m).span = span_pos site well m (move_known site f m _ ok) in
          ih j (motion_at site m).from (omega arith) r

  -- ---- the theorem on words: a node's word is not 0 exactly when a valid plan leads there

  pub reached_sound : (k s : ℕ) → reached site f a k s ≡ true → (ps : List Step) × (plan_end site f a ps ≡ some (at s (a.tick + k)))
  unfolding plan_end walk
  reached_sound k s r =
      let ps : List Step = trace site (rows_to site f a k) k (suc k) k s [] in
      let leads : walk site f ps a ≡ some (at s (a.tick + k)) = trace_walk site well f a k (suc k) k s [] tt (omega arith) (omega arith) r in
      (ps, simp (start_of_reached (suc k) k s (omega arith) r, leads))

  pub plan_reached : (ps : List Step) (b : Node) → plan_end site f a ps ≡ some b → Found b
  unfolding plan_end
  plan_reached ps b h =
      let free_there : start_free site f a ≡ true = when_test _ (walk site f ps a) h in
      let early : a.tick ≤ site.horizon = start_early free_there in
      let same : a.tick + 0 ≡ a.tick = omega arith in
      walk_reached ps 0 a.state b (reached_start free_there) (omega arith) (rw same (when_value (start_free site f a) (walk site f ps a) h))

  pub reached_complete : (k s : ℕ) (ps : List Step) → plan_end site f a ps ≡ some (at s (a.tick + k)) → reached site f a k s ≡ true
  reached_complete k s ps h =
      let (j, same, early, r) = plan_reached ps (at s (a.tick + k)) h in
      let same_ticks : j ≡ k = omega arith in
      rw same_ticks at r

  -- ---- the theorem on routes

  -- the ticks after the start that the table covers, and the test that the arrival is the least to pass
  abbrev ticks : ℕ
  ticks = site.horizon - a.tick

  abbrev there : ℕ → ℕ → ℕ → Bool
  there goal dwell = ends_after site f (rows_to site f a ticks) ticks a goal dwell

  there_reached : (goal dwell k : ℕ) → k ≤ ticks → there goal dwell k ≡ every (reached site f a k goal ∷ can_unload site f (at goal (a.tick + k)) dwell ∷ [])
  there_reached goal dwell k h =
      ap (λ (w : ℕ). every (not (is_zero w) ∷ can_unload site f (at goal (a.tick + k)) dwell ∷ [])) (word_row site well f a ticks k goal h)

  -- what a found route is
  pub record Arrives (goal dwell : ℕ) (r : Route) : Type 0 where
    pub after_start : ℕ
    pub on_tick : r.arrival ≡ a.tick + after_start
    pub in_time : after_start ≤ ticks
    pub here : reached site f a after_start goal ≡ true
    pub unloads : can_unload site f (at goal (a.tick + after_start)) dwell ≡ true
    pub not_before : (j : ℕ) → j < after_start → every (reached site f a j goal ∷ can_unload site f (at goal (a.tick + j)) dwell ∷ []) ≡ false
    pub traced : r.steps ≡ trace site (rows_to site f a ticks) ticks (suc after_start) after_start goal []

  pub found_arrives : (goal dwell : ℕ) (r : Route) → find_route site f a goal dwell ≡ some r → Arrives goal dwell r
  unfolding find_route route_in traced_route
  found_arrives goal dwell r h =
      options (least (there goal dwell) 0 (suc ticks))
      (λ q. let z : ◌≡◌ {A = Option Route} none (some r) = simp q at h in absurd (none≢some z))
      (λ k q.
      let found : Route = record { steps = trace site (rows_to site f a ticks) ticks (suc k) k goal []; arrival = a.tick + k } in
      let z : some found ≡ some r = simp q at h in
      let range : k < 0 + suc ticks = least_range (there goal dwell) 0 (suc ticks) k q in
      let same : found ≡ r = some_same z in
      let both : every (reached site f a k goal ∷ can_unload site f (at goal (a.tick + k)) dwell ∷ []) ≡ true =
      sym (there_reached goal dwell k (omega arith)) ∙ least_holds (there goal dwell) 0 (suc ticks) k q in
      subst (Arrives goal dwell) same (record {
        after_start = k;
        on_tick = refl;
        in_time = omega arith;
        here = every_at _ both 0;
        unloads = every_at _ both 1;
        not_before = λ j lt. sym (there_reached goal dwell j (omega arith)) ∙ least_below (there goal dwell) 0 (suc ticks) k q j (omega arith) lt;
        traced = refl;
      }))
    where
      none≢some : ◌≡◌ {A = Option Route} none (some r) → ⊥
      none≢some e = let z : ◌≡◌ {A = ℕ} 0 1 = cc in omega arith

      some_same : {x y : Route} → some x ≡ some y → x ≡ y
      some_same e = cc

  -- a granted route's steps are a valid plan to the goal, on the arrival tick
  pub route_valid : (goal dwell : ℕ) (r : Route) → find_route site f a goal dwell ≡ some r → plan_end site f a r.steps ≡ some (at goal r.arrival)
  unfolding plan_end walk
  route_valid goal dwell r h =
      let got : Arrives goal dwell r = found_arrives goal dwell r h in
      let k : ℕ = got.after_start in
      let leads : walk site f (trace site (rows_to site f a ticks) ticks (suc k) k goal []) a ≡ some (at goal (a.tick + k)) =
      trace_walk site well f a ticks (suc k) k goal [] tt got.in_time (omega arith) got.here in
      simp (got.traced, got.on_tick, start_of_reached (suc k) k goal (omega arith) got.here, leads)

  -- and the tug can unload there
  pub route_unloads : (goal dwell : ℕ) (r : Route) → find_route site f a goal dwell ≡ some r → can_unload site f (at goal r.arrival) dwell ≡ true
  route_unloads goal dwell r h =
      let got : Arrives goal dwell r = found_arrives goal dwell r h in
      rw got.on_tick got.unloads

  -- no valid plan that can unload at its end arrives earlier
  pub route_earliest : (goal dwell t : ℕ) (r : Route) (ps : List Step) → find_route site f a goal dwell ≡ some r
      → plan_end site f a ps ≡ some (at goal t) → can_unload site f (at goal t) dwell ≡ true → r.arrival ≤ t
  route_earliest goal dwell t r ps h p unloads =
      let got : Arrives goal dwell r = found_arrives goal dwell r h in
      let (j, same, early, there_too) = plan_reached ps (at goal t) p in
      decide (leb got.after_start j)
      (λ e. let le : got.after_start ≤ j = leb-true _ _ e in omega (arith, got.on_tick))
      (λ e. absurd (true≢false (sym (every_cons _ _ there_too (every_cons _ _ (rw same at unloads) every_nil)) ∙ got.not_before j (leb-false _ _ e))))

  -- where some valid plan exists that can, a route is found
  pub route_exists : (goal dwell t : ℕ) (ps : List Step) → plan_end site f a ps ≡ some (at goal t) → can_unload site f (at goal t) dwell ≡ true
      → (r : Route) × (find_route site f a goal dwell ≡ some r)
  unfolding find_route route_in traced_route
  route_exists goal dwell t ps p unloads =
      let (j, same, early, there_too) = plan_reached ps (at goal t) p in
      let in_time : j ≤ ticks = omega arith in
      let both : every (reached site f a j goal ∷ can_unload site f (at goal (a.tick + j)) dwell ∷ []) ≡ true =
      every_cons _ _ there_too (every_cons _ _ (rw same at unloads) every_nil) in
      let (k, q) = least_found (there goal dwell) 0 (suc ticks) j (there_reached goal dwell j in_time ∙ both) (omega arith) (omega arith) in
      (record { steps = trace site (rows_to site f a ticks) ticks (suc k) k goal []; arrival = a.tick + k }, simp q)

  -- where none is found, no valid plan exists
  pub route_none : (goal dwell t : ℕ) (ps : List Step) → find_route site f a goal dwell ≡ none → plan_end site f a ps ≡ some (at goal t)
      → can_unload site f (at goal t) dwell ≡ true → ⊥
  route_none goal dwell t ps h p unloads =
      let (r, e) = route_exists goal dwell t ps p unloads in
      let z : ◌≡◌ {A = ℕ} 0 1 = cc in
      omega arith
