-- The walk accepts exactly the valid plans, and the pairs that are marked are exactly those that the plan holds; these are free.
-- Assumes nothing.
use Prim.Native.Nat.{ℕ, zero, suc, ◌+◌, ◌-◌, ◌≤◌, ◌<◌}
use native.Mathlib.Omega.{arith}
use mathlib.Core.Path.{◌≡◌, refl, sym, ap, ◌∙◌, subst}
use mathlib.Core.Bool.{Bool, true, ◌&&◌, true≢false}
use mathlib.Core.Option.{Option, some}
use mathlib.Core.List.{List, [], ◌∷◌, ◌++◌}
use mathlib.Core.Logic.{◌⊎◌, inl, inr}
use lib.Dec.{eqb}
use borrow.Author.Tests.{leb-true, ltb-true, le-leb, lt-ltb, eq-eqb, eqb-true, eqb-false}
use Rattle.meaning.specs.Basics.{all, all_from, Each, Some, here, there}
use Rattle.meaning.specs.Site.{Site, Sweep, cell_of, motion_at}
use Rattle.meaning.specs.Board.{Free, Pair, run, run_to, all_free}
use Rattle.meaning.specs.Plan.{Step, wait, move, Node, free_from_to, sweeps_free, allowed, after, walk, start_free, plan_end, can_unload, swept_pairs, step_pairs, walk_pairs, plan_pairs}
use Rattle.meaning.specs.PlainBoard.{has_pair}
use Rattle.meaning.specs.ValidPlans.{FreeFromTo, Leads, ends, waits, moves, Valid, Unloads, Along, by_wait_lem, by_motion_lem, after_wait, after_motion, Holds, at_start, on_the_way, at_goal}
use Rattle.meaning.specs.Laws.{PlansRight}
use Rattle.meaning.proofs.BasicsLaws.{every_at, every_nil, every_cons, decide, when_test, when_value, all_nil, all_cons, all_head, all_tail, all_append, all_from_in, all_from_true, each_all, all_each, any_here, any_there, any_nil, any_case}

-- ---- free from one tick to another

module _ (f : Free) where
  free_throughout : (c t u : ℕ) → free_from_to f c t u ≡ true → FreeFromTo f c t u
  free_throughout c t u h x lo hi = all_from_in (f c) t (suc u - t) x h lo (omega arith)

  throughout_free : (c t u : ℕ) → FreeFromTo f c t u → free_from_to f c t u ≡ true
  throughout_free c t u h = all_from_true (f c) t (suc u - t) (λ x lo hi. h x lo (omega arith))

  sweeps_each : (ws : List Sweep) (t : ℕ) → sweeps_free f ws t ≡ true
      → Each (λ (w : Sweep). FreeFromTo f w.cell (t + w.first) (t + w.last)) ws
  sweeps_each ws t h = all_each _ _ (λ w e. free_throughout w.cell (t + w.first) (t + w.last) e) ws h

  each_sweeps : (ws : List Sweep) (t : ℕ) → Each (λ (w : Sweep). FreeFromTo f w.cell (t + w.first) (t + w.last)) ws
      → sweeps_free f ws t ≡ true
  each_sweeps ws t h =
      each_all (λ (w : Sweep). FreeFromTo f w.cell (t + w.first) (t + w.last)) _
      (λ w e. throughout_free w.cell (t + w.first) (t + w.last) e) ws h

-- ---- a plan leads where the tests say

module _ (site : Site) (f : Free) where
  pub walk_leads : (ps : List Step) (a b : Node) → walk site f ps a ≡ some b → Leads site f a ps b
  unfolding walk allowed
  walk_leads [] a b h = let same : a ≡ b = cc in ends same
  walk_leads (wait n ∷ ps) a b h =
      let rest : Option Node = walk site f ps (after site (wait n) a) in
      let ok : allowed site f (wait n) a ≡ true = when_test _ rest h in
      waits (leb-true _ _ (every_at _ ok 0)) (eqb-true _ _ (every_at _ ok 1))
      (free_throughout f (cell_of site a.state) a.tick (a.tick + n) (every_at _ ok 2)) (leb-true _ _ (every_at _ ok 3))
      (walk_leads ps (after site (wait n) a) b (when_value (allowed site f (wait n) a) rest h))
  walk_leads (move m ∷ ps) a b h =
      let rest : Option Node = walk site f ps (after site (move m) a) in
      let ok : allowed site f (move m) a ≡ true = when_test _ rest h in
      moves (ltb-true _ _ (every_at _ ok 0)) (eqb-true _ _ (every_at _ ok 1))
      (sweeps_each f (motion_at site m).sweeps a.tick (every_at _ ok 2)) (leb-true _ _ (every_at _ ok 3))
      (walk_leads ps (after site (move m) a) b (when_value (allowed site f (move m) a) rest h))

  pub leads_walk : {ps : List Step} {a b : Node} → Leads site f a ps b → walk site f ps a ≡ some b
  unfolding walk allowed
  leads_walk (ends same) = ap (λ (x : Node). some x) same
  leads_walk (waits {a = a} {n = n} pos stand free_there in_time l) =
      simp (every_cons _ _ (le-leb 1 n pos) (every_cons _ _ (eq-eqb _ _ stand)
      (every_cons _ _ (throughout_free f (cell_of site a.state) a.tick (a.tick + n) free_there)
      (every_cons _ _ (le-leb (a.tick + n) site.horizon in_time) every_nil))))
      (leads_walk l)
  leads_walk (moves {a = a} {m = m} known start free_there in_time l) =
      simp (every_cons _ _ (lt-ltb _ _ known) (every_cons _ _ (eq-eqb _ _ start)
      (every_cons _ _ (each_sweeps f (motion_at site m).sweeps a.tick free_there)
      (every_cons _ _ (le-leb (a.tick + (motion_at site m).span) site.horizon in_time) every_nil))))
      (leads_walk l)

  pub plan_valid : (a : Node) (ps : List Step) (b : Node) → plan_end site f a ps ≡ some b → Valid site f a ps b
  unfolding plan_end start_free
  plan_valid a ps b h =
      let ok : start_free site f a ≡ true = when_test _ (walk site f ps a) h in
      record {
        state_known = ltb-true _ _ (every_at _ ok 0);
        tick_known = leb-true _ _ (every_at _ ok 1);
        start_free_lem = every_at _ ok 2;
        leads = walk_leads ps a b (when_value (start_free site f a) (walk site f ps a) h);
      }

  pub valid_plan : (a : Node) (ps : List Step) (b : Node) → Valid site f a ps b → plan_end site f a ps ≡ some b
  unfolding plan_end start_free
  valid_plan a ps b v =
      simp (every_cons _ _ (lt-ltb _ _ v.state_known) (every_cons _ _ (le-leb _ _ v.tick_known) (every_cons _ _ v.start_free_lem every_nil)))
      (leads_walk v.leads)

  -- unloading
  pub can_unload_lem : (b : Node) (dwell : ℕ) → can_unload site f b dwell ≡ true → Unloads site f b dwell
  unfolding can_unload
  can_unload_lem b dwell h = record {
    dock_free = free_throughout f (cell_of site b.state) b.tick (b.tick + dwell) (every_at _ h 0);
    in_time = leb-true _ _ (every_at _ h 1);
  }

  pub unload_can : (b : Node) (dwell : ℕ) → Unloads site f b dwell → can_unload site f b dwell ≡ true
  unfolding can_unload
  unload_can b dwell u =
      every_cons _ _ (throughout_free f (cell_of site b.state) b.tick (b.tick + dwell) u.dock_free)
      (every_cons _ _ (le-leb _ _ u.in_time) every_nil)

-- ---- the pairs of a list

pub has_left : (ps qs : List Pair) (c t : ℕ) → has_pair ps c t ≡ true → has_pair (ps ++ qs) c t ≡ true
has_left [] qs c t h = absurd (true≢false (sym h ∙ any_nil _))
has_left (p ∷ ps) qs c t h =
    any_case _ p ps h (λ e. any_here _ p (ps ++ qs) e) (λ e k. any_there _ p (ps ++ qs) (has_left ps qs c t k))

pub has_right : (ps qs : List Pair) (c t : ℕ) → has_pair qs c t ≡ true → has_pair (ps ++ qs) c t ≡ true
has_right [] qs c t h = h
has_right (p ∷ ps) qs c t h = any_there _ p (ps ++ qs) (has_right ps qs c t h)

pub has_append : (ps qs : List Pair) (c t : ℕ) → has_pair (ps ++ qs) c t ≡ true → (has_pair ps c t ≡ true) ⊎ (has_pair qs c t ≡ true)
has_append [] qs c t h = inr h
has_append (p ∷ ps) qs c t h =
    any_case _ p (ps ++ qs) h
    (λ e. inl (any_here _ p ps e))
    (λ e k. elim (has_append ps qs c t k) [ inl l ↦ inl (any_there _ p ps l) | inr r ↦ inr r ])

pub has_run : (c from n t : ℕ) → from ≤ t → t < from + n → has_pair (run c from n) c t ≡ true
has_run c from zero t lo hi = absurd (omega arith)
has_run c from (suc n) t lo hi =
    decide (eqb from t)
    (λ e. any_here _ (record { cell = c; tick = from }) (run c (suc from) n) (every_cons _ _ (eq-eqb c c refl) (every_cons _ _ e every_nil)))
    (λ e.
    let other : from ≡ t → ⊥ = eqb-false from t e in
    any_there _ (record { cell = c; tick = from }) (run c (suc from) n) (has_run c (suc from) n t (omega arith) (omega arith)))

in_run : (c from n x t : ℕ) → has_pair (run c from n) x t ≡ true → (x ≡ c) × (from ≤ t) × (t < from + n)
in_run c from zero x t h = absurd (true≢false (sym h ∙ any_nil _))
in_run c from (suc n) x t h =
    any_case _ (record { cell = c; tick = from }) (run c (suc from) n) h
    (λ e. let same : from ≡ t = eqb-true _ _ (every_at _ e 1) in (sym (eqb-true _ _ (every_at _ e 0)), omega arith, omega arith))
    (λ e k. let (same, lo, hi) = in_run c (suc from) n x t k in (same, omega arith, omega arith))

-- from one tick to another
pub has_run_to : (c from to x t : ℕ) → x ≡ c → from ≤ t → t ≤ to → has_pair (run_to c from to) x t ≡ true
has_run_to c from to x t same lo hi =
    subst (λ (d : ℕ). has_pair (run_to c from to) d t ≡ true) (sym same) (has_run c from (suc to - from) t lo (omega arith))

pub in_run_to : (c from to x t : ℕ) → has_pair (run_to c from to) x t ≡ true → (x ≡ c) × (from ≤ t) × (t ≤ to)
in_run_to c from to x t h = let (same, lo, hi) = in_run c from (suc to - from) x t h in (same, lo, omega arith)

-- ---- a plan's list of pairs has exactly the pairs that it holds

in_sweeps : (ws : List Sweep) (t c x : ℕ) → has_pair (swept_pairs ws t) c x ≡ true
    → Some (λ (w : Sweep). (c ≡ w.cell) × (t + w.first ≤ x) × (x ≤ t + w.last)) ws
in_sweeps [] t c x h = absurd (true≢false (sym h ∙ any_nil _))
in_sweeps (w ∷ ws) t c x h =
    elim (has_append (run_to w.cell (t + w.first) (t + w.last)) (swept_pairs ws t) c x h) [
      | inl k ↦ here (in_run_to w.cell (t + w.first) (t + w.last) c x k)
      | inr k ↦ there (in_sweeps ws t c x k)
    ]

has_sweeps : (ws : List Sweep) (t c x : ℕ) → Some (λ (w : Sweep). (c ≡ w.cell) × (t + w.first ≤ x) × (x ≤ t + w.last)) ws
    → has_pair (swept_pairs ws t) c x ≡ true
has_sweeps [] t c x x3 = elim x3 [ ]
has_sweeps (w ∷ ws) t c x (here (same, lo, hi)) =
    has_left (run_to w.cell (t + w.first) (t + w.last)) (swept_pairs ws t) c x (has_run_to w.cell (t + w.first) (t + w.last) c x same lo hi)
has_sweeps (w ∷ ws) t c x (there s) =
    has_right (run_to w.cell (t + w.first) (t + w.last)) (swept_pairs ws t) c x (has_sweeps ws t c x s)

module _ (site : Site) where
  -- the pairs of unloading at a node
  abbrev dock_pairs : Node → ℕ → List Pair
  dock_pairs b dwell = run_to (cell_of site b.state) b.tick (b.tick + dwell)

  has_along : (ps : List Step) (a : Node) (c t : ℕ) → has_pair (walk_pairs site ps a) c t ≡ true → Along site c t a ps
  has_along [] a c t h = absurd (true≢false (sym h ∙ any_nil _))
  has_along (wait n ∷ ps) a c t h =
      elim (has_append (step_pairs site (wait n) a) (walk_pairs site ps (after site (wait n) a)) c t h) [
        | inl k ↦ let (same, lo, hi) = in_run_to (cell_of site a.state) a.tick (a.tick + n) c t k in by_wait_lem same lo hi
        | inr k ↦ after_wait (has_along ps (after site (wait n) a) c t k)
      ]
  has_along (move m ∷ ps) a c t h =
      elim (has_append (step_pairs site (move m) a) (walk_pairs site ps (after site (move m) a)) c t h) [
        | inl k ↦ by_motion_lem (in_sweeps (motion_at site m).sweeps a.tick c t k)
        | inr k ↦ after_motion (has_along ps (after site (move m) a) c t k)
      ]

  along_has : {c t : ℕ} {a : Node} {ps : List Step} → Along site c t a ps → has_pair (walk_pairs site ps a) c t ≡ true
  along_has {c = c} {t = t} (by_wait_lem {a = a} {n = n} {ps = ps} same lo hi) =
      has_left (step_pairs site (wait n) a) (walk_pairs site ps (after site (wait n) a)) c t
      (has_run_to (cell_of site a.state) a.tick (a.tick + n) c t same lo hi)
  along_has {c = c} {t = t} (by_motion_lem {a = a} {m = m} {ps = ps} u) =
      has_left (step_pairs site (move m) a) (walk_pairs site ps (after site (move m) a)) c t (has_sweeps (motion_at site m).sweeps a.tick c t u)
  along_has {c = c} {t = t} (after_wait {a = a} {n = n} {ps = ps} h) =
      has_right (step_pairs site (wait n) a) (walk_pairs site ps (after site (wait n) a)) c t (along_has h)
  along_has {c = c} {t = t} (after_motion {a = a} {m = m} {ps = ps} h) =
      has_right (step_pairs site (move m) a) (walk_pairs site ps (after site (move m) a)) c t (along_has h)

  pub pairs_held : (a : Node) (ps : List Step) (b : Node) (dwell c t : ℕ) → has_pair (plan_pairs site a ps b dwell) c t ≡ true → Holds site a ps b dwell c t
  unfolding plan_pairs
  pairs_held a ps b dwell c t h =
      any_case _ (record { cell = cell_of site a.state; tick = a.tick }) (walk_pairs site ps a ++ dock_pairs b dwell) h
      (λ e. at_start (sym (eqb-true _ _ (every_at _ e 0))) (sym (eqb-true _ _ (every_at _ e 1))))
      (λ e k. elim (has_append (walk_pairs site ps a) (dock_pairs b dwell) c t k) [
        | inl l ↦ on_the_way (has_along ps a c t l)
        | inr r ↦ let (same, lo, hi) = in_run_to (cell_of site b.state) b.tick (b.tick + dwell) c t r in at_goal same lo hi
      ])

  pub held_pairs : (a : Node) (ps : List Step) (b : Node) (dwell c t : ℕ) → Holds site a ps b dwell c t → has_pair (plan_pairs site a ps b dwell) c t ≡ true
  unfolding plan_pairs
  held_pairs a ps b dwell c t (at_start same now) =
      any_here _ (record { cell = cell_of site a.state; tick = a.tick }) (walk_pairs site ps a ++ dock_pairs b dwell)
      (every_cons _ _ (eq-eqb (cell_of site a.state) c (sym same)) (every_cons _ _ (eq-eqb a.tick t (sym now)) every_nil))
  held_pairs a ps b dwell c t (on_the_way h) =
      any_there _ (record { cell = cell_of site a.state; tick = a.tick }) (walk_pairs site ps a ++ dock_pairs b dwell)
      (has_left (walk_pairs site ps a) (dock_pairs b dwell) c t (along_has h))
  held_pairs a ps b dwell c t (at_goal same lo hi) =
      any_there _ (record { cell = cell_of site a.state; tick = a.tick }) (walk_pairs site ps a ++ dock_pairs b dwell)
      (has_right (walk_pairs site ps a) (dock_pairs b dwell) c t (has_run_to (cell_of site b.state) b.tick (b.tick + dwell) c t same lo hi))

-- ---- the pairs that a valid plan holds are free

pub run_free : (f : Free) (c t n : ℕ) → all_free f (run c t n) ≡ all_from (f c) t n
unfolding all
run_free f c t zero = refl
run_free f c t (suc n) = ap (λ (b : Bool). f c t && b) (run_free f c (suc t) n)

module _ (site : Site) (f : Free) where
  swept_free : (ws : List Sweep) (t : ℕ) → sweeps_free f ws t ≡ true → all_free f (swept_pairs ws t) ≡ true
  swept_free [] t h = all_nil _
  swept_free (w ∷ ws) t h =
      let from : ℕ = t + w.first in
      let to : ℕ = t + w.last in
      all_append _ (run_to w.cell from to) (swept_pairs ws t)
      (run_free f w.cell from (suc to - from) ∙ all_head _ w ws h)
      (swept_free ws t (all_tail _ w ws h))

  step_free : (s : Step) (a : Node) → allowed site f s a ≡ true → all_free f (step_pairs site s a) ≡ true
  unfolding allowed
  step_free (wait n) a h = run_free f (cell_of site a.state) a.tick (suc (a.tick + n) - a.tick) ∙ every_at _ h 2
  step_free (move m) a h = swept_free (motion_at site m).sweeps a.tick (every_at _ h 2)

  walk_free : (ps : List Step) (a b : Node) → walk site f ps a ≡ some b → all_free f (walk_pairs site ps a) ≡ true
  unfolding walk
  walk_free [] a b h = all_nil _
  walk_free (s ∷ ps) a b h =
      let rest : Option Node = walk site f ps (after site s a) in
      all_append _ (step_pairs site s a) (walk_pairs site ps (after site s a))
      (step_free s a (when_test _ rest h))
      (walk_free ps (after site s a) b (when_value (allowed site f s a) rest h))

  dock_free : (b : Node) (dwell : ℕ) → can_unload site f b dwell ≡ true → all_free f (dock_pairs site b dwell) ≡ true
  unfolding can_unload
  dock_free b dwell h = run_free f (cell_of site b.state) b.tick (suc (b.tick + dwell) - b.tick) ∙ every_at _ h 0

  pub plan_free : (a : Node) (ps : List Step) (e b : Node) (dwell : ℕ) → plan_end site f a ps ≡ some e → can_unload site f b dwell ≡ true
      → all_free f (plan_pairs site a ps b dwell) ≡ true
  unfolding plan_end plan_pairs start_free
  plan_free a ps e b dwell h unloads =
      let starts : start_free site f a ≡ true = when_test _ (walk site f ps a) h in
      all_cons _ (record { cell = cell_of site a.state; tick = a.tick }) (walk_pairs site ps a ++ dock_pairs site b dwell) (every_at _ starts 2)
      (all_append _ (walk_pairs site ps a) (dock_pairs site b dwell)
      (walk_free ps a e (when_value (start_free site f a) (walk site f ps a) h)) (dock_free b dwell unloads))

pub plans_right : PlansRight
plans_right = record {
  walked = plan_valid;
  all_walked = valid_plan;
  marked = pairs_held;
  all_marked = held_pairs;
}
