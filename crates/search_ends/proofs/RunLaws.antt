-- The run of free ticks from each tick on, from the last tick down, and what it says of unloading.
-- Assumes nothing.
use Prim.Native.Nat.{ℕ, zero, suc, ◌+◌, ◌-◌, ◌≤◌, ◌<◌}
use native.Mathlib.Omega.{arith}
use mathlib.Core.Path.{◌≡◌, refl, sym, ap, ap₂, ◌∙◌}
use mathlib.Core.Bool.{Bool, true, false, cond}
use mathlib.Core.List.{List}
use lib.Dec.{ltb, eqb}
use lib.ListN.{length, get_or, set, length-set}
use lib.Seq.{get_or-set_same, get_or-set_other}
use borrow.Author.Tests.{lt-ltb, ltb-true, ltb-false, eqb-true, eqb-false}
use Rattle.meaning.specs.Site.{Site, cell_of}
use Rattle.meaning.specs.Board.{Free}
use Rattle.meaning.specs.Plan.{node, can_unload}
use Rattle.meaning.specs.ValidPlans.{Unloads}
use Rattle.meaning.proofs.BasicsLaws.{decide, same_test}
use Rattle.meaning.proofs.PlanLaws.{can_unload_lem, unload_can}
use Rattle.search_sizes.specs.Sizes.{ticks}
use Rattle.search_ends.specs.Ends.{EndsRight}

-- how many of the n ticks from t on are free without a gap
unfoldable pub free_run : (ℕ → Bool) → ℕ → ℕ → ℕ
free_run free t zero = 0
free_run free t (suc n) = cond (free t) (suc (free_run free (suc t) n)) 0

module _ (frees : ℕ → Bool) where
  -- each tick of the run is free
  run_free : (t n x : ℕ) → t ≤ x → x < t + free_run frees t n → frees x ≡ true
  unfolding free_run
  run_free t zero x lo hi = absurd (omega arith)
  run_free t (suc n) x lo hi =
      decide (frees t)
      (λ h. let in_run : x < t + suc (free_run frees (suc t) n) = rw h at hi in
      decide (ltb t x)
      (λ k. let after = ltb-true t x k in run_free (suc t) n x (omega arith) (omega arith))
      (λ k. let same : x ≡ t = omega (arith, ltb-false t x k) in rw same h))
      (λ h. let none : x < t + 0 = rw h at hi in absurd (omega arith))

  -- and free ticks that are looked at are a run
  run_long : (t n d : ℕ) → d < n → ((x : ℕ) → t ≤ x → x ≤ t + d → frees x ≡ true) → d < free_run frees t n
  unfolding free_run
  run_long t zero d few all = absurd (omega arith)
  run_long t (suc n) zero few all = rw (all t (omega arith) (omega arith)) (omega arith)
  run_long t (suc n) (suc d) few all =
      let later : d < free_run frees (suc t) n = run_long (suc t) n d (omega arith) (λ x lo hi. all x (omega arith) (omega arith)) in
      rw (all t (omega arith) (omega arith)) (omega arith)

  run_fits : (t n : ℕ) → free_run frees t n ≤ n
  unfolding free_run
  run_fits t zero = omega arith
  run_fits t (suc n) = decide (frees t) (λ h. rw h (let le = run_fits (suc t) n in omega arith)) (λ h. rw h (omega arith))

  -- one tick earlier
  run_earlier : (horizon t later : ℕ) → 0 < t → t ≤ horizon + 1 → later ≡ free_run frees t (horizon + 1 - t)
      → cond (frees (t - 1)) (later + 1) 0 ≡ free_run frees (t - 1) (horizon + 1 - (t - 1))
  unfolding free_run
  run_earlier horizon t later pos early is =
      let left : horizon + 1 - (t - 1) ≡ suc (horizon + 1 - t) = omega arith in
      let next : suc (t - 1) ≡ t = omega arith in
      rw left (decide (frees (t - 1)) (λ h. rw (h, next, is) (omega arith)) (λ h. rw h))

-- a run that is longer than the dwell is room to unload
unload_run : (site : Site) (f : Free) (goal dwell t : ℕ) → t ≤ site.horizon
    → can_unload site f (node goal t) dwell ≡ ltb dwell (free_run (f (cell_of site goal)) t (site.horizon + 1 - t))
unload_run site f goal dwell t early =
    let fits = run_fits (f (cell_of site goal)) t (site.horizon + 1 - t) in
    same_test _ _
    (λ h. let u : Unloads site f (node goal t) dwell = can_unload_lem site f (node goal t) dwell h in
    let in_time : t + dwell ≤ site.horizon = u.in_time in
    lt-ltb _ _ (run_long (f (cell_of site goal)) t (site.horizon + 1 - t) dwell (omega arith) u.dock_free))
    (λ h. let long : dwell < free_run (f (cell_of site goal)) t (site.horizon + 1 - t) = ltb-true _ _ h in
    unload_can site f (node goal t) dwell (record {
      dock_free = λ x lo hi.
          let from : t ≤ x = lo in
          let to : x ≤ t + dwell = hi in
          run_free (f (cell_of site goal)) t (site.horizon + 1 - t) x from (omega arith);
      in_time = omega arith;
    }))

-- ---- the loop: the ticks from t on have been looked at

-- the run from t on, and the ends from t on, where these are the free ticks of the cell
pub record Looked (frees : ℕ → Bool) (horizon tick dwell : ℕ) (ends : List Bool) (t run : ℕ) : Type 0 where
  pub late : tick ≤ t
  pub early : t ≤ horizon + 1
  pub sized : length ends ≡ ticks
  pub run_is : run ≡ free_run frees t (horizon + 1 - t)
  pub ends_are : (x : ℕ) → t ≤ x → x ≤ horizon → get_or ends x false ≡ ltb dwell (free_run frees x (horizon + 1 - x))

module _ (frees : ℕ → Bool) (horizon tick dwell : ℕ) where
  pub looked_from : (ends : List Bool) → length ends ≡ ticks → tick ≤ horizon → Looked frees horizon tick dwell ends (horizon + 1) 0
  unfolding free_run
  looked_from ends sized in_time =
      let none : horizon + 1 - (horizon + 1) ≡ 0 = omega arith in
      record { late = omega arith; early = omega arith; sized = sized; run_is = rw none refl; ends_are = λ x lo hi. absurd (omega arith) }

  pub looked_short : (ends : List Bool) (t run : ℕ) → Looked frees horizon tick dwell ends t run → run ≤ horizon + 1
  looked_short ends t run g = omega (arith, g.run_is, run_fits frees t (horizon + 1 - t))

  pub looked_more : (ends : List Bool) (t run next : ℕ) → tick < t → horizon < ticks → next ≡ cond (frees (t - 1)) (run + 1) 0
      → Looked frees horizon tick dwell ends t run → Looked frees horizon tick dwell (set ends (t - 1) (ltb dwell next)) (t - 1) next
  looked_more ends t run next more room is g =
      let early = g.early in
      let size = g.sized in
      let is_run : next ≡ free_run frees (t - 1) (horizon + 1 - (t - 1)) = is ∙ run_earlier frees horizon t run (omega arith) early g.run_is in
      record {
        late = omega arith;
        early = omega arith;
        sized = simp length-set g.sized;
        run_is = is_run;
        ends_are = λ x lo hi. decide (eqb x (t - 1))
            (λ u. let here : x ≡ t - 1 = eqb-true x (t - 1) u in
            rw here (get_or-set_same ends (t - 1) (ltb dwell next) false (omega arith) ∙ ap (ltb dwell) is_run))
            (λ u. let other = eqb-false x (t - 1) u in
            get_or-set_other ends (t - 1) x (ltb dwell next) false other ∙ g.ends_are x (omega arith) hi);
      }

  -- all are looked at
  pub looked_all : (ends : List Bool) (t run : ℕ) → t ≤ tick → Looked frees horizon tick dwell ends t run
      → (site : Site) (f : Free) (goal : ℕ) → horizon ≡ site.horizon → frees ≡ f (cell_of site goal) → EndsRight site f goal dwell tick ends
  looked_all ends t run done g site f goal same is x lo hi =
      let can : can_unload site f (node goal x) dwell ≡ ltb dwell (free_run frees x (horizon + 1 - x)) =
      unload_run site f goal dwell x hi ∙ sym (ap₂ (λ (h : ℕ) (p : ℕ → Bool). ltb dwell (free_run p x (h + 1 - x))) same is) in
      g.ends_are x (omega arith) (omega (arith, same, hi)) ∙ sym can
