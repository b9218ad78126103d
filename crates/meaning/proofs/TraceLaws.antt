-- The search is right: what the table's words say, that a found route is the earliest, that its steps are those of the traced rule
-- with adjoining waits merged, that this rule leaves no choice, and that a light of the steps fits its area.
-- Assumes nothing.
use Prim.Native.Nat.{ℕ, zero, suc, ◌+◌, ◌-◌, ◌*◌, ◌≤◌, ◌<◌}
use native.Mathlib.Nat.{not-suc-le-zero}
use native.Mathlib.Omega.{arith}
use mathlib.Core.Path.{◌≡◌, refl, sym, ap, ap₂, ◌∙◌, subst}
use mathlib.Core.Bool.{Bool, true, false, false≢true, true≢false}
use mathlib.Core.Option.{Option, some}
use mathlib.Core.List.{List, [], ◌∷◌}
use borrow.Author.Tests.{lt-ltb}
use lib.ListN.{length}
use Rattle.meaning.specs.Limits.{motion_limit}
use Rattle.meaning.specs.Basics.{all}
use Rattle.meaning.specs.Site.{Site, Motion, motion_at}
use Rattle.meaning.specs.Board.{Free}
use Rattle.meaning.specs.Plan.{Step, wait, move, Node, allowed, after, walk, node as at}
use Rattle.meaning.specs.Reach.{rows_to, reached, word_in, wait_one, trace, Route, find_route}
use Rattle.meaning.specs.Light.{Light, encode}
use Rattle.meaning.specs.Calls.{step_named}
use Rattle.meaning.specs.ValidPlans.{Leads, Valid, ValidPlan, Reached, StepTo, Traced, begun, took_wait, took_motion, merge_waits}
use Rattle.meaning.specs.WellFormed.{WellFormed, InLayout}
use Rattle.meaning.specs.Laws.{SearchRight}
use Rattle.meaning.proofs.BasicsLaws.{every_nil, every_cons, when_test, when_value, all_nil, all_cons}
use Rattle.meaning.proofs.PlanLaws.{walk_leads, leads_walk, plan_valid, valid_plan, can_unload_lem, unload_can}
use Rattle.meaning.proofs.LightLaws.{length_encode}
use Rattle.meaning.proofs.ReachLaws.{Merged, wait_one_merged, span_pos, move_known, move_from, move_ends, wait_ends, walk_step, waited, arrives, move_arrives, Came, at_start, by_wait_lem, by_move, came_here, trace_start, trace_wait, trace_move, word_row, Found, reached_sound, plan_reached, reached_complete, Arrives, found_arrives, route_valid, route_unloads, route_earliest, route_none}

-- ---- one step

module _ (site : Site) (f : Free) where
  step_leads : (p : Step) (b : Node) → allowed site f p b ≡ true → Leads site f b (p ∷ []) (after site p b)
  unfolding walk
  step_leads p b ok = walk_leads site f (p ∷ []) b (after site p b) (walk_step site f p [] b ok)

  leads_step : (p : Step) (b here : Node) → Leads site f b (p ∷ []) here → (allowed site f p b ≡ true) × (after site p b ≡ here)
  unfolding walk
  leads_step p b here l =
      let h : walk site f (p ∷ []) b ≡ some here = leads_walk site f l in
      let to : some (after site p b) ≡ some here = when_value (allowed site f p b) (some (after site p b)) h in
      (when_test _ (some (after site p b)) h, cc)

  -- a step and the node that it leads to give the node before
  one_before : (p : Step) (b c here : Node) → Leads site f b (p ∷ []) here → Leads site f c (p ∷ []) here → b ≡ c
  one_before (wait n) b c here l m =
      let (ok_b, to_b) = leads_step (wait n) b here l in
      let (ok_c, to_c) = leads_step (wait n) c here m in
      let same : after site (wait n) b ≡ after site (wait n) c = to_b ∙ sym to_c in
      let ticks : b.tick + n ≡ c.tick + n = ap (λ (x : Node). x.tick) same in
      ap₂ at (ap (λ (x : Node). x.state) same) (omega arith)
  one_before (move m) b c here l k =
      let (ok_b, to_b) = leads_step (move m) b here l in
      let (ok_c, to_c) = leads_step (move m) c here k in
      let same : after site (move m) b ≡ after site (move m) c = to_b ∙ sym to_c in
      let ticks : b.tick + (motion_at site m).span ≡ c.tick + (motion_at site m).span = ap (λ (x : Node). x.tick) same in
      ap₂ at (sym (move_from site f m b ok_b) ∙ move_from site f m c ok_c) (omega arith)

-- ---- the traced rule leaves no choice

same_number : (m k : ℕ) → (m < k → ⊥) → (k < m → ⊥) → m ≡ k
same_number m k no_less no_more = omega arith

module _ (site : Site) (f : Free) (a : Node) where
  same_trace : {b : Node} {back other : List Step} → Traced site f a b back → Traced site f a b other → back ≡ other
  same_trace (begun e) (begun q) = refl
  same_trace (begun e) (took_wait away step u) = absurd (away e)
  same_trace (begun e) (took_motion away no_wait step lowest u) = absurd (away e)
  same_trace (took_wait away step t) (begun q) = absurd (away q)
  same_trace (took_wait {b = b} {here = here} away step t) (took_wait {b = c} {back = other} too step_too u) =
      let same : c ≡ b = one_before site f (wait 1) c b here step_too.allowed step.allowed in
      ap (λ (ps : List Step). wait 1 ∷ ps) (same_trace t (subst (λ (n : Node). Traced site f a n other) same u))
  same_trace (took_wait {b = b} away step t) (took_motion too no_wait step_too lowest u) = absurd (no_wait b step)
  same_trace (took_motion away no_wait step lowest t) (begun q) = absurd (away q)
  same_trace (took_motion away no_wait step lowest t) (took_wait {b = c} too step_too u) = absurd (no_wait c step_too)
  same_trace (took_motion {b = b} {here = here} {m = m} away no_wait step lowest t)
      (took_motion {b = c} {m = k} {back = other} too no_wait_too step_too lowest_too u) =
      let same_motion : k ≡ m = same_number k m (λ lt. lowest k c lt step_too) (λ lt. lowest_too m b lt step) in
      let step_k : StepTo site f a (move m) c here = subst (λ (j : ℕ). StepTo site f a (move j) c here) same_motion step_too in
      let same : c ≡ b = one_before site f (move m) c b here step_k.allowed step.allowed in
      ap₂ (λ (j : ℕ) (ps : List Step). move j ∷ ps) (sym same_motion) (same_trace t (subst (λ (n : Node). Traced site f a n other) same u))

-- ---- the trace of the table follows the rule

-- a wait of one tick in front of the steps, merged
merge_one : (back ps : List Step) → merge_waits (wait 1 ∷ back) ps ≡ merge_waits back (wait_one ps)
merge_one back [] = refl
merge_one back (move m ∷ ps) = refl
merge_one back (wait n ∷ ps) = ap (λ (j : ℕ). merge_waits back (wait j ∷ ps)) (omega arith)

module _ (site : Site) (well : WellFormed site) (f : Free) (a : Node) where
  -- the words and the relation
  pub reached_pair : (k s : ℕ) → reached site f a k s ≡ true → Reached site f a (at s (a.tick + k))
  reached_pair k s r =
      let (ps, h) = reached_sound site well f a k s r in
      record { steps = ps; valid = plan_valid site f a ps (at s (a.tick + k)) h }

  pair_found : (b : Node) → Reached site f a b → Found site well f a b
  pair_found b r = plan_reached site well f a r.steps b (valid_plan site f a r.steps b r.valid)

  pub pair_reached : (k s : ℕ) → Reached site f a (at s (a.tick + k)) → reached site f a k s ≡ true
  pair_reached k s r = reached_complete site well f a k s r.steps (valid_plan site f a r.steps (at s (a.tick + k)) r.valid)

  -- a step from a reached pair passes the test of the word
  step_waited : (k s : ℕ) (c : Node) → StepTo site f a (wait 1) c (at s (a.tick + suc k)) → waited site f a k s ≡ true
  step_waited k s c step =
      let (ok, to) = leads_step site f (wait 1) c (at s (a.tick + suc k)) step.allowed in
      let ticks : c.tick + 1 ≡ a.tick + suc k = ap (λ (x : Node). x.tick) to in
      let same : c ≡ at s (a.tick + k) = ap₂ at (ap (λ (x : Node). x.state) to) (omega arith) in
      every_cons _ _ (pair_reached k s (subst (Reached site f a) same step.reached))
      (every_cons _ _ (subst (λ (x : Node). allowed site f (wait 1) x ≡ true) same ok) every_nil)

  step_arrives : (k s m : ℕ) (c : Node) → StepTo site f a (move m) c (at s (a.tick + suc k)) → arrives site f a k s m ≡ true
  step_arrives k s m c step =
      let (ok, to) = leads_step site f (move m) c (at s (a.tick + suc k)) step.allowed in
      let ticks : c.tick + (motion_at site m).span ≡ a.tick + suc k = ap (λ (x : Node). x.tick) to in
      let from : (motion_at site m).from ≡ c.state = move_from site f m c ok in
      let (j, since, in_time, r) = pair_found c step.reached in
      let same : c ≡ at (motion_at site m).from (a.tick + j) = ap₂ at (sym from) since in
      move_arrives site f a k s m j (ap (λ (x : Node). x.state) to) (omega arith) (rw from r)
      (subst (λ (x : Node). allowed site f (move m) x ≡ true) same ok)

  -- a later tick is not the start's
  not_start : (k s : ℕ) → a ≡ at s (a.tick + suc k) → ⊥
  not_start k s e = let ticks : a.tick ≡ a.tick + suc k = ap (λ (x : Node). x.tick) e in omega arith

  module _ (n : ℕ) where
    -- steps of the rule that, merged in front of any others, are the traced ones
    abbrev Follows : ℕ → ℕ → ℕ → Type 0
    Follows fuel k s =
        (back : List Step) × Traced site f a (at s (a.tick + k)) back
        × ((ps : List Step) → trace site (rows_to site f a n) n fuel k s ps ≡ merge_waits back ps)

    follows_came : (fuel : ℕ) → ((k s : ℕ) → k ≤ n → k < fuel → reached site f a k s ≡ true → Follows fuel k s)
        → {k s w : ℕ} → Came site f a k s w → k ≤ n → k < suc fuel → word_in (rows_to site f a n) n k s ≡ w → Follows (suc fuel) k s
    follows_came fuel ih (at_start {s = s} same free_there) h hf e =
        let start_tick : a.tick ≡ a.tick + 0 = omega arith in
        ([], begun {b = at s (a.tick + 0)} (ap₂ at (sym same) start_tick), λ ps. trace_start site (rows_to site f a n) n fuel 0 s ps e)
    follows_came fuel ih (by_wait_lem {k = k} {s = s} r ok) h hf e =
        let (back, t, same) = ih k s (omega arith) (omega arith) r in
        let later : after site (wait 1) (at s (a.tick + k)) ≡ at s (a.tick + suc k) = ap₂ at refl (omega arith) in
        let before : suc k - 1 ≡ k = omega arith in
        let step : Leads site f (at s (a.tick + k)) (wait 1 ∷ []) (at s (a.tick + suc k)) =
        subst (Leads site f (at s (a.tick + k)) (wait 1 ∷ [])) later (step_leads site f (wait 1) (at s (a.tick + k)) ok) in (
          wait 1 ∷ back,
          took_wait (not_start k s) (record { reached = reached_pair k s r; allowed = step }) t,
          λ ps.
              trace_wait site (rows_to site f a n) n fuel (suc k) s ps e
              ∙ ap (λ (j : ℕ). trace site (rows_to site f a n) n fuel j s (wait_one ps)) before
              ∙ same (wait_one ps)
              ∙ sym (merge_one back ps),
        )
    follows_came fuel ih (by_move {k = k} {s = s} m j same_to same_tick r ok no_wait lowest) h hf e =
        let x : Motion = motion_at site m in
        let b : Node = at x.from (a.tick + j) in
        let pos : 1 ≤ x.span = span_pos site well m (move_known site f m b ok) in
        let (back, t, same) = ih j x.from (omega arith) (omega arith) r in
        let end : a.tick + j + x.span ≡ a.tick + suc k = omega arith in
        let later : after site (move m) b ≡ at s (a.tick + suc k) = ap₂ at same_to end in
        let before : suc k - x.span ≡ j = omega arith in
        let step : Leads site f b (move m ∷ []) (at s (a.tick + suc k)) =
        subst (Leads site f b (move m ∷ [])) later (step_leads site f (move m) b ok) in (
          move m ∷ back,
          took_motion (not_start k s)
              (λ c wait_step. true≢false (sym (step_waited k s c wait_step) ∙ no_wait))
              (record { reached = reached_pair j x.from r; allowed = step })
              (λ l c lt lower. true≢false (sym (step_arrives k s l c lower) ∙ lowest l lt))
              t,
          λ ps.
              trace_move site (rows_to site f a n) n fuel (suc k) s ps m e
              ∙ ap (λ (i : ℕ). trace site (rows_to site f a n) n fuel i x.from (move m ∷ ps)) before
              ∙ same (move m ∷ ps),
        )

    trace_follows : (fuel k s : ℕ) → k ≤ n → k < fuel → reached site f a k s ≡ true → Follows fuel k s
    trace_follows zero k s h hf r = absurd (not-suc-le-zero hf)
    trace_follows (suc fuel) k s h hf r = follows_came fuel (trace_follows fuel) (came_here site well f a k s r) h hf (word_row site well f a n k s h)

  found_valid : (goal dwell : ℕ) (r : Route) → find_route site f a goal dwell ≡ some r → ValidPlan site f a r.steps (at goal r.arrival) dwell
  found_valid goal dwell r h = record {
    valid = plan_valid site f a r.steps (at goal r.arrival) (route_valid site well f a goal dwell r h);
    unloads = can_unload_lem site f (at goal r.arrival) dwell (route_unloads site well f a goal dwell r h);
  }

  found_traced : (goal dwell : ℕ) (r : Route) → find_route site f a goal dwell ≡ some r
      → (back : List Step) × Traced site f a (at goal r.arrival) back × (r.steps ≡ merge_waits back [])
  found_traced goal dwell r h =
      let got : Arrives site well f a goal dwell r = found_arrives site well f a goal dwell r h in
      let k : ℕ = got.after_start in
      let (back, t, same) = trace_follows (site.horizon - a.tick) (suc k) k goal got.in_time (omega arith) got.here in
      (back, subst (λ (u : ℕ). Traced site f a (at goal u) back) (sym got.on_tick) t, got.traced ∙ same [])

-- ---- found steps fit their fields, and take a tick or more each

module _ (site : Site) (f : Free) (a : Node) where
  traced_merged : {b : Node} {back : List Step} → Traced site f a b back → (ps : List Step) → Merged true ps → Merged true (merge_waits back ps)
  traced_merged (begun e) ps m = m
  traced_merged (took_wait {back = back} away step t) ps m =
      subst (Merged true) (sym (merge_one back ps)) (traced_merged t (wait_one ps) (wait_one_merged ps m))
  traced_merged (took_motion {m = j} away no_wait step lowest t) ps m = traced_merged t (move j ∷ ps) m

module _ (site : Site) (well : WellFormed site) (f : Free) where
  -- the steps keep the layout and name motions of the site, and from the tick t to u there are no more of them than ticks
  abbrev Small : Bool → List Step → ℕ → ℕ → Type 0
  Small may_wait ps t u = InLayout may_wait ps × (all (step_named site) ps ≡ true) × (t + length ps ≤ u) × (u ≤ site.horizon)

  walked_small : (may_wait : Bool) (ps : List Step) (b e : Node) → b.tick ≤ site.horizon → Merged may_wait ps → walk site f ps b ≡ some e
      → Small may_wait ps b.tick e.tick
  unfolding walk
  walked_small may_wait [] b e early m h =
      let same : b ≡ e = cc in
      let same_tick : b.tick ≡ e.tick = ap (λ (x : Node). x.tick) same in
      (tt, all_nil _, omega arith, omega arith)
  walked_small may_wait (wait n ∷ ps) b e early (may, pos, m) h =
      let rest : Option Node = walk site f ps (after site (wait n) b) in
      let ok : allowed site f (wait n) b ≡ true = when_test _ rest h in
      let in_time : b.tick + n ≤ site.horizon = wait_ends site f n b ok in
      let (low, most) = well.horizon_range in
      let (laid, named, few, end) = walked_small false ps (after site (wait n) b) e in_time m (when_value (allowed site f (wait n) b) rest h) in
      ((may, pos, omega arith, laid), all_cons (step_named site) (wait n) ps refl named, omega arith, end)
  walked_small may_wait (move j ∷ ps) b e early m h =
      let rest : Option Node = walk site f ps (after site (move j) b) in
      let ok : allowed site f (move j) b ≡ true = when_test _ rest h in
      let known : j < length site.motions = move_known site f j b ok in
      let pos : 1 ≤ (motion_at site j).span = span_pos site well j known in
      let in_time : b.tick + (motion_at site j).span ≤ site.horizon = move_ends site f j b ok in
      let most : length site.motions ≤ motion_limit = well.motions_range in
      let (laid, named, few, end) = walked_small true ps (after site (move j) b) e in_time m (when_value (allowed site f (move j) b) rest h) in
      ((omega arith, laid), all_cons (step_named site) (move j) ps (lt-ltb _ _ known) named, omega arith, end)

pub found_steps : (site : Site) → WellFormed site → (f : Free) (a : Node) (goal dwell : ℕ) (r : Route) → find_route site f a goal dwell ≡ some r
    → InLayout true r.steps × (all (step_named site) r.steps ≡ true) × (a.tick + length r.steps ≤ r.arrival) × (r.arrival ≤ site.horizon)
found_steps site well f a goal dwell r h =
    let valid : Valid site f a r.steps (at goal r.arrival) = (found_valid site well f a goal dwell r h).valid in
    let (back, t, same) = found_traced site well f a goal dwell r h in
    walked_small site well f true r.steps a (at goal r.arrival) valid.tick_known
    (subst (Merged true) (sym same) (traced_merged site f a t [] tt)) (leads_walk site f valid.leads)

-- ---- the search is right

route_fits : (site : Site) → WellFormed site → (f : Free) (a : Node) (goal dwell : ℕ) (r : Route) → find_route site f a goal dwell ≡ some r
    → (l : Light) → l.steps ≡ r.steps → length (encode l) ≤ 18 + 5 * site.horizon
route_fits site well f a goal dwell r h l same =
    let (laid, named, few, in_time) = found_steps site well f a goal dwell r h in
    let size : length (encode l) ≡ 18 + 5 * length l.steps = length_encode l in
    let steps : length l.steps ≡ length r.steps = ap length same in
    omega arith

pub search_right : SearchRight
search_right =
    record {
      pointed = λ site well f a k s w e. reached_pair site well f a k s (rw e);
      all_pointed = λ site well f a k s r e. false≢true (rw e at (pair_reached site well f a k s r));
      found = λ site well f a goal dwell ps t v e.
          route_none site well f a goal dwell t ps e (valid_plan site f a ps (at goal t) v.valid) (unload_can site f (at goal t) dwell v.unloads);
      earliest = λ site well f a goal dwell r e.
          record {
            reached = record { steps = r.steps; valid = (found_valid site well f a goal dwell r e).valid };
            unloads = (found_valid site well f a goal dwell r e).unloads;
            least = λ u p unloads.
                route_earliest site well f a goal dwell u r p.steps e (valid_plan site f a p.steps (at goal u) p.valid) (unload_can site f (at goal u) dwell unloads);
          };
      valid = found_valid;
      traced = found_traced;
      one_trace = λ site f a b back other t u. same_trace site f a t u;
      fits = route_fits;
    }
