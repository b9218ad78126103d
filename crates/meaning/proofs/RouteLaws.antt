-- A route call that passes checks 1 to 14 is granted exactly when a valid plan exists, with an earliest one.
-- Assumes nothing.
use Prim.Native.Nat.{ℕ, ◌≤◌, ◌<◌}
use native.Mathlib.Omega.{arith}
use mathlib.Core.Path.{◌≡◌, refl, sym, ap, ◌∙◌, subst}
use mathlib.Core.Bool.{true, false}
use mathlib.Core.Option.{Option, some}
use mathlib.Core.List.{List, [], ◌∷◌, ◌++◌}
use lib.ListN.{length, take, drop}
use lib.Seq.{take-append_seam}
use Rattle.meaning.specs.Limits.{horizon_limit, state_limit, dwell_limit, last_edition}
use Rattle.meaning.specs.Basics.{is_none}
use Rattle.meaning.specs.Answers.{Clears}
use Rattle.meaning.specs.Site.{Site, site_of}
use Rattle.meaning.specs.Board.{Free, free, edition}
use Rattle.meaning.specs.Plan.{Step, Node}
use Rattle.meaning.specs.Reach.{Route, find_route}
use Rattle.meaning.specs.Light.{Light, start_of, encode, decode}
use Rattle.meaning.specs.Calls.{route, listed, bytes_view, Lent, refusals, route_found, granted_light, Done, accepted_done, meant}
use Rattle.meaning.specs.ValidPlans.{ValidPlan, Traced, merge_waits}
use Rattle.meaning.specs.WellFormed.{WellFormed, InLayout, KeepsLayout}
use Rattle.meaning.specs.Demands.{light_out, RouteRight}
use Rattle.meaning.proofs.BasicsLaws.{options}
use Rattle.meaning.proofs.HolderLaws.{holders_right}
use Rattle.meaning.proofs.LightLaws.{decode_encode}
use Rattle.meaning.proofs.TraceLaws.{found_steps, search_right}
use Rattle.meaning.proofs.CallLaws.{meant_accepted, PassesTo14, passes_to_14, search_found, search_none, granted_found, named_start, named_tick, named_goal, named_dwell}

module _ (file : List ℕ) (well : WellFormed (site_of file)) (l : Lent) (fits : edition l.board ≤ last_edition) (tug : ℕ) (a : Node) (goal dwell : ℕ)
    (clears : Clears 14 (refusals file l (listed (route tug a goal dwell)))) where
  abbrev site : Site
  site = site_of file

  abbrev f : Free
  f = free site l.board

  abbrev d : Done
  d = meant file l (listed (route tug a goal dwell))

  abbrev granted : Light
  granted = granted_light site (bytes_view site l.board) tug a goal dwell

  passes : PassesTo14 site l tug a goal dwell
  passes = passes_to_14 file l tug a goal dwell clears

  -- the search found nothing, or a route
  is_found : (ps : List Step) (t : ℕ) → ValidPlan site f a ps (record { state = goal; tick = t }) dwell → is_none (find_route site f a goal dwell) ≡ false
  is_found ps t v =
      options (find_route site f a goal dwell)
      (λ e. absurd (search_right.found site well f a goal dwell ps t v e))
      (λ r e. ap is_none e)

  is_none_lem : ((ps : List Step) (t : ℕ) → ValidPlan site f a ps (record { state = goal; tick = t }) dwell → ⊥) → is_none (find_route site f a goal dwell) ≡ true
  is_none_lem never =
      options (find_route site f a goal dwell)
      (λ e. ap is_none e)
      (λ r e. absurd (never r.steps r.arrival (search_right.valid site well f a goal dwell r e)))

  -- the light of a found route
  module _ (r : Route) (e : find_route site f a goal dwell ≡ some r) where
    light_steps : granted.steps ≡ r.steps
    unfolding granted_light bytes_view
    light_steps = ap (λ (o : Option Route). (route_found o).steps) e

    light_arrival : granted.arrival ≡ r.arrival
    unfolding granted_light bytes_view
    light_arrival = ap (λ (o : Option Route). (route_found o).arrival) e

    keeps : KeepsLayout granted
    unfolding granted_light bytes_view
    keeps =
        let (laid, named, few, in_time) = found_steps site well f a goal dwell r e in
        let most : site.horizon ≤ horizon_limit = well.horizon_range.1 in
        let states : length site.states ≤ state_limit = well.states_range.1 in
        let start_known : a.state < length site.states = named_start site a goal dwell passes.named in
        let start_early : a.tick ≤ site.horizon = named_tick site a goal dwell passes.named in
        let goal_known : goal < length site.states = named_goal site a goal dwell passes.named in
        let dwell_small : dwell ≤ dwell_limit = named_dwell site a goal dwell passes.named in
        let (tug_low, tug_high) = holders_right.tugs tug passes.is_tug_lem in
        let arrives : granted.arrival ≡ r.arrival = light_arrival in
        let steps : length granted.steps ≡ length r.steps = ap length light_steps in
        record {
          edition_fits = fits;
          tug_fits = omega arith;
          start_fits = omega arith;
          tick_fits = omega arith;
          goal_fits = omega arith;
          arrival_fits = omega arith;
          dwell_fits = omega arith;
          laid_out = subst (λ (ps : List Step). InLayout true ps) (sym light_steps) laid;
          short = omega arith;
        }

  abbrev LightSays : Done → Type 0
  LightSays x =
      (y : Light)
      × (decode (light_out x) ≡ some y)
      × (y.edition ≡ edition l.board) × (y.tug ≡ tug) × (start_of y ≡ a) × (y.goal ≡ goal) × (y.dwell ≡ dwell)
      × (x.values ≡ length (light_out x) ∷ y.arrival ∷ [])
      × ValidPlan site f a y.steps (record { state = goal; tick = y.arrival }) dwell
      × ((ps : List Step) (t : ℕ) → ValidPlan site f a ps (record { state = goal; tick = t }) dwell → y.arrival ≤ t)
      × ((back : List Step) × Traced site f a (record { state = goal; tick = y.arrival }) back × (y.steps ≡ merge_waits back []))

  light_says : (r : Route) → find_route site f a goal dwell ≡ some r → LightSays (accepted_done site l (listed (route tug a goal dwell)))
  unfolding accepted_done granted_light bytes_view
  light_says r e =
      let bytes : List ℕ = encode granted in
      let front : take (length bytes) (bytes ++ drop (length bytes) l.out) ≡ bytes = take-append_seam bytes (drop (length bytes) l.out) in
      let steps : granted.steps ≡ r.steps = light_steps r e in
      let arrives : granted.arrival ≡ r.arrival = light_arrival r e in (
        granted,
        ap decode front ∙ decode_encode granted (keeps r e),
        refl,
        refl,
        refl,
        refl,
        refl,
        ap {B = List ℕ} (λ n. n ∷ granted.arrival ∷ []) (ap length (sym front)),
        rw (steps, arrives) (search_right.valid site well f a goal dwell r e),
        λ ps t v. rw arrives ((search_right.earliest site well f a goal dwell r e).least t (record { steps = ps; valid = v.valid }) v.unloads),
        rw (steps, arrives) (search_right.traced site well f a goal dwell r e),
      )

  pub route_right : RouteRight site l.board tug a goal dwell d
  unfolding bytes_view
  route_right = record {
    granted_if = λ ps t v. search_found file l tug a goal dwell clears (is_found ps t v);
    refused_if = λ never. search_none file l tug a goal dwell clears (is_none_lem never);
    light = λ z.
        let (r, e) = granted_found file l tug a goal dwell z in
        subst LightSays (sym (meant_accepted file l (listed (route tug a goal dwell)) z)) (light_says r e);
  }
