-- Laws of route: what its work asks, and what is meant of a route that was granted, that found no plan, and that was refused before.
-- Assumes nothing.
use Prim.Native.Nat.{ℕ, ◌+◌, ◌-◌, ◌≤◌, ◌<◌}
use native.Mathlib.Omega.{arith}
use mathlib.Core.Path.{◌≡◌, refl, sym, ap, ◌∙◌}
use mathlib.Core.Option.{none, some}
use mathlib.Core.Option as Math
use mathlib.Core.List.{List, []}
use lib.ListN.{length, replicate, drop, get_or, length-replicate}
use Rattle.std.proofs.Common.{length-drop, length-append}
use Rattle.std.proofs.lemmas.Bool.{cases_lt}
use mathlib.Core.Logic.{◌⊎◌, inl, inr}
use Rattle.std.proofs.lemmas.List.{ext_get_or, get_or-replicate, get_or-drop, get_or_append_left, get_or-append_right}
use Rattle.std.specs.Prelude.{ok_or, Option, Result, Ok, Err, IsErr, IsErrAnd}
use Rattle.meaning.specs.Answers.{lowest}
use Rattle.meaning.specs.Site.{Site, site_of}
use Rattle.meaning.specs.Board.{free}
use Rattle.meaning.specs.Reach.{Route, find_route}
use Rattle.meaning.specs.Light.{Light}
use Rattle.meaning.specs.Calls.{opening, on_board, listed, route, bytes_view, granted_light, Room, room_of, light_room, words_needed, Lent, lends, over, refusals, Done, granted_done, accepted_done, meant}
use Rattle.meaning.proofs.CallLaws.{PassesTo14}
use Rattle.meaning.specs.Plan.{node}
use Rattle.site.specs.Check.{sizes_of}
use Rattle.site.specs.Halls.{site_in}
use Rattle.site.specs.declared.hall.Hall.{Hall}
use Rattle.site.specs.declared.Trip.{Trip}
use Rattle.checks_route.specs.Checks.{route_checks}
use Rattle.checks_route.proofs.RouteLaws as routes
use Rattle.search_plan.specs.Planned.{Asked, route_on}
use Rattle.search.specs.Finds.{light_on, found_of, out_of}
use Rattle.answers.specs.declared.Granted.{Granted}
use Rattle.answers.specs.declared.Refusal.{Refusal}
use Rattle.answers.specs.declared.Refusal.TheVariants.{NoPlan}
use Rattle.answers.specs.Answers.{number, number_of, granted_values}

-- ---- by the answer of the checks

-- the answer, and the two areas after the call, are those of what is meant
pub record Leaves (d : Done) (r : Result Granted Refusal) (out words : List ℕ) : Type 0 where
  pub number : number_of r ≡ d.number
  pub values : granted_values r ≡ d.values
  pub out_after : out ≡ d.lent.out
  pub work_after : words ≡ d.lent.words

-- the first n words are zero, and no other has changed
pub record Cleared (n : ℕ) (old new : List ℕ) : Type 0 where
  pub sized : length new ≡ length old
  pub zeros : (i : ℕ) → i < n → get_or new i 0 ≡ 0
  pub kept : (i : ℕ) → n ≤ i → get_or new i 0 ≡ get_or old i 0

pub cleared_over : (n : ℕ) (old new : List ℕ) → n ≤ length old → Cleared n old new → new ≡ over (replicate n 0) old
cleared_over n old new fits h = ext_get_or 0 new (over (replicate n 0) old) (h.sized ∙ sym size) at_each
  where
    zs : List ℕ
    zs = replicate n 0

    long : length zs ≡ n
    long = length-replicate {A = ℕ} n 0

    size : length (over zs old) ≡ length old
    size = length-append zs (drop (length zs) old) ∙ omega (arith, length-drop (length zs) old, long)

    below : (i : ℕ) → i < n → get_or new i 0 ≡ get_or (over zs old) i 0
    below i lt = h.zeros i lt ∙ sym (get_or_append_left zs (drop (length zs) old) 0 i (omega (arith, long)) ∙ get_or-replicate n i 0 0 lt)

    above : (i : ℕ) → n ≤ i → get_or new i 0 ≡ get_or (over zs old) i 0
    above i le =
        let place : length zs + (i - n) ≡ i = omega (arith, long) in
        h.kept i le ∙ sym (get_or-append_right zs (drop (length zs) old) n i 0 long le ∙ get_or-drop (length zs) old (i - n) 0
        ∙ ap (λ (k : ℕ). get_or old k 0) place)

    by_place : (i : ℕ) → (i < n) ⊎ (n ≤ i) → get_or new i 0 ≡ get_or (over zs old) i 0
    by_place i (inl lt) = below i lt
    by_place i (inr le) = above i le

    at_each : (i : ℕ) → i < length new → get_or new i 0 ≡ get_or (over zs old) i 0
    at_each i lt = by_place i (cases_lt i n)

module _ (file board out words : List ℕ) (tug start tick goal dwell : ℕ) where
  abbrev lent : Lent
  lent = lends board out words

  abbrev trip : Trip
  trip = record { start = start; tick = tick; goal = goal; dwell = dwell }

  abbrev is : Done
  is = meant file lent (listed (route tug (node start tick) goal dwell))

  -- refused before the search, and passed on: nothing is written
  refused_leaves : (r : Refusal) (result : Result Granted Refusal) → IsErr result × IsErrAnd result (λ s. s ≡ r)
      → is ≡ record { number = number r; values = []; lent = lent } → Leaves is result out words
  refused_leaves r (Ok g) (err, told) same = absurd told
  refused_leaves r (Err s) (err, told) same = rw same (record { number = ap number told; values = refl; out_after = refl; work_after = refl })

  -- by a number up to 7
  pub route_first : (r : Refusal) → number r ≡ lowest (refusals file (on_board board) opening)
      → (result : Result Granted Refusal) → IsErr result × IsErrAnd result (λ s. s ≡ r) → Leaves is result out words
  route_first r e result told = refused_leaves r result told (routes.first_meant file lent tug (node start tick) goal dwell r e)

  module _ (hall : Hall) (made : (hall.file.bytes.now ≡ file) × (hall.board.now ≡ board)) (first : 0 ≡ lowest (refusals file (on_board board) opening)) where
    -- what the later checks say of their number n
    abbrev Says : ℕ → Type 0
    Says n = (areas : Room) → areas.out ≡ length out → areas.words ≡ length words
        → n ≡ lowest (route_checks (site_in hall) (bytes_view (site_in hall) hall.board.now) areas tug (node start tick) goal dwell)

    checked : (n : ℕ) → Says n → n ≡ lowest (routes.checks file lent tug (node start tick) goal dwell)
    checked n says = rw (← made.0, ← made.1) (says (room_of lent) refl refl)

    -- by a number from 9 on
    pub route_later : (r : Refusal) → Says (number r) → (result : Result Granted Refusal) → IsErr result × IsErrAnd result (λ s. s ≡ r) → Leaves is result out words
    route_later r says result told =
        refused_leaves r result told (routes.later_meant file lent tug (node start tick) goal dwell first r (checked (number r) says))

    -- what the words that the search needs are said to be
    abbrev Needs : ℕ → Type 0
    Needs n = (s : Site) → hall.sizes ≡ sizes_of s → n ≡ words_needed s

    needed : (n : ℕ) → Needs n → n ≡ words_needed (site_of file)
    needed n needs = rw (← made.0) (needs (site_in hall) hall.ready.sizes)

    module _ (says : Says 0) where
      passes : PassesTo14 (site_of file) lent tug (node start tick) goal dwell
      passes = routes.passes file lent tug (node start tick) goal dwell first (checked 0 says)

      pub route_asked : Asked hall trip
      route_asked = rw (made.0) passes.named

      pub route_room : light_room (site_in hall) ≤ length out
      route_room = rw (made.0) passes.light_room_lem

      pub route_words : (n : ℕ) → Needs n → n ≤ length words
      route_words n needs = let fits = passes.words_room in omega (arith, needed n needs)

      abbrev light : Light
      light = light_on hall tug trip

      -- the words that the search needs, zero, before the rest
      abbrev zeroed : List ℕ
      zeroed = over (replicate (words_needed (site_of file)) 0) words

      -- what the search answers: a plan, or that none exists
      pub route_found : (r : Option Granted) → r ≡ found_of (route_on hall trip) light
          → (left : List ℕ) → left ≡ out_of (route_on hall trip) light out → Leaves is (ok_or r NoPlan) left zeroed
      unfolding found_of out_of accepted_done
      route_found r finds left writes = by_route (route_on hall trip) refl
        where
          -- of the file and the board that were lent
          lent_route : (p : Math.Option Route) → route_on hall trip ≡ p → find_route (site_of file) (free (site_of file) board) (node start tick) goal dwell ≡ p
          lent_route p q = rw (← made.0, ← made.1) q

          lent_light : light ≡ granted_light (site_of file) (bytes_view (site_of file) board) tug (node start tick) goal dwell
          lent_light = rw (← made.0, ← made.1) refl

          by_route : (p : Math.Option Route) → route_on hall trip ≡ p → Leaves is (ok_or r NoPlan) left zeroed
          by_route none q =
              rw (routes.none_meant file lent tug (node start tick) goal dwell first (checked 0 says) (lent_route none q), finds, q)
              (record { number = refl; values = refl; out_after = writes ∙ ap (λ (x : Math.Option Route). out_of x light out) q; work_after = refl })
          by_route (some r) q =
              let same : is ≡ granted_done (site_of file) lent light =
              rw lent_light (routes.found_meant file lent tug (node start tick) goal dwell first (checked 0 says) r (lent_route (some r) q)) in
              rw (same, finds, q)
              (record { number = refl; values = refl; out_after = writes ∙ ap (λ (x : Math.Option Route). out_of x light out) q; work_after = refl })

      -- the words, where the first k are zero and no other has changed
      pub route_cleared : (n : ℕ) → Needs n → (k : ℕ) → k ≡ n → (new : List ℕ) → new ≡ over (replicate k 0) words → new ≡ zeroed
      route_cleared n needs k all new clears = clears ∙ ap (λ (m : ℕ). over (replicate m 0) words) (all ∙ needed n needs)
