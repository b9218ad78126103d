-- The light of a plan, and the answer.
-- Assumes nothing.
use Prim.Native.Nat.{ℕ, ◌≤◌}
use native.Mathlib.Omega.{arith}
use mathlib.Core.Path.{◌≡◌, sym, ap, ◌∙◌}
use mathlib.Core.Option as Math
use Rattle.std.specs.Prelude.{Some, None}
use mathlib.Core.List.{List}
use lib.ListN.{length}
use Rattle.meaning.specs.Limits.{horizon_limit}
use Rattle.meaning.specs.Board.{edition}
use Rattle.meaning.specs.Reach.{Route}
use Rattle.meaning.specs.Light.{Light, encode}
use Rattle.meaning.specs.Calls.{light_room, over, bytes_view, granted_light}
use Rattle.meaning.proofs.LightLaws.{length_encode}
use Rattle.meaning.proofs.TraceLaws.{found_steps}
use Rattle.meaning.specs.Plan.{node}
use Rattle.site.specs.Halls.{site_in, free_in}
use Rattle.site.specs.declared.hall.Hall.{Hall}
use Rattle.site.specs.declared.Trip.{Trip}
use Rattle.light.specs.Sizes.{light_length}
use Rattle.light_write.specs.Codes.{steps_in}
use Rattle.light_write.proofs.CodeLaws.{length_steps}
use Rattle.search_site.proofs.DecodedLaws.{well}
use Rattle.search_trace.specs.declared.Path.{Path}
use Rattle.search_plan.specs.Planned.{route_on, Planned}
use Rattle.search.specs.Finds.{light_on, found_of, out_of}

module _ (hall : Hall) (trip : Trip) where
  module _ (path : Path) (arrival : ℕ) (plan : Planned (route_on hall trip) path (Some arrival)) where
    abbrev route : Route
    route = record { steps = steps_in path.codes path.count; arrival = arrival }

    route_is : route_on hall trip ≡ Math.some route
    unfolding Planned
    route_is = plan

    pub fits : (path.count ≤ horizon_limit) × (arrival ≤ horizon_limit) × (light_length path.count ≤ light_room (site_in hall))
    fits =
        let (laid, named, late, in_time) = found_steps (site_in hall) (well hall.file.bytes.now hall.ready.read) (free_in hall) (node trip.start trip.tick) trip.goal trip.dwell route route_is in
        let many = length_steps path.codes path.count in
        let few = (well hall.file.bytes.now hall.ready.read).horizon_range in
        (omega arith, omega arith, omega arith)

    -- the light with the plan's steps, made from the edition e
    abbrev written : ℕ → ℕ → Light
    written e tug =
        record { edition = e; tug = tug; start = trip.start; tick = trip.tick; goal = trip.goal; arrival = arrival; dwell = trip.dwell; steps = steps_in path.codes path.count }

    light_is : (tug : ℕ) → light_on hall tug trip ≡ written (edition hall.board.now) tug
    unfolding granted_light bytes_view
    light_is tug = simp route_is

    pub found_route : (size : ℕ) → size ≡ light_length path.count → (tug : ℕ)
        → Some (record { len = size; arrival = arrival }) ≡ found_of (route_on hall trip) (light_on hall tug trip)
    unfolding found_of
    found_route size told tug =
        let many : length (encode (written (edition hall.board.now) tug)) ≡ size =
        length_encode (written (edition hall.board.now) tug) ∙ ap light_length (length_steps path.codes path.count) ∙ sym told in
        sym (ap (λ (o : Math.Option Route). found_of o (light_on hall tug trip)) route_is
        ∙ ap (found_of (Math.some route)) (light_is tug)
        ∙ ap (λ (n : ℕ). Some (record { len = n; arrival = arrival })) many)

    pub out_light : (tug e : ℕ) (out now : List ℕ) → e ≡ edition hall.board.now → now ≡ over (encode (written e tug)) out
        → now ≡ out_of (route_on hall trip) (light_on hall tug trip) out
    unfolding out_of
    out_light tug e out now same wrote =
        wrote
        ∙ ap (λ (n : ℕ). over (encode (written n tug)) out) same
        ∙ sym (ap (λ (o : Math.Option Route). out_of o (light_on hall tug trip) out) route_is
        ∙ ap (λ (x : Light). out_of (Math.some route) x out) (light_is tug))

  module _ (path : Path) (plan : Planned (route_on hall trip) path None) where
    no_route : route_on hall trip ≡ Math.none
    unfolding Planned
    no_route = plan

    pub found_nothing : (tug : ℕ) → None ≡ found_of (route_on hall trip) (light_on hall tug trip)
    unfolding found_of
    found_nothing tug = sym (ap (λ (o : Math.Option Route). found_of o (light_on hall tug trip)) no_route)

    pub out_same : (tug : ℕ) (out : List ℕ) → out ≡ out_of (route_on hall trip) (light_on hall tug trip) out
    unfolding out_of
    out_same tug out = sym (ap (λ (o : Math.Option Route). out_of o (light_on hall tug trip) out) no_route)
