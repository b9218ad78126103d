-- `search_plan::search_in` meets its contract: the arrays hold the site, and what the search over blocks leaves is what the walk back takes.
-- Assumes nothing.
use native.Mathlib.Omega.{arith}
use mathlib.Core.Path.{ap}
use Rattle.site.specs.declared.Sizes.{Sizes}
use Rattle.search_plan.proofs.PartsLaws.{same_states, same_motions, ranges, arrays_in, space_in, missing, found, planned}
use Rattle.search_plan.proofs.search_in.Goals as goal

pub decode_states-requires : goal.decode_states-requires
decode_states-requires c =
    let query = c.args.query.now in
    record {
      file_value = (query.hall.ready.read, same_states query.hall);
      count_in_bounds = c.requires.states_in_bounds.0;
    }

pub decode_motions-requires : goal.decode_motions-requires
decode_motions-requires c =
    let query = c.args.query.now in
    record {
      file_value = (query.hall.ready.read, ap (λ (k : Sizes). k.start) query.hall.ready.sizes);
      count_value = (same_motions query.hall, c.requires.states_in_bounds.1);
    }

pub invariant_of-scene : goal.invariant_of-scene
invariant_of-scene c =
    let query = c.args.query.now in
    record {
      arrays = arrays_in query.hall _ c.decode_motions.ensures.motions_decoded _ c.decode_states.ensures.states_decoded
          (omega (arith, c.decode_states.ensures.states_len_unchanged, c.requires.states_in_bounds.0)) (omega (arith, c.decode_motions.ensures.motions_len_unchanged, c.requires.states_in_bounds.1));
      states_decoded = c.decode_states.ensures.states_decoded;
      motions_decoded = c.decode_motions.ensures.motions_decoded;
    }

pub explore-arrival-requires : goal.explore-arrival-requires
explore-arrival-requires c =
    let query = c.args.query.now in
    let q = query.possible.asked in
    let r = ranges query.hall query.trip q in
    record {
      space = space_in _ (same_motions query.hall) c.decode_motions.ensures.motions_decoded query.needed c.requires.tab_room.0;
      scratch = c.requires.scratch;
      empty = (c.requires.tab_room.1, c.requires.none_reached);
      start_lt_states = (r.start_below, (r.goal_below, r.in_time));
      start_free = query.possible.start_free;
    }

pub returns-then-sizes-arrival : goal.returns-then-sizes-arrival
returns-then-sizes-arrival c =
    let query = c.args.query.now in
    missing query.hall query.trip query.possible.asked c.explore-arrival.new.reached c.explore-arrival.result
    (c.explore-arrival.ensures.first_end _ query.possible.ends_right) _ c.if-sizes-arrival.true

pub trace_back-requires : goal.trace_back-requires
trace_back-requires c =
    let query = c.args.query.now in
    let q = query.possible.asked in
    let e = c.explore-arrival.ensures in
    record {
      goal_lt_states = ((ranges query.hall query.trip q).goal_below, (omega (arith, e.reached_len_unchanged.0, c.requires.scratch.reached), omega (arith, e.lists_len_unchanged, c.requires.scratch.lists)));
      found = (_, found query.hall query.trip q c.explore-arrival.new.reached c.explore-arrival.result (e.first_end _ query.possible.ends_right) (omega (arith, c.if-sizes-arrival.false)) e.reached_pairs);
    }

pub returns : goal.returns
returns c =
    let query = c.args.query.now in
    let e = c.explore-arrival.ensures in
    planned query.hall query.trip query.possible.asked c.explore-arrival.new.reached c.explore-arrival.result
    (e.first_end _ query.possible.ends_right) (omega (arith, c.if-sizes-arrival.false)) e.reached_pairs _ c.trace_back.ensures
