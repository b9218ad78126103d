-- `search_plan::search_sized` meets its contract: each size is taken where it has room.
-- Assumes nothing.
use native.Mathlib.Omega.{arith}
use Rattle.search_plan.proofs.PartsLaws.{few}
use Rattle.search_plan.proofs.search_sized.Goals as goal

pub search_new-requires-2-clause-states_in_bounds : goal.search_new-requires-2-clause-states_in_bounds
search_new-requires-2-clause-states_in_bounds c =
    let r = few c.args.query.now.hall in
    (omega (arith, r.states), omega (arith, r.motions))

pub search_new-requires-2-clause-scratch : goal.search_new-requires-2-clause-scratch
search_new-requires-2-clause-scratch c =
    let r = few c.args.query.now.hall in
    record {
      lists = omega (arith, r.states, r.motions);
      known = omega (arith, r.motions);
      grown = omega (arith, r.states);
      allowed = omega (arith, r.motions);
      reached = omega (arith, r.states);
    }
