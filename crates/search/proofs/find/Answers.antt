-- `search::find` meets its contract: the light of the plan that the search leaves.
-- Assumes nothing.
use native.Mathlib.Omega.{arith}
use mathlib.Core.Path.{◌∙◌}
use Rattle.search.proofs.LightLaws.{fits, found_route, out_light, found_nothing, out_same}
use Rattle.search.proofs.find.Goals as goal

pub overflow_cast-arrival : goal.overflow_cast-arrival
overflow_cast-arrival c =
    let f = fits c.args.hall.now c.args.trip _ _ c.in_ok-arrival.ensures in record { fits = omega arith }

pub returns-in_err-arrival-clause-value : goal.returns-in_err-arrival-clause-value
returns-in_err-arrival-clause-value c = c.from_residual.ensures ∙ found_nothing c.args.hall.now c.args.trip _ c.in_err-arrival.ensures c.args.tug

pub returns-in_err-arrival-clause-out_after : goal.returns-in_err-arrival-clause-out_after
returns-in_err-arrival-clause-out_after c = out_same c.args.hall.now c.args.trip _ c.in_err-arrival.ensures c.args.tug c.args.out.now

pub write_light-requires : goal.write_light-requires
write_light-requires c =
    let f = fits c.args.hall.now c.args.trip _ _ c.in_ok-arrival.ensures in
    (omega arith, omega arith)

pub length_of-requires : goal.length_of-requires
length_of-requires c =
    let f = fits c.args.hall.now c.args.trip _ _ c.in_ok-arrival.ensures in omega arith

pub overflow_cast-result : goal.overflow_cast-result
overflow_cast-result c =
    let f = fits c.args.hall.now c.args.trip _ _ c.in_ok-arrival.ensures in record { fits = omega (arith, c.length_of.ensures) }

pub returns-clause-value : goal.returns-clause-value
returns-clause-value c = found_route c.args.hall.now c.args.trip _ _ c.in_ok-arrival.ensures _ c.length_of.ensures c.args.tug

pub returns-clause-out_after : goal.returns-clause-out_after
returns-clause-out_after c = out_light c.args.hall.now c.args.trip _ _ c.in_ok-arrival.ensures c.args.tug _ c.args.out.now _ c.read_edition-edition.ensures c.write_light.ensures
