-- `search_plan::search` meets its contract: without a plan at once, or from the search.
-- Assumes nothing.
use native.Mathlib.Omega.{arith}
use Prim.Native.Nat.{ℕ, ◌+◌}
use mathlib.Core.Bool.{Bool}
use mathlib.Core.Path.{sym, ap, ◌∙◌}
use Rattle.site.specs.declared.Sizes.{Sizes}
use Rattle.site.specs.Halls.{site_in, free_in}
use Rattle.search_plan.proofs.PartsLaws.{same_states, same_motions, same_horizon, few, ranges, cell_below, start_held, never_unloads, needed}
use Rattle.search_plan.proofs.search.Goals as goal

pub state_cell-cell-requires : goal.state_cell-cell-requires
state_cell-cell-requires c =
    let hall = c.args.hall.now in
    omega (arith, (ranges hall c.args.trip c.requires).start_below, same_states hall)

pub ticks_of-requires : goal.ticks_of-requires
ticks_of-requires c =
    let hall = c.args.hall.now in
    cell_below hall c.args.trip.start _ (ranges hall c.args.trip c.requires).start_below c.state_cell-cell.ensures.0

pub is_free-requires : goal.is_free-requires
is_free-requires c =
    let hall = c.args.hall.now in
    omega (arith, c.ticks_of.ensures.horizon, (ranges hall c.args.trip c.requires).in_time, same_horizon hall)

pub returns-then-not-is_free : goal.returns-then-not-is_free
returns-then-not-is_free c =
    start_held c.args.hall.now c.args.trip c.requires _
    (c.is_free.ensures.value ∙ ap (λ (f : ℕ → Bool). f c.args.trip.tick) (c.ticks_of.ensures.frees ∙ ap (free_in c.args.hall.now) c.state_cell-cell.ensures.0))
    c.if-not-is_free.true _

pub state_cell-dock-requires : goal.state_cell-dock-requires
state_cell-dock-requires c =
    let hall = c.args.hall.now in
    omega (arith, (ranges hall c.args.trip c.requires).goal_below, same_states hall)

pub ticks_of-at_dock-requires : goal.ticks_of-at_dock-requires
ticks_of-at_dock-requires c =
    let hall = c.args.hall.now in
    cell_below hall c.args.trip.goal _ (ranges hall c.args.trip c.requires).goal_below c.state_cell-dock.ensures.0

pub fill_ends-requires : goal.fill_ends-requires
fill_ends-requires c =
    let hall = c.args.hall.now in
    omega (arith, c.ticks_of-at_dock.ensures.horizon, (ranges hall c.args.trip c.requires).in_time, same_horizon hall)

pub some_end-requires : goal.some_end-requires
some_end-requires c = omega (arith, (few c.args.hall.now).short)

pub returns-then-not-some_end : goal.returns-then-not-some_end
returns-then-not-some_end c =
    let hall = c.args.hall.now in
    never_unloads hall c.args.trip c.requires c.fill_ends.new.ends
    (c.fill_ends.ensures (site_in hall) (free_in hall) c.args.trip.goal c.ticks_of-at_dock.ensures.horizon (c.ticks_of-at_dock.ensures.frees ∙ ap (free_in hall) c.state_cell-dock.ensures.0))
    (c.some_end.ensures c.if-not-some_end.true) _

pub longest_span-longest-requires : goal.longest_span-longest-requires
longest_span-longest-requires c =
    let hall = c.args.hall.now in
    record {
      file_value = (hall.ready.read, ap (λ (k : Sizes). k.start) hall.ready.sizes);
      count_value = same_motions hall;
    }

pub invariant_of-query : goal.invariant_of-query
invariant_of-query c =
    let hall = c.args.hall.now in
    let table = c.table_of.ensures in
    record {
      possible = record {
        asked = c.requires;
        start_free =
            sym (c.is_free.ensures.value ∙ ap (λ (f : ℕ → Bool). f c.args.trip.tick) (c.ticks_of.ensures.frees ∙ ap (free_in hall) c.state_cell-cell.ensures.0))
            ∙ c.if-not-is_free.false;
        ends_right = c.fill_ends.ensures (site_in hall) (free_in hall) c.args.trip.goal c.ticks_of-at_dock.ensures.horizon
            (c.ticks_of-at_dock.ensures.frees ∙ ap (free_in hall) c.state_cell-dock.ensures.0);
      };
      needed = needed _ _ c.longest_span-longest.ensures (ap (λ (n : ℕ). n + 1) table.0) (omega (arith, table.0, table.1));
    }
