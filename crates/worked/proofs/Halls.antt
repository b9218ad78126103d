-- The cases of halls above 255 cells, by computation.
-- Assumes nothing.
use mathlib.Core.Path.{refl}
use Rattle.meaning.specs.Basics.{every, any, all, all_below, within}
use Rattle.meaning.specs.Runs.{meets}
use Rattle.meaning.specs.Answers.{lowest, answer}
use Rattle.meaning.specs.Fields.{split, fields, complete, listed}
use Rattle.meaning.specs.Site.{sweeps_of, state_of, motion_of, before_centres, from_centres, head_of, later_of, state_count, site_of, head_good, is_state, sweep_count, is_motion, motions_laid, is_centre, centres_laid, layout_good, uses, handover, ends_good, sweeps_good, motion_good, site_refusals, read_site}
use Rattle.meaning.specs.Board.{sort_of, is_tug, is_closure, is_holder, clear_from_to, clear_around, free, closable, stands, clear, with_edition, next_edition}
use Rattle.meaning.specs.Plan.{allowed, walk, start_free, plan_end, can_unload, plan_pairs}
use Rattle.meaning.specs.Reach.{by_wait, by_motion, word, first_row, with_row, rows_to, trace, traced_route, route_in, find_route}
use Rattle.meaning.specs.Light.{encode, light_of, is_light_head, is_wait, is_move, in_layout, is_light, decode}
use Rattle.meaning.specs.Intervals.{begins, run_end, intervals_from, intervals}
use Rattle.meaning.specs.Calls.{bytes_view, trip_named, run_named, light_named, light_valid, route_refusals, light_refusals, close_refusals, withdraw_refusals, interval_refusals, refusals, granted_light, changed, accepted_done, refused_done, meant}
use Rattle.meaning.specs.Day.{call_of, day_done, lines_from, day_lines, decimal}
use Rattle.worked.specs.Halls.{called, fresh, closed, posted, WideCells}

pub wide_cells : WideCells
unfolding every any all all_below within meets lowest answer split fields complete listed
    sweeps_of state_of motion_of before_centres from_centres head_of later_of state_count site_of head_good is_state sweep_count is_motion motions_laid is_centre centres_laid layout_good uses handover ends_good sweeps_good motion_good site_refusals read_site
    sort_of is_tug is_closure is_holder clear_from_to clear_around free closable stands clear with_edition next_edition
    allowed walk start_free plan_end can_unload plan_pairs by_wait by_motion word first_row with_row rows_to trace traced_route route_in find_route
    encode light_of is_light_head is_wait is_move in_layout is_light decode begins run_end intervals_from intervals
    bytes_view trip_named run_named light_named light_valid route_refusals light_refusals close_refusals withdraw_refusals interval_refusals refusals granted_light changed accepted_done refused_done meant
    called fresh closed posted call_of day_done lines_from day_lines decimal
wide_cells = record {
  cells_1000 = refl;
  cells_1001 = refl;
  cells_0 = refl;
  cells_256 = refl;
  cells_65535 = refl;
  states_1280 = refl;
  states_1281 = refl;
  motions_4000 = refl;
  motions_4001 = refl;
  state_1000 = refl;
  state_256 = refl;
  sweep_299 = refl;
  sweep_300 = refl;
  head_6 = refl;
  head_8 = refl;
  state_2 = refl;
  state_4 = refl;
  sweep_3 = refl;
  way = refl;
  board = refl;
  close_256 = refl;
  leaves_0 = refl;
  none_of_256 = refl;
  no_way = refl;
  past_44 = refl;
  close_299 = refl;
  close_300 = refl;
  day_256 = refl;
  day_640 = refl;
  day_640_102 = refl;
}
