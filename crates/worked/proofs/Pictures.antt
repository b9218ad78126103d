-- The cases of the moving picture, by computation.
-- Assumes nothing.
use mathlib.Core.Path.{refl}
use Rattle.meaning.specs.Basics.{every, any, all, all_below, within}
use Rattle.meaning.specs.Runs.{meets}
use Rattle.meaning.specs.Answers.{lowest, answer}
use Rattle.meaning.specs.Fields.{split, fields, complete, listed}
use Rattle.meaning.specs.Site.{sweeps_of, state_of, motion_of, centre_of, before_centres, from_centres, head_of, later_of, state_count, site_of, head_good, is_state, sweep_count, is_motion, motions_laid, is_centre, centres_laid, layout_good, uses, handover, ends_good, sweeps_good, motion_good, site_refusals, read_site}
use Rattle.meaning.specs.WellFormed.{file_of}
use Rattle.meaning.specs.Board.{sort_of, is_tug, is_closure, is_holder, clear_from_to, clear_around, free, closable, stands, with_edition, next_edition}
use Rattle.meaning.specs.Plan.{allowed, walk, start_free, plan_end, can_unload, plan_pairs}
use Rattle.meaning.specs.Reach.{by_wait, by_motion, word, first_row, with_row, rows_to, trace, traced_route, route_in, find_route}
use Rattle.meaning.specs.Light.{encode, light_of, is_light_head, is_wait, is_move, in_layout, is_light, decode}
use Rattle.meaning.specs.Calls.{bytes_view, trip_named, run_named, light_named, light_valid, route_refusals, light_refusals, close_refusals, refusals, granted_light, changed, accepted_done, refused_done, meant}
use Rattle.meaning.specs.Day.{call_of, day_done, lines_from, day_lines}
use Rattle.meaning.specs.Pictures.{picture_of, picture_refusals, draw_refusals, draw_meant}
use Rattle.worked.specs.FourInLine.{called_with, fresh, closed_with, light_for, board_b, board_d, audited}
use Rattle.worked.specs.Pictures.{drawn, called, MovingPicture}

pub moving_picture : MovingPicture
unfolding every any all all_below within meets lowest answer split fields complete listed
    sweeps_of state_of motion_of centre_of before_centres from_centres head_of later_of state_count site_of head_good is_state sweep_count is_motion motions_laid is_centre centres_laid layout_good uses handover ends_good sweeps_good motion_good site_refusals read_site file_of
    sort_of is_tug is_closure is_holder clear_from_to clear_around free closable stands with_edition next_edition
    allowed walk start_free plan_end can_unload plan_pairs by_wait by_motion word first_row with_row rows_to trace traced_route route_in find_route
    encode light_of is_light_head is_wait is_move in_layout is_light decode
    bytes_view trip_named run_named light_named light_valid route_refusals light_refusals close_refusals refusals granted_light changed accepted_done refused_done meant
    picture_of picture_refusals draw_refusals draw_meant called_with fresh closed_with light_for board_b board_d audited drawn called call_of day_done lines_from day_lines
moving_picture = record {
  size = refl;
  read = refl;
  written = refl;
  a_first = refl;
  a_next = refl;
  a_last = refl;
  a_slope = refl;
  a_level = refl;
  a_past = refl;
  a_past_16 = refl;
  a_past_17 = refl;
  a_past_256 = refl;
  a_past_65535 = refl;
  no_steps = refl;
  dwell_2 = refl;
  dwell_2_past = refl;
  d_light = refl;
  d_wait = refl;
  d_wait_7 = refl;
  d_wait_16 = refl;
  d_within = refl;
  d_within_7 = refl;
  d_after = refl;
  b_wait = refl;
  b_wait_16 = refl;
  b_elsewhere = refl;
  b_motion = refl;
  no_plan = refl;
  no_plan_0 = refl;
  no_plan_1 = refl;
  no_plan_2 = refl;
  no_plan_3 = refl;
  no_plan_4 = refl;
  far_0 = refl;
  far_1 = refl;
  far_15 = refl;
  far_16 = refl;
  hall_256 = refl;
  tug_0 = refl;
  tug_255 = refl;
  audit_goal_3 = refl;
  goal_3 = refl;
  audit_stale = refl;
  stale = refl;
  start_5 = refl;
  tick_13 = refl;
  goal_5 = refl;
  arrival_13 = refl;
  dwell_1001 = refl;
  motion_5 = refl;
  frame_17 = refl;
  frame_255 = refl;
  no_centres = refl;
  no_centres_past = refl;
  motion_5_17 = refl;
  motion_5_no_centres = refl;
  empty_light = refl;
  empty_light_17 = refl;
  cut_light = refl;
  cut_site = refl;
  three_drawn = refl;
  o_drawn = refl;
  four = refl;
  one = refl;
  three = refl;
  five = refl;
  eight = refl;
  bytes_4 = refl;
  bytes_5 = refl;
  bytes_3 = refl;
  bytes_0 = refl;
  bytes_5_alone = refl;
  bytes_5_first = refl;
  tag_5 = refl;
  tag_5_alone = refl;
  tag_5_first = refl;
  before_states = refl;
  before_motions = refl;
  before_last_motion = refl;
  behind_motions = refl;
  motion_among = refl;
  motion_behind = refl;
  cell_4 = refl;
  cell_4_three = refl;
  o_three = refl;
  no_motions = refl;
  cells_1000 = refl;
  cells_999 = refl;
  opens = refl;
  opened = refl;
  routes = refl;
  a_light = refl;
  audits = refl;
  posts = refl;
  day = refl;
}
