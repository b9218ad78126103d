-- The cases of 'Four in line', by computation.
-- Assumes nothing.
use mathlib.Core.Path.{refl}
use Rattle.meaning.specs.Basics.{every, any, all, all_below, within}
use Rattle.meaning.specs.Runs.{meets}
use Rattle.meaning.specs.Answers.{lowest, answer}
use Rattle.meaning.specs.Fields.{split, fields, complete, listed}
use Rattle.meaning.specs.Site.{sweeps_of, state_of, motion_of, before_centres, from_centres, head_of, later_of, state_count, site_of, head_good, is_state, sweep_count, is_motion, motions_laid, is_centre, centres_laid, layout_good, uses, handover, ends_good, sweeps_good, motion_good, site_refusals, read_site}
use Rattle.meaning.specs.Board.{sort_of, is_tug, is_closure, is_holder, clear_from_to, clear_around, free, closable, stands, clear, with_edition, next_edition}
use Rattle.meaning.specs.Plan.{allowed, walk, start_free, plan_end, can_unload, plan_pairs}
use Rattle.meaning.specs.Reach.{by_wait, by_motion, word, first_row, with_row, rows_to, trace, traced_route, route_in, find_route}
use Rattle.meaning.specs.Light.{encode, light_of, is_light_head, is_wait, is_move, in_layout, is_light, decode}
use Rattle.meaning.specs.Intervals.{begins, run_end, intervals_from, intervals}
use Rattle.meaning.specs.Calls.{bytes_view, trip_named, run_named, light_named, light_valid, route_refusals, light_refusals, close_refusals, withdraw_refusals, interval_refusals, refusals, granted_light, changed, accepted_done, refused_done, meant}
use Rattle.meaning.specs.Day.{call_of, day_done, lines_from, day_lines, decimal}
use Rattle.worked.specs.FourInLine.{called_with, fresh, closed_with, posted, light_for, routed_with, behind_a, intervals_with, closing_with, audited_with, board_unknown, board_touching, board_b, board_c, board_d, board_n, light_a, posted_a, audited, board_dock, posted_dwell, lent_route, lent_interval, Starred, AtTheDock, Margins, Computed}

pub all_cases : Starred × AtTheDock × Margins × Computed
unfolding every any all all_below within meets lowest answer split fields complete listed
    sweeps_of state_of motion_of before_centres from_centres head_of later_of state_count site_of head_good is_state sweep_count is_motion motions_laid is_centre centres_laid layout_good uses handover ends_good sweeps_good motion_good site_refusals read_site
    sort_of is_tug is_closure is_holder clear_from_to clear_around free closable stands clear with_edition next_edition
    allowed walk start_free plan_end can_unload plan_pairs by_wait by_motion word first_row with_row rows_to trace traced_route route_in find_route
    encode light_of is_light_head is_wait is_move in_layout is_light decode begins run_end intervals_from intervals
    bytes_view trip_named run_named light_named light_valid route_refusals light_refusals close_refusals withdraw_refusals interval_refusals refusals granted_light changed accepted_done refused_done meant
    called_with fresh closed_with posted light_for routed_with behind_a intervals_with closing_with audited_with board_unknown board_touching board_b board_c board_d board_n light_a posted_a audited board_dock posted_dwell lent_route lent_interval call_of day_done lines_from day_lines decimal
all_cases = (
  record {
    size = refl;
    A = refl;
    B = refl;
    b_light = refl;
    C = refl;
    c_earliest_only = refl;
    D = refl;
    E = refl;
    F = refl;
    G = refl;
    H = refl;
    I = refl;
    i_light = refl;
    k_first = refl;
    k_edition = refl;
    k_again = refl;
    L = refl;
    m_held = refl;
    m_free = refl;
    n_count = refl;
    n_area = refl;
  },
  record {
    b_dwell_2 = refl;
    b_dwell_3 = refl;
    a_dwell_7 = refl;
    a_dwell_8 = refl;
    dock_1 = refl;
    dock_2 = refl;
    dock_3 = refl;
    dock_4 = refl;
    there_9 = refl;
    there_10 = refl;
    there_last = refl;
    dwell_1000 = refl;
    dwell_1001 = refl;
    dwell_1001_rolling = refl;
    dwell_1000_rolling = refl;
    light = refl;
    board = refl;
    held_7 = refl;
    free_8 = refl;
    audit_7 = refl;
    audit_8 = refl;
    audit_1000 = refl;
    audit_1001 = refl;
    audit_old_head = refl;
    day_dwell_2 = refl;
    day_dwell_3 = refl;
    day_dwell_256 = refl;
    day_dwell_1001 = refl;
    day_route_7 = refl;
    day_route_8 = refl;
    day_route_10 = refl;
    back_1 = refl;
    back_3 = refl;
    back_4 = refl;
    day_dwell_1000 = refl;
  },
  record {
    margin_20 = refl;
    margin_21 = refl;
    margin_255 = refl;
    old_head = refl;
    behind_0 = refl;
    behind_1_early = refl;
    behind_1 = refl;
    behind_2_early = refl;
    behind_2 = refl;
    behind_4 = refl;
    behind_5 = refl;
    intervals_0 = refl;
    intervals_1 = refl;
    intervals_2 = refl;
    intervals_8 = refl;
    intervals_9 = refl;
    n_1 = refl;
    n_4 = refl;
    n_8 = refl;
    close_4 = refl;
    close_5 = refl;
    close_0 = refl;
    close_5_12 = refl;
    close_6_12 = refl;
    touch = refl;
    touch_held = refl;
    touch_next = refl;
    audit_5 = refl;
    audit_4 = refl;
    unknown_audit = refl;
    unknown_beside = refl;
    unknown_there = refl;
    dock_2 = refl;
    dock_3 = refl;
  },
  record {
    a_earliest_only = refl;
    wait_earliest_only = refl;
    interval_earliest_only = refl;
    b_board = refl;
    area_fits = refl;
    area_77 = refl;
    words_64 = refl;
    words_zero = refl;
    words_later = refl;
    numbers_14 = refl;
    numbers_13 = refl;
    j_late = refl;
    j_last = refl;
    O = refl;
    day = refl;
    day_text_lem = refl;
    day_cut = refl;
    day_tag = refl;
    day_refused = refl;
    day_quiet = refl;
    day_quiet_refused = refl;
    day_quiet_cut_site = refl;
    day_cut_1 = refl;
    day_cut_2 = refl;
    day_close = refl;
    day_start = refl;
    day_stale = refl;
    day_board_largest = refl;
    day_board_65537 = refl;
    day_board_65536 = refl;
    day_words_17000 = refl;
    day_words_16384 = refl;
    day_close_6 = refl;
    day_close_8 = refl;
    day_withdraw_0 = refl;
    day_withdraw_2 = refl;
    day_post_1 = refl;
  },
)
