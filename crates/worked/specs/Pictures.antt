-- Lights drawn on 'Four in line' with centres, site files with centres that are read and that are not, and the numbers of the draw call:
-- 'Moving picture' of docs/FORMATS.md. Places and shares are in sixteenths: x 1000 is 62.5 millimetres.
-- Assumes nothing.
use Rattle.std.specs.Prelude.{ℕ, ◌*◌, ◌≡◌, List, [], ◌∷◌, ◌++◌, length, take, drop, set, replicate}
use Rattle.meaning.specs.Basics.{put16, tabulate}
use Rattle.meaning.specs.Answers.{Answer, accepted, refused}
use Rattle.meaning.specs.Fields.{Field, fields_bytes}
use Rattle.meaning.specs.Site.{Centre, site_of, read_site}
use Rattle.meaning.specs.WellFormed.{file_of}
use Rattle.meaning.specs.Plan.{node}
use Rattle.meaning.specs.Calls.{route, audit, post, PublicCall, opening, listed, lends, Done, meant}
use Rattle.meaning.specs.Demands.{light_out}
use Rattle.meaning.specs.Day.{day_lines}
use Rattle.meaning.specs.Pictures.{Picture, off_floor, standing_at, rolling_at, draw_meant}
use Rattle.worked.specs.FourInLine.{site_file, site_file_o, two_cells, bare_site, script, line, number_of, fresh, board_d, light_for, audited, light_of_dwell, light_b}
use Rattle.worked.specs.Halls as Halls

-- ---- sites

-- the centres (0, 0), (1000, 0), (2000, 500) and (3000, 500), seven bytes each
abbrev pub centres : List ℕ
centres =
    4 ∷ 0 ∷ 4 ∷ 0 ∷ 0 ∷ 0 ∷ 0
    ∷ 4 ∷ 0 ∷ 4 ∷ 3 ∷ 232 ∷ 0 ∷ 0
    ∷ 4 ∷ 0 ∷ 4 ∷ 7 ∷ 208 ∷ 1 ∷ 244
    ∷ 4 ∷ 0 ∷ 4 ∷ 11 ∷ 184 ∷ 1 ∷ 244
    ∷ []

abbrev pub drawn_hall : List ℕ
drawn_hall = site_file ++ centres

abbrev pub centre : ℕ → ℕ → Centre
centre x y = record { x = x; y = y }

-- tag 4 and a value
abbrev pub centre_with : List ℕ → List ℕ
centre_with value = fields_bytes (record { tag = 4; value = value } ∷ [])

-- the number of a reading of the hall with other bytes behind its motions
abbrev pub ending_with : List ℕ → ℕ
ending_with s = number_of (read_site (site_file ++ s))

-- the same with centres behind so many bytes: the head has 10, head and states have 40, and with four of the five motions 100
abbrev pub centres_behind : ℕ → ℕ
centres_behind n = number_of (read_site (take n site_file ++ (centres ++ drop n site_file)))

-- two cells with the centres (65535, 0) and (0, 65535)
abbrev pub far_apart : List ℕ
far_apart = two_cells ++ (4 ∷ 0 ∷ 4 ∷ 255 ∷ 255 ∷ 0 ∷ 0 ∷ 4 ∷ 0 ∷ 4 ∷ 0 ∷ 0 ∷ 255 ∷ 255 ∷ [])

-- the first n centres of a hall: cell c at (c, 2 c)
abbrev pub slope : ℕ → List ℕ
slope n = fields_bytes (tabulate (λ (c : ℕ). record { tag = 4; value = put16 c ++ put16 (2 * c) }) 0 n)

-- ---- lights

-- A's, made from edition 0; D's, from edition 2; and M2 W1 M2 W1, which is no plan
abbrev pub light_a : List ℕ
light_a = light_of_dwell 0 0

abbrev pub light_d : List ℕ
light_d =
    0x10 ∷ 0x00 ∷ 0x0F ∷ 0x00 ∷ 0x00 ∷ 0x00 ∷ 0x02 ∷ 0x07 ∷ 0x00 ∷ 0x00 ∷ 0x00 ∷ 0x00 ∷ 0x00 ∷ 0x04 ∷ 0x00 ∷ 0x0A ∷ 0x00 ∷ 0x00
    ∷ 0x12 ∷ 0x00 ∷ 0x02 ∷ 0x00 ∷ 0x00
    ∷ 0x12 ∷ 0x00 ∷ 0x02 ∷ 0x00 ∷ 0x03
    ∷ 0x11 ∷ 0x00 ∷ 0x02 ∷ 0x00 ∷ 0x02
    ∷ 0x12 ∷ 0x00 ∷ 0x02 ∷ 0x00 ∷ 0x04
    ∷ 0x12 ∷ 0x00 ∷ 0x02 ∷ 0x00 ∷ 0x02
    ∷ []

abbrev pub light_no_plan : List ℕ
light_no_plan =
    0x10 ∷ 0x00 ∷ 0x0F ∷ 0x00 ∷ 0x00 ∷ 0x00 ∷ 0x00 ∷ 0x07 ∷ 0x00 ∷ 0x00 ∷ 0x00 ∷ 0x00 ∷ 0x00 ∷ 0x04 ∷ 0x00 ∷ 0x05 ∷ 0x00 ∷ 0x00
    ∷ 0x12 ∷ 0x00 ∷ 0x02 ∷ 0x00 ∷ 0x02
    ∷ 0x11 ∷ 0x00 ∷ 0x02 ∷ 0x00 ∷ 0x01
    ∷ 0x12 ∷ 0x00 ∷ 0x02 ∷ 0x00 ∷ 0x02
    ∷ 0x11 ∷ 0x00 ∷ 0x02 ∷ 0x00 ∷ 0x01
    ∷ []

-- from state 0 to state 1 by M0
abbrev pub light_across : List ℕ
light_across =
    0x10 ∷ 0x00 ∷ 0x0F ∷ 0x00 ∷ 0x00 ∷ 0x00 ∷ 0x00 ∷ 0x07 ∷ 0x00 ∷ 0x00 ∷ 0x00 ∷ 0x00 ∷ 0x00 ∷ 0x01 ∷ 0x00 ∷ 0x01 ∷ 0x00 ∷ 0x00
    ∷ 0x12 ∷ 0x00 ∷ 0x02 ∷ 0x00 ∷ 0x00
    ∷ []

-- A's light with another byte: 6 is the edition's last, 7 the tug, 9 the start, 11 the tick, 13 the goal, 15 the arrival, 32 the last motion
abbrev pub light_with : ℕ → ℕ → List ℕ
light_with place byte = set light_a place byte

-- ---- pictures, of a step at a frame

unfoldable pub drawn : List ℕ → ℕ → ℕ → Answer Picture
drawn light step frame = draw_meant drawn_hall light step frame

abbrev pub off : Answer Picture
off = accepted off_floor

abbrev pub stands : ℕ → ℕ → Answer Picture
stands x y = accepted (standing_at (record { x = x; y = y }))

abbrev pub rolls : ℕ → ℕ → ℕ → Answer Picture
rolls x y share = accepted (rolling_at (record { x = x; y = y }) share)

-- ---- the other calls on the hall with centres

unfoldable pub called : List ℕ → PublicCall → Done
called board q = meant drawn_hall (lends board (replicate 78 238) (replicate 65 9)) q

pub record MovingPicture : Type 0 where
  pub size : length drawn_hall ≡ 144
  pub read : (site_of drawn_hall).centres ≡ centre 0 0 ∷ centre 1000 0 ∷ centre 2000 500 ∷ centre 3000 500 ∷ []
  pub written : file_of (site_of drawn_hall) ≡ drawn_hall
  -- A: on the centres of the motion's cells at frames 0 and 16, and between them
  pub a_first : drawn light_a 0 0 ≡ rolls 0 0 0
  pub a_next : drawn light_a 0 1 ≡ rolls 1000 0 1
  pub a_last : drawn light_a 0 16 ≡ rolls 16000 0 16
  pub a_slope : drawn light_a 1 3 ≡ rolls 19000 1500 3
  pub a_level : drawn light_a 2 16 ≡ rolls 48000 8000 16
  -- a step past the last, and 20 there
  pub a_past : drawn light_a 3 0 ≡ off
  pub a_past_16 : drawn light_a 3 16 ≡ off
  pub a_past_17 : drawn light_a 3 17 ≡ refused 20
  pub a_past_256 : drawn light_a 256 0 ≡ off
  pub a_past_65535 : drawn light_a 65535 0 ≡ off
  -- a light without steps, and a dwell, which is no step
  pub no_steps : drawn (take 18 light_a) 0 0 ≡ off
  pub dwell_2 : drawn (light_of_dwell 0 2) 2 16 ≡ rolls 48000 8000 16
  pub dwell_2_past : drawn (light_of_dwell 0 2) 3 0 ≡ off
  -- D: M0 M3 W2 M4 M2. The wait stands where M3 ended, at every frame, and M3 rolls within cell 1
  pub d_light : light_for board_d (node 0 0) 4 0 ≡ light_d
  pub d_wait : drawn light_d 2 0 ≡ stands 16000 0
  pub d_wait_7 : drawn light_d 2 7 ≡ stands 16000 0
  pub d_wait_16 : drawn light_d 2 16 ≡ stands 16000 0
  pub d_within : drawn light_d 1 0 ≡ rolls 16000 0 0
  pub d_within_7 : drawn light_d 1 7 ≡ rolls 16000 0 7
  pub d_after : drawn light_d 3 8 ≡ rolls 24000 4000 8
  -- B: a first wait stands at the start state's centre, here state 0's and state 4's
  pub b_wait : drawn light_b 0 0 ≡ stands 0 0
  pub b_wait_16 : drawn light_b 0 16 ≡ stands 0 0
  pub b_elsewhere : drawn (set light_b 9 4) 0 5 ≡ stands 48000 8000
  pub b_motion : drawn (set light_b 9 4) 1 4 ≡ rolls 4000 0 4
  -- M2 W1 M2 W1 is drawn, though audit says 17
  pub no_plan : audited light_no_plan ≡ 17
  pub no_plan_0 : drawn light_no_plan 0 4 ≡ rolls 36000 8000 4
  pub no_plan_1 : drawn light_no_plan 1 4 ≡ stands 48000 8000
  pub no_plan_2 : drawn light_no_plan 2 4 ≡ rolls 36000 8000 4
  pub no_plan_3 : drawn light_no_plan 3 4 ≡ stands 48000 8000
  pub no_plan_4 : drawn light_no_plan 4 4 ≡ off
  -- the largest differences: x falls and y rises
  pub far_0 : draw_meant far_apart light_across 0 0 ≡ rolls 1048560 0 0
  pub far_1 : draw_meant far_apart light_across 0 1 ≡ rolls 983025 65535 1
  pub far_15 : draw_meant far_apart light_across 0 15 ≡ rolls 65535 983025 15
  pub far_16 : draw_meant far_apart light_across 0 16 ≡ rolls 0 1048560 16
  -- 300 cells: from cell 0 to cell 256
  pub hall_256 : draw_meant (Halls.hall ++ slope 300) light_across 0 16 ≡ rolls 4096 8192 16
  -- what audit refuses with 9, 11 and 16 is drawn
  pub tug_0 : drawn (light_with 7 0) 0 1 ≡ rolls 1000 0 1
  pub tug_255 : drawn (light_with 7 255) 0 1 ≡ rolls 1000 0 1
  pub audit_goal_3 : audited (light_with 13 3) ≡ 11
  pub goal_3 : drawn (light_with 13 3) 0 1 ≡ rolls 1000 0 1
  pub audit_stale : audited (light_with 6 1) ≡ 16
  pub stale : drawn (light_with 6 1) 0 1 ≡ rolls 1000 0 1
  -- and what it refuses with 10 is not: start, tick, goal, arrival, dwell, motion
  pub start_5 : drawn (light_with 9 5) 0 0 ≡ refused 10
  pub tick_13 : drawn (light_with 11 13) 0 0 ≡ refused 10
  pub goal_5 : drawn (light_with 13 5) 0 0 ≡ refused 10
  pub arrival_13 : drawn (light_with 15 13) 0 0 ≡ refused 10
  pub dwell_1001 : drawn (light_of_dwell 3 233) 0 0 ≡ refused 10
  pub motion_5 : drawn (light_with 32 5) 0 0 ≡ refused 10
  -- 20: a frame above 16, a site without centres, also past the last step; and what comes before it
  pub frame_17 : drawn light_a 0 17 ≡ refused 20
  pub frame_255 : drawn light_a 0 255 ≡ refused 20
  pub no_centres : draw_meant site_file light_a 0 0 ≡ refused 20
  pub no_centres_past : draw_meant site_file light_a 3 0 ≡ refused 20
  pub motion_5_17 : drawn (light_with 32 5) 0 17 ≡ refused 10
  pub motion_5_no_centres : draw_meant site_file (light_with 32 5) 0 0 ≡ refused 10
  pub empty_light : drawn [] 0 0 ≡ refused 8
  pub empty_light_17 : drawn [] 0 17 ≡ refused 8
  pub cut_light : drawn (take 32 light_a) 0 0 ≡ refused 8
  pub cut_site : draw_meant (take 143 drawn_hall) [] 0 17 ≡ refused 2
  pub three_drawn : draw_meant (take 137 drawn_hall) [] 0 17 ≡ refused 4
  pub o_drawn : draw_meant (site_file_o ++ centres) [] 0 17 ≡ refused 6
  -- other numbers of centres than 4 or none
  pub four : ending_with centres ≡ 0
  pub one : ending_with (take 7 centres) ≡ 4
  pub three : ending_with (take 21 centres) ≡ 4
  pub five : ending_with (centres ++ take 7 centres) ≡ 4
  pub eight : ending_with (centres ++ centres) ≡ 4
  -- other lengths, and another tag
  pub bytes_4 : ending_with (take 21 centres ++ centre_with (0 ∷ 0 ∷ 0 ∷ 0 ∷ [])) ≡ 0
  pub bytes_5 : ending_with (take 21 centres ++ centre_with (0 ∷ 0 ∷ 0 ∷ 0 ∷ 0 ∷ [])) ≡ 4
  pub bytes_3 : ending_with (take 21 centres ++ centre_with (0 ∷ 0 ∷ 0 ∷ [])) ≡ 4
  pub bytes_0 : ending_with (take 21 centres ++ centre_with []) ≡ 4
  pub bytes_5_alone : ending_with (centre_with (0 ∷ 0 ∷ 0 ∷ 0 ∷ 0 ∷ [])) ≡ 4
  pub bytes_5_first : ending_with (centre_with (0 ∷ 0 ∷ 0 ∷ 0 ∷ 0 ∷ []) ++ centres) ≡ 4
  pub tag_5 : ending_with (set centres 21 5) ≡ 4
  pub tag_5_alone : ending_with (set (take 7 centres) 0 5) ≡ 4
  pub tag_5_first : ending_with (set (take 7 centres) 0 5 ++ centres) ≡ 4
  -- centres before the states, between states and motions, before the last motion, and motions among them
  pub before_states : centres_behind 10 ≡ 4
  pub before_motions : centres_behind 40 ≡ 4
  pub before_last_motion : centres_behind 100 ≡ 4
  pub behind_motions : centres_behind 116 ≡ 0
  pub motion_among : ending_with (take 21 centres ++ (drop 100 site_file ++ drop 21 centres)) ≡ 4
  pub motion_behind : ending_with (centres ++ drop 100 site_file) ≡ 4
  -- 4 before 5 and 6: state 0 in cell 4, and a motion that is none
  pub cell_4 : number_of (read_site (set drawn_hall 14 4)) ≡ 5
  pub cell_4_three : number_of (read_site (set (take 137 drawn_hall) 14 4)) ≡ 4
  pub o_three : number_of (read_site (site_file_o ++ take 21 centres)) ≡ 4
  -- a hall of one cell and no motion, and one of 1,000 cells
  pub no_motions : number_of (read_site (bare_site 12 1 1 ++ take 7 centres)) ≡ 0
  pub cells_1000 : number_of (read_site (bare_site 12 1000 1 ++ slope 1000)) ≡ 0
  pub cells_999 : number_of (read_site (bare_site 12 1000 1 ++ slope 999)) ≡ 4
  -- the other calls answer as without centres: open, A's route, audit and post, and the day program's example
  pub opens : (called (replicate 56 9) opening).number ≡ 0
  pub opened : (called (replicate 56 9) opening).lent.board ≡ replicate 56 0
  pub routes : light_out (called fresh (listed (route 7 (node 0 0) 4 0))) ≡ light_for fresh (node 0 0) 4 0
  pub a_light : light_for fresh (node 0 0) 4 0 ≡ light_a
  pub audits : (called fresh (listed (audit light_a))).number ≡ 0
  pub posts : (called fresh (listed (post light_a))).number ≡ 0
  pub day : day_lines drawn_hall script ≡ line 0 1 0 ∷ line 0 1 10 ∷ line 0 2 0 ∷ []
