-- Refusals 1 to 7 say what their sentences say of a file, of its fields, and of a board, and 19 of a distance.
-- Assumes nothing.
use Prim.Native.Nat.{ℕ, ◌+◌, ◌*◌, ◌-◌, ◌/◌, ◌<◌}
use native.Mathlib.Omega.{arith}
use mathlib.Core.Path.{◌≡◌, refl, sym, ap, ap₂, ◌∙◌, subst}
use mathlib.Core.Bool.{Bool, true, not}
use mathlib.Core.List.{List, [], ◌∷◌, ◌++◌}
use lib.Dec.{leb}
use borrow.Author.Tests.{leb-false, lt-leb, ltb-true, lt-ltb, eqb-true, eq-eqb, not-true}
use lib.ListN.{length, take, drop, take-append-drop}
use lib.Seq.{length-take-le}
use Rattle.meaning.specs.Limits.{sweep_limit, last_distance, motion_size, sweep_size}
use Rattle.meaning.specs.Basics.{all, Each, Bytes, u16_at}
use Rattle.meaning.specs.Fields.{Field, fields, complete, listed, fields_bytes}
use Rattle.meaning.specs.Site.{Site, State, before_centres, from_centres, head_of, later_of, state_count, site_of, head_good, is_state, sweep_count, is_motion, is_centre, layout_good, cell_good, motion_good, site_refusals}
use Rattle.meaning.specs.Board.{board_length}
use Rattle.meaning.specs.Calls.{PublicCall, Lent, travel_refusals, later_refusals, refusals}
use Rattle.meaning.specs.Light.{light_of, is_light}
use Rattle.meaning.specs.Pictures.{picture_refusals, draw_refusals}
use Rattle.meaning.specs.WellFormed.{GoodMotion}
use Rattle.meaning.specs.Refusals.{◌says◌, Says, Not, ShortField, file_paper, HeadField, StateField, MotionField, CentreField, LaidOut, head_in, LaidIn, fields_paper, board_paper, travel_paper, draw_paper, RefusalsSay}
use Rattle.meaning.proofs.BasicsLaws.{all_each, each_all, each_map, range_within}
use Rattle.meaning.proofs.FieldsLaws.{fields_of, bytes_of}
use Rattle.meaning.proofs.MotionLaws.{good_motion}
use Rattle.meaning.proofs.SiteFieldsLaws.{IsState, IsMotion, IsCentre, state_parts, motion_parts, centre_parts, cut_joined, joined_before, joined_from}
use Rattle.meaning.proofs.SiteFieldsLaws.{layout_states, layout_enough, layout_motions, layout_centres, laid_out, motions_laid_lem, laid_motions, centres_laid_lem, laid_centres, head_good_lem, good_head}
use Rattle.meaning.proofs.SiteLaws.{motions_well, written_read}
use Rattle.meaning.proofs.SentenceLaws.{Tells, tells_not, tells_lt, tells_eq, tells_or, told}
use Rattle.meaning.proofs.RefusalLaws.{tells_light, tells_is_light, later_says}

-- ---- 1 and 2

tells_long : (n : ℕ) → Tells (not (leb n 65536)) (65536 < n)
tells_long n = record {
  then = λ h. leb-false n 65536 (not-true (leb n 65536) h);
  back = λ lt. ap not (lt-leb n 65536 lt);
}

tells_whole : (file : List ℕ) → Bytes file → Tells (complete (fields file)) ((fs : List Field) × Each ShortField fs × (fields_bytes fs ≡ file))
tells_whole file bytes = record {
  then = λ h.
      let (back, fit) = bytes_of file bytes h in
      (listed (fields file), each_map (λ (f : Field). (f.tag < 256) × Bytes f.value × ShortField f) ShortField (λ f k. k.2) (listed (fields file)) fit, back);
  back = λ (fs, short, same). ap (λ (s : List ℕ). complete (fields s)) (sym same) ∙ (fields_of fs short).0;
}

file_says : (file : List ℕ) → Bytes file → Says (take 2 (site_refusals file)) (file_paper file)
unfolding site_refusals
file_says file bytes = (told 1 (tells_long (length file)), (told 2 (tells_not (tells_whole file bytes)), tt))

-- ---- 3 and 4, of fields

tells_head : (f : Field) → Tells (head_good f) (HeadField f)
tells_head f = record { then = head_good_lem f; back = good_head f }

state_test : (f : Field) → StateField f → IsState f
unfolding is_state
state_test f (t, n) = simp (eq-eqb f.tag 2 t, eq-eqb (length f.value) 3 n)

motion_test : (f : Field) → MotionField f → IsMotion f
unfolding is_motion sweep_count
motion_test f (t, (n, least, most, e)) =
    let count : (motion_size + sweep_size * n - motion_size) / sweep_size ≡ n = omega arith in
    rw (t, e, count, range_within 1 sweep_limit n least most) (eq-eqb (motion_size + sweep_size * n) (motion_size + sweep_size * n) refl)

motion_field_lem : (f : Field) → IsMotion f → MotionField f
motion_field_lem f h = let (t, least, most, e) = motion_parts f h in (t, (sweep_count (length f.value), least, most, e))

centre_test : (f : Field) → CentreField f → IsCentre f
unfolding is_centre
centre_test f (t, n) = simp (eq-eqb f.tag 4 t, eq-eqb (length f.value) 4 n)

tells_layout : (cells n : ℕ) (fs : List Field) → Tells (layout_good cells n fs) (LaidOut cells n fs)
tells_layout cells n fs = record {
  then = λ h.
      let (moving, few) = motions_laid_lem (before_centres (drop n fs)) (layout_motions cells n fs h) in
      let (number, placed) = centres_laid_lem cells (from_centres (drop n fs)) (layout_centres cells n fs h) in
      record {
        states = take n fs;
        motions = before_centres (drop n fs);
        centres = from_centres (drop n fs);
        in_order = ap (λ (gs : List Field). take n fs ++ gs) (cut_joined (drop n fs)) ∙ take-append-drop n fs;
        states_laid = (length-take-le n fs (layout_enough cells n fs h), each_map IsState StateField state_parts (take n fs) (layout_states cells n fs h));
        motions_laid_lem = (few, each_map IsMotion MotionField motion_field_lem (before_centres (drop n fs)) moving);
        centres_laid_lem = (number, each_map IsCentre CentreField centre_parts (from_centres (drop n fs)) placed);
      };
  back = λ laid. sym (ap₂ (layout_good cells) laid.states_laid.0 laid.in_order) ∙ all_laid laid;
}
  where
    all_laid : (laid : LaidOut cells n fs) → layout_good cells (length laid.states) (laid.states ++ (laid.motions ++ laid.centres)) ≡ true
    all_laid laid =
        let ms = laid.motions in
        let cs = laid.centres in
        let moving = each_map MotionField (λ (f : Field). f.tag ≡ 3) (λ f h. h.0) ms laid.motions_laid_lem.1 in
        let placed = each_map CentreField (λ (f : Field). f.tag ≡ 4) (λ f h. h.0) cs laid.centres_laid_lem.1 in
        laid_out cells laid.states (ms ++ cs) (each_map StateField IsState state_test laid.states laid.states_laid.1)
        (rw (joined_before ms cs moving placed) (laid_motions ms (each_map MotionField IsMotion motion_test ms laid.motions_laid_lem.1) laid.motions_laid_lem.0))
        (rw (joined_from ms cs moving placed) (laid_centres cells cs laid.centres_laid_lem.0 (each_map CentreField IsCentre centre_test cs laid.centres_laid_lem.1)))

-- ---- 3 to 6, of the file of the fields

module _ (fs : List Field) (short : Each ShortField fs) where
  abbrev file : List ℕ
  file = fields_bytes fs

  same : listed (fields file) ≡ fs
  same = (fields_of fs short).1

  head_is : head_of file ≡ head_in fs
  unfolding head_of
  head_is = rw same

  later_is : later_of file ≡ drop 1 fs
  unfolding later_of
  later_is = rw same

  count_is : state_count file ≡ u16_at (head_in fs).value 4
  unfolding state_count
  count_is = rw head_is

  tells_cells : (site : Site) → Tells (all (cell_good site.cells) site.states) (Each (λ (s : State). s.cell < site.cells) site.states)
  tells_cells site = record {
    then = all_each (λ (s : State). s.cell < site.cells) (cell_good site.cells) (λ s. ltb-true s.cell site.cells) site.states;
    back = each_all (λ (s : State). s.cell < site.cells) (cell_good site.cells) (λ s. lt-ltb s.cell site.cells) site.states;
  }

  cells_are : (site_of file).cells ≡ u16_at (head_in fs).value 2
  unfolding site_of
  cells_are = rw head_is

  layout_same : layout_good (site_of file).cells (state_count file) (later_of file) ≡ layout_good (u16_at (head_in fs).value 2) (u16_at (head_in fs).value 4) (drop 1 fs)
  layout_same = rw (cells_are, count_is, later_is)

  fields_say : Says (take 3 (drop 2 (site_refusals file))) (fields_paper fs (site_of file))
  unfolding site_refusals
  fields_say = (
    told 3 (tells_not (subst (λ (f : Field). Tells (head_good f) (HeadField (head_in fs))) (sym head_is) (tells_head (head_in fs)))),
    (
      told 4 (tells_not (subst (λ (b : Bool). Tells b (LaidIn fs)) (sym layout_same) (tells_layout (u16_at (head_in fs).value 2) (u16_at (head_in fs).value 4) (drop 1 fs)))),
      (told 5 (tells_not (tells_cells (site_of file))), tt),
    ),
  )

  motions_made : Each IsMotion (before_centres (drop (state_count file) (later_of file))) → all (motion_good (site_of file)) (site_of file).motions ≡ true
      → Each (GoodMotion (site_of file)) (site_of file).motions
  unfolding site_of
  motions_made moving h = motions_well (site_of file) (before_centres (drop (state_count file) (later_of file))) moving h

  tells_motions : LaidIn fs → Tells (all (motion_good (site_of file)) (site_of file).motions) (Each (GoodMotion (site_of file)) (site_of file).motions)
  tells_motions laid =
      let good : layout_good (site_of file).cells (state_count file) (later_of file) ≡ true =
      layout_same ∙ (tells_layout (u16_at (head_in fs).value 2) (u16_at (head_in fs).value 4) (drop 1 fs)).back laid in
      let (moving, few) = motions_laid_lem _ (layout_motions (site_of file).cells (state_count file) (later_of file) good) in
      record {
        then = motions_made moving;
        back = each_all (GoodMotion (site_of file)) (motion_good (site_of file)) (good_motion (site_of file)) (site_of file).motions;
      }

  motions_say : LaidIn fs → Says (drop 5 (site_refusals file)) (6 says Not (Each (GoodMotion (site_of file)) (site_of file).motions) ∷ [])
  unfolding site_refusals
  motions_say laid = (told 6 (tells_not (tells_motions laid)), tt)

-- ---- 7

board_says : (file : List ℕ) (l : Lent) (q : PublicCall) → Says (take 1 (drop 6 (refusals file l q))) (board_paper (site_of file) l.board)
unfolding refusals site_refusals
board_says file l q =
    (told 7 (tells_not (record { then = eqb-true (length l.board) (board_length (site_of file)); back = eq-eqb (length l.board) (board_length (site_of file)) })), tt)

first_six : (file : List ℕ) (l : Lent) (q : PublicCall) → take 6 (refusals file l q) ≡ site_refusals file
unfolding refusals site_refusals
first_six file l q = refl

after_seven : (file : List ℕ) (l : Lent) (q : PublicCall) → drop 7 (refusals file l q) ≡ later_refusals (site_of file) l q
unfolding refusals site_refusals
after_seven file l q = refl

-- ---- 19

travel_says : (d : ℕ) → Says (travel_refusals d) (travel_paper d)
unfolding travel_refusals
travel_says d = (told 19 (record { then = λ h. omega (arith, ltb-true last_distance d h); back = λ above. lt-ltb last_distance d (omega arith) }), tt)

-- ---- 20

draw_six : (file light : List ℕ) (k : ℕ) → take 6 (draw_refusals file light k) ≡ site_refusals file
unfolding draw_refusals site_refusals
draw_six file light k = refl

draw_later : (file light : List ℕ) (k : ℕ) → drop 6 (draw_refusals file light k) ≡ picture_refusals (site_of file) light k
unfolding draw_refusals site_refusals
draw_later file light k = refl

draw_says : (site : Site) (light : List ℕ) (k : ℕ) → Bytes light → Says (picture_refusals site light k) (draw_paper site light (light_of light) k)
unfolding picture_refusals
draw_says site light k bytes = (
  told 8 (tells_not (tells_is_light light bytes)),
  (told 10 (tells_not (tells_light site (light_of light))), (told 20 (tells_or (tells_lt 16 k) (tells_eq (length site.centres) 0)), tt)),
)

pub refusals_say : RefusalsSay
refusals_say = record {
  first_six = first_six;
  after_seven = after_seven;
  file = file_says;
  fields = fields_say;
  read = written_read;
  motions = motions_say;
  board = board_says;
  later = λ site well l size q given. later_says site well l size q given;
  travel = travel_says;
  draw_six = draw_six;
  draw_later = draw_later;
  draw = draw_says;
}
