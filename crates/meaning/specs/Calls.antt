-- The calls: the list of refusals, and what each call returns and leaves in what it was lent ('Calls' of docs/FORMATS.md).
-- Assumes nothing.
use Rattle.std.specs.Prelude.{ℕ, zero, suc, ◌+◌, ◌*◌, Bool, true, false, cond, not, List, [], ◌∷◌, ◌++◌, leb, ltb, eqb, length, drop, replicate}
use Rattle.std.proofs.Math.Option.{Option, none, some}
use Rattle.meaning.specs.Limits.{dwell_limit, last_distance, last_edition, field_header, light_head_size, step_size}
use Rattle.meaning.specs.Basics.{every, all, is_none}
use Rattle.meaning.specs.Answers.{Refusal, ◌if◌, lowest}
use Rattle.meaning.specs.Site.{Site, standing, site_of, site_refusals}
use Rattle.meaning.specs.Board.{Free, free, closable, stands, is_tug, is_closure, is_holder, board_length, edition, Pair, run_to, all_free, mark, clear, next_edition}
use Rattle.meaning.specs.Plan.{Step, wait, move, Node, plan_end, can_unload, plan_pairs}
use Rattle.meaning.specs.Reach.{Route, find_route}
use Rattle.meaning.specs.Light.{Light, start_of, goal_of, encode, light_of, is_light}
use Rattle.meaning.specs.Intervals.{Interval, intervals, numbers_of}

-- ---- the calls and their own arguments

-- the calls of 'Lists of calls' of docs/FORMATS.md
pub data Call : Type 0 where
  route : (tug : ℕ) (start : Node) (goal dwell : ℕ) → Call
  audit : (light : List ℕ) → Call
  post : (light : List ℕ) → Call
  close : (holder cell first last : ℕ) → Call
  withdraw : (holder : ℕ) → Call

-- all public calls but travel, which is lent nothing
pub data PublicCall : Type 0 where
  opening : PublicCall
  interval : (cell : ℕ) → PublicCall
  listed : Call → PublicCall

-- ---- what the refusals read

-- what is read of a board: bytes give it, and the entries of the plain board
pub record View : Type 0 where
  pub edition : ℕ
  pub stands : ℕ → Bool
  pub free : Free
  pub closable : Free

unfoldable pub bytes_view : Site → List ℕ → View
bytes_view site board = record { edition = edition board; stands = stands board; free = free site board; closable = closable site board }

-- the areas, as lengths: the output area, and the working words
pub record Room : Type 0 where
  pub out : ℕ
  pub words : ℕ

-- ---- the tests

-- 10: the states and ticks that a call names, and the dwell
unfoldable pub trip_named : Site → Node → ℕ → ℕ → Bool
trip_named site a goal dwell =
    every (ltb a.state (length site.states) ∷ leb a.tick site.horizon ∷ ltb goal (length site.states) ∷ leb dwell dwell_limit ∷ [])

unfoldable pub run_named : Site → ℕ → ℕ → ℕ → Bool
run_named site cell first last =
    every (ltb cell site.cells ∷ leb first site.horizon ∷ leb last site.horizon ∷ leb first last ∷ [])

abbrev pub step_named : Site → Step → Bool
step_named site (wait n) = true
step_named site (move m) = ltb m (length site.motions)

unfoldable pub light_named : Site → Light → Bool
light_named site l =
    every (trip_named site (start_of l) l.goal l.dwell ∷ leb l.arrival site.horizon ∷ all (step_named site) l.steps ∷ [])

-- 14: a light has at most one step a tick; a search has a word for each state and tick
abbrev pub light_room : Site → ℕ
light_room site = (field_header + light_head_size) + (field_header + step_size) * site.horizon

abbrev pub words_needed : Site → ℕ
words_needed site = length site.states * (site.horizon + 1)

abbrev pub numbers_room : Site → ℕ
numbers_room site = site.horizon + 2

-- 17: the steps are a valid plan that ends at the light's goal and arrival and unloads there
abbrev pub is_at : ℕ → ℕ → Option Node → Bool
is_at s t none = false
is_at s t (some a) = every (eqb a.state s ∷ eqb a.tick t ∷ [])

unfoldable pub light_valid : Site → Free → Light → Bool
light_valid site f l =
    every (is_at l.goal l.arrival (plan_end site f (start_of l) l.steps) ∷ can_unload site f (goal_of l) l.dwell ∷ [])

-- ---- the list of refusals, call by call

-- up to 14; then the search answers
unfoldable pub route_refusals : Site → View → Room → ℕ → Node → ℕ → ℕ → List Refusal
route_refusals site v room tug a goal dwell =
    9 if not (is_tug tug)
    ∷ 10 if not (trip_named site a goal dwell)
    ∷ 11 if not (standing site goal)
    ∷ 12 if v.stands tug
    ∷ 14 if not (every (leb (light_room site) room.out ∷ leb (words_needed site) room.words ∷ []))
    ∷ 18 if is_none (find_route site v.free a goal dwell)
    ∷ []

unfoldable pub light_refusals : Site → View → List ℕ → List Refusal
light_refusals site v light =
    8 if not (is_light light)
    ∷ 9 if not (is_tug (light_of light).tug)
    ∷ 10 if not (light_named site (light_of light))
    ∷ 11 if not (standing site (light_of light).goal)
    ∷ 12 if v.stands (light_of light).tug
    ∷ 15 if eqb v.edition last_edition
    ∷ 16 if not (eqb (light_of light).edition v.edition)
    ∷ 17 if not (light_valid site v.free (light_of light))
    ∷ []

unfoldable pub close_refusals : Site → View → ℕ → ℕ → ℕ → ℕ → List Refusal
close_refusals site v h cell first last =
    9 if not (is_closure h)
    ∷ 10 if not (run_named site cell first last)
    ∷ 12 if v.stands h
    ∷ 15 if eqb v.edition last_edition
    ∷ 17 if not (all_free v.closable (run_to cell first last))
    ∷ []

unfoldable pub withdraw_refusals : View → ℕ → List Refusal
withdraw_refusals v h =
    9 if not (is_holder h)
    ∷ 13 if not (v.stands h)
    ∷ 15 if eqb v.edition last_edition
    ∷ []

abbrev pub call_refusals : Site → View → Room → Call → List Refusal
call_refusals site v room (route tug a goal dwell) = route_refusals site v room tug a goal dwell
call_refusals site v room (audit light) = light_refusals site v light
call_refusals site v room (post light) = light_refusals site v light
call_refusals site v room (close h cell first last) = close_refusals site v h cell first last
call_refusals site v room (withdraw h) = withdraw_refusals v h

unfoldable pub interval_refusals : Site → Room → ℕ → List Refusal
interval_refusals site room cell = 10 if not (ltb cell site.cells) ∷ 14 if not (leb (numbers_room site) room.out) ∷ []

-- of the travel call: a distance without an entry, and nothing else
unfoldable pub travel_refusals : ℕ → List Refusal
travel_refusals d = 19 if ltb last_distance d ∷ []

-- ---- what a caller lends

-- the board's bytes, the output area (bytes for a route, 16-bit numbers for an interval), the working words
pub record Lent : Type 0 where
  pub board : List ℕ
  pub out : List ℕ
  pub words : List ℕ

abbrev pub lends : List ℕ → List ℕ → List ℕ → Lent
lends board out words = record { board = board; out = out; words = words }

-- a board with no areas
abbrev pub on_board : List ℕ → Lent
on_board board = lends board [] []

abbrev pub room_of : Lent → Room
room_of l = record { out = length l.out; words = length l.words }

abbrev pub with_board : List ℕ → Lent → Lent
with_board board l = lends board l.out l.words

-- new numbers in front of an area, and later ones as before
abbrev pub over : List ℕ → List ℕ → List ℕ
over new area = new ++ drop (length new) area

abbrev pub with_out : List ℕ → Lent → Lent
with_out new l = lends l.board (over new l.out) l.words

-- the words that a search needs are zero, and later ones as before
abbrev pub with_words_zero : Site → Lent → Lent
with_words_zero site l = lends l.board l.out (over (replicate (words_needed site) 0) l.words)

-- ---- every refusal of a call, 1 to 7 first

abbrev pub later_refusals : Site → Lent → PublicCall → List Refusal
later_refusals site l opening = []
later_refusals site l (interval cell) = interval_refusals site (room_of l) cell
later_refusals site l (listed c) = call_refusals site (bytes_view site l.board) (room_of l) c

unfoldable pub refusals : List ℕ → Lent → PublicCall → List Refusal
refusals file l q =
    site_refusals file ++ (7 if not (eqb (length l.board) (board_length (site_of file))) ∷ later_refusals (site_of file) l q)

-- ---- accepted calls

-- what is found; what stands for nothing is never used
abbrev pub route_found : Option Route → Route
route_found none = record { steps = []; arrival = 0 }
route_found (some r) = r

-- the light of a granted route: the traced plan, made from the board's edition
unfoldable pub granted_light : Site → View → ℕ → Node → ℕ → ℕ → Light
granted_light site v tug a goal dwell =
    let r : Route = route_found (find_route site v.free a goal dwell) in
    record {
      edition = v.edition;
      tug = tug;
      start = a.state;
      tick = a.tick;
      goal = goal;
      arrival = r.arrival;
      dwell = dwell;
      steps = r.steps;
    }

abbrev pub light_pairs : Site → Light → List Pair
light_pairs site l = plan_pairs site (start_of l) l.steps (goal_of l) l.dwell

-- the board after an accepted call: post, close and withdraw change it and add 1 to the edition
unfoldable pub changed : Site → List ℕ → Call → List ℕ
changed site board (route tug a goal dwell) = board
changed site board (audit light) = board
changed site board (post light) = next_edition board (mark site (light_of light).tug (light_pairs site (light_of light)) board)
changed site board (close h cell first last) = next_edition board (mark site h (run_to cell first last) board)
changed site board (withdraw h) = next_edition board (clear h board)

-- ---- what a call returns and leaves

-- 0 or the refusal's number, and beside 0 a route's length and arrival, an interval's count
pub record Done : Type 0 where
  pub number : ℕ
  pub values : List ℕ
  pub lent : Lent

abbrev pub granted_done : Site → Lent → Light → Done
granted_done site l light =
    record {
      number = 0;
      values = length (encode light) ∷ light.arrival ∷ [];
      lent = with_out (encode light) (with_words_zero site l);
    }

abbrev pub counted_done : Lent → List Interval → Done
counted_done l is = record { number = 0; values = length is ∷ []; lent = with_out (numbers_of is) l }

abbrev pub changed_done : Lent → List ℕ → Done
changed_done l board = record { number = 0; values = []; lent = with_board board l }

unfoldable pub accepted_done : Site → Lent → PublicCall → Done
accepted_done site l opening = changed_done l (replicate (length l.board) 0)
accepted_done site l (interval cell) = counted_done l (intervals (free site l.board cell) site.horizon)
accepted_done site l (listed (route tug a goal dwell)) = granted_done site l (granted_light site (bytes_view site l.board) tug a goal dwell)
accepted_done site l (listed (audit light)) = changed_done l (changed site l.board (audit light))
accepted_done site l (listed (post light)) = changed_done l (changed site l.board (post light))
accepted_done site l (listed (close h cell first last)) = changed_done l (changed site l.board (close h cell first last))
accepted_done site l (listed (withdraw h)) = changed_done l (changed site l.board (withdraw h))

-- a refusal returns its number alone and leaves all as before, but for 18's working words
unfoldable pub refused_done : Site → Lent → ℕ → Done
refused_done site l n = record { number = n; values = []; lent = cond (eqb n 18) (with_words_zero site l) l }

abbrev pub done_by : Site → Lent → PublicCall → ℕ → Done
done_by site l q zero = accepted_done site l q
done_by site l q (suc n) = refused_done site l (suc n)

-- what a call returns and leaves, over any site file and anything lent
unfoldable pub meant : List ℕ → Lent → PublicCall → Done
meant file l q = done_by (site_of file) l q (lowest (refusals file l q))
