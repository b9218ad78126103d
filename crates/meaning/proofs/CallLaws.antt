-- Laws of the desk of the definitions: its number, and what an accepted, a refused and a granted call leave.
-- Assumes nothing.
use Prim.Native.Nat.{ℕ, zero, suc, ◌+◌, ◌-◌, ◌≤◌, ◌<◌}
use native.Mathlib.Omega.{arith}
use mathlib.Core.Path.{◌≡◌, refl, sym, ap, ◌∙◌}
use mathlib.Core.Bool.{Bool, true, false, cond, not, true≢false}
use mathlib.Core.Option.{Option, none, some}
use mathlib.Core.List.{List, [], ◌∷◌, ◌++◌}
use lib.Dec.{leb, eqb}
use borrow.Author.Tests.{leb-true, eqb-true, ne_eqb, not-false, ltb-true, eq-eqb}
use lib.ListN.{length, get_or, take, drop, length-append, length-drop, get_or-append}
use lib.Seq.{get_or-append-add, get_or-drop, take-append_seam}
use Rattle.meaning.specs.Limits.{dwell_limit}
use Rattle.meaning.specs.Basics.{every, Each, is_none}
use Rattle.meaning.specs.Answers.{Refusal, ◌if◌, lowest, Clears, accepted}
use Rattle.meaning.specs.Site.{Site, standing, site_of, site_refusals, read_site}
use Rattle.meaning.specs.Board.{is_tug, board_length}
use Rattle.meaning.specs.Plan.{Node}
use Rattle.meaning.specs.Reach.{Route, find_route}
use Rattle.meaning.specs.Light.{encode}
use Rattle.meaning.specs.Calls.{Call, route, audit, post, close, withdraw, PublicCall, opening, interval, listed, View, bytes_view, trip_named, light_room, words_needed, route_refusals, Lent, room_of, over, with_words_zero, later_refusals, refusals, granted_light, changed, Done, accepted_done, refused_done, done_by, meant}
use Rattle.meaning.specs.PlainBoard.{Seen, seen_by}
use Rattle.meaning.specs.Demands.{Written, light_out}
use Rattle.meaning.proofs.BasicsLaws.{decide, every_at, each_append}
use Rattle.meaning.proofs.AnswersLaws.{Passed, lowest_hit, lowest_miss, lowest_clear, lowest_none, rise_before, lowest_append, all_rise}
use Rattle.meaning.proofs.SiteLaws.{site_read}

-- ---- areas

pub written : (new area : List ℕ) → length new ≤ length area → Written new area (over new area)
written new area fits = record {
  same_length = length-append new (drop (length new) area) ∙ (let rest : length (drop (length new) area) ≡ length area - length new = length-drop (length new) area in omega arith);
  front = λ i lt. get_or-append new (drop (length new) area) 0 i lt;
  later = λ i le.
      let index : i ≡ length new + (i - length new) = omega arith in
      ap (λ (j : ℕ). get_or (over new area) j 0) index
      ∙ get_or-append-add new (drop (length new) area) (i - length new) 0
      ∙ get_or-drop (length new) area (i - length new) 0
      ∙ ap (λ (j : ℕ). get_or area j 0) (sym index);
}

-- ---- the number

accepted_number : (site : Site) (l : Lent) (q : PublicCall) → (accepted_done site l q).number ≡ 0
unfolding accepted_done
accepted_number site l opening = refl
accepted_number site l (interval cell) = refl
accepted_number site l (listed (route tug a goal dwell)) = refl
accepted_number site l (listed (audit light)) = refl
accepted_number site l (listed (post light)) = refl
accepted_number site l (listed (close h cell first last)) = refl
accepted_number site l (listed (withdraw h)) = refl

by_number : (site : Site) (l : Lent) (q : PublicCall) (n : ℕ) → (done_by site l q n).number ≡ n
unfolding refused_done
by_number site l q zero = accepted_number site l q
by_number site l q (suc n) = refl

pub meant_number : (file : List ℕ) (l : Lent) (q : PublicCall) → (meant file l q).number ≡ lowest (refusals file l q)
unfolding meant
meant_number file l q = by_number (site_of file) l q (lowest (refusals file l q))

-- what is meant, by the number
pub meant_by : (file : List ℕ) (l : Lent) (q : PublicCall) (n : ℕ) → lowest (refusals file l q) ≡ n → meant file l q ≡ done_by (site_of file) l q n
unfolding meant
meant_by file l q n e = ap (done_by (site_of file) l q) e

pub meant_accepted : (file : List ℕ) (l : Lent) (q : PublicCall) → (meant file l q).number ≡ 0 → meant file l q ≡ accepted_done (site_of file) l q
meant_accepted file l q e = meant_by file l q 0 (sym (meant_number file l q) ∙ e)

pub refused_same : (site : Site) (l : Lent) (n : ℕ) → (n ≡ 18 → ⊥) → refused_done site l n ≡ record { number = n; values = []; lent = l }
unfolding refused_done
refused_same site l n other = ap (λ (b : Bool). record { number = n; values = []; lent = cond b (with_words_zero site l) l }) (ne_eqb n 18 other)

pub refused_18 : (site : Site) (l : Lent) → refused_done site l 18 ≡ record { number = 18; values = []; lent = with_words_zero site l }
unfolding refused_done
refused_18 site l = refl

-- ---- checks that are passed

-- the three parts of a call's list
pub record Parts (file : List ℕ) (l : Lent) (q : PublicCall) (P : Refusal → Type 0) : Type 0 where
  pub of_site : Each P (site_refusals file)
  pub of_board : P (7 if not (eqb (length l.board) (board_length (site_of file))))
  pub later : Each P (later_refusals (site_of file) l q)

pub parts : (P : Refusal → Type 0) (file : List ℕ) (l : Lent) (q : PublicCall) → Each P (refusals file l q) → Parts file l q P
unfolding refusals
parts P file l q h =
    let (left, right) = each_append P (site_refusals file) (7 if not (eqb (length l.board) (board_length (site_of file))) ∷ later_refusals (site_of file) l q) h in
    record { of_site = left; of_board = right.0; later = right.1 }

module _ (file : List ℕ) (l : Lent) (q : PublicCall) where
  -- a call that no number refuses passed all its checks
  pub none_parts : lowest (refusals file l q) ≡ 0 → Parts file l q Passed
  none_parts e = parts Passed file l q (lowest_none (refusals file l q) (all_rise file l q) e)

  pub accepted_parts : (meant file l q).number ≡ 0 → Parts file l q Passed
  accepted_parts e = none_parts (sym (meant_number file l q) ∙ e)

  -- its file is read as a site
  pub parts_read : Parts file l q Passed → read_site file ≡ accepted (site_of file)
  parts_read p = site_read file (lowest_clear (site_refusals file) p.of_site)

-- past 1 to 7 the later checks give the number
pub later_number : (file : List ℕ) (l : Lent) (q : PublicCall) → Each Passed (site_refusals file) → length l.board ≡ board_length (site_of file)
    → lowest (refusals file l q) ≡ lowest (later_refusals (site_of file) l q)
unfolding refusals
later_number file l q ok size =
    lowest_append (site_refusals file) _ ok
    ∙ lowest_miss _ (later_refusals (site_of file) l q) (ap not (eq-eqb (length l.board) (board_length (site_of file)) size))

pub board_sized : (file : List ℕ) (l : Lent) → Passed (7 if not (eqb (length l.board) (board_length (site_of file)))) → length l.board ≡ board_length (site_of file)
board_sized file l h = eqb-true _ _ (not-false _ h)

-- ---- what a call of a list shows and leaves

abbrev pub seen_of : Done → Seen
seen_of d = record { number = d.number; values = d.values; light = light_out d }

module _ (site : Site) (l : Lent) where
  pub done_seen : (c : Call) (n : ℕ) → seen_of (done_by site l (listed c) n) ≡ seen_by site (bytes_view site l.board) c n
  unfolding accepted_done refused_done
  done_seen (route tug a goal dwell) zero =
      let light : List ℕ = encode (granted_light site (bytes_view site l.board) tug a goal dwell) in
      ap (λ (x : List ℕ). record {
        number = 0;
        values = length light ∷ (granted_light site (bytes_view site l.board) tug a goal dwell).arrival ∷ [];
        light = x;
      }) (take-append_seam light (drop (length light) l.out))
  done_seen (audit light) zero = refl
  done_seen (post light) zero = refl
  done_seen (close h cell first last) zero = refl
  done_seen (withdraw h) zero = refl
  done_seen c (suc n) = refl

  -- the board after a call that is refused with n, or accepted with 0
  abbrev pub board_by : Call → ℕ → List ℕ
  board_by c zero = changed site l.board c
  board_by c (suc n) = l.board

  pub done_board : (c : Call) (n : ℕ) → (done_by site l (listed c) n).lent.board ≡ board_by c n
  unfolding accepted_done refused_done changed
  done_board (route tug a goal dwell) zero = refl
  done_board (audit light) zero = refl
  done_board (post light) zero = refl
  done_board (close h cell first last) zero = refl
  done_board (withdraw h) zero = refl
  done_board c (suc n) = decide (eqb (suc n) 18) (λ e. simp e) (λ e. simp e)

-- ---- a route that passes checks 1 to 14

some_route : (o : Option Route) → is_none o ≡ false → (r : Route) × (o ≡ some r)
some_route none e = absurd (true≢false e)
some_route (some r) e = (r, refl)

-- what route names is of the site
module _ (site : Site) (a : Node) (goal dwell : ℕ) (h : trip_named site a goal dwell ≡ true) where
  pub named_start : a.state < length site.states
  unfolding trip_named
  named_start = ltb-true _ _ (every_at _ h 0)

  pub named_tick : a.tick ≤ site.horizon
  unfolding trip_named
  named_tick = leb-true _ _ (every_at _ h 1)

  pub named_goal : goal < length site.states
  unfolding trip_named
  named_goal = ltb-true _ _ (every_at _ h 2)

  pub named_dwell : dwell ≤ dwell_limit
  unfolding trip_named
  named_dwell = leb-true _ _ (every_at _ h 3)

pub record PassesTo14 (site : Site) (l : Lent) (tug : ℕ) (a : Node) (goal dwell : ℕ) : Type 0 where
  pub is_tug_lem : is_tug tug ≡ true
  pub named : trip_named site a goal dwell ≡ true
  pub goal_stands : standing site goal ≡ true
  pub light_room_lem : light_room site ≤ length l.out
  pub words_room : words_needed site ≤ length l.words

module _ (file : List ℕ) (l : Lent) (tug : ℕ) (a : Node) (goal dwell : ℕ) where
  abbrev site : Site
  site = site_of file

  abbrev v : View
  v = bytes_view site l.board

  abbrev call : PublicCall
  call = listed (route tug a goal dwell)

  facts : (P : Refusal → Type 0) → ((r : Refusal) → r.number ≤ 14 → P r → Passed r) → Each P (route_refusals site v (room_of l) tug a goal dwell)
      → PassesTo14 site l tug a goal dwell
  unfolding route_refusals
  facts P pass (h9, (h10, (h11, (h12, (h14, rest))))) =
      let fit : every (leb (light_room site) (length l.out) ∷ leb (words_needed site) (length l.words) ∷ []) ≡ true = not-false _ (pass _ (omega arith) h14) in
      record {
        is_tug_lem = not-false _ (pass _ (omega arith) h9);
        named = not-false _ (pass _ (omega arith) h10);
        goal_stands = not-false _ (pass _ (omega arith) h11);
        light_room_lem = leb-true _ _ (every_at _ fit 0);
        words_room = leb-true _ _ (every_at _ fit 1);
      }

  pub passes_to_14 : Clears 14 (refusals file l call) → PassesTo14 site l tug a goal dwell
  passes_to_14 h = facts (λ (r : Refusal). r.number ≤ 14 → r.applies ≡ false) (λ r le p. p le) (parts (λ (r : Refusal). r.number ≤ 14 → r.applies ≡ false) file l call h).later

  pub refused_to_14 : (meant file l call).number ≡ 18 → PassesTo14 site l tug a goal dwell
  refused_to_14 e =
      facts (λ (r : Refusal). r.number < 18 → r.applies ≡ false) (λ r le p. p (omega arith))
      (parts (λ (r : Refusal). r.number < 18 → r.applies ≡ false) file l call
      (rise_before 0 (refusals file l call) (all_rise file l call) 18 (sym (meant_number file l call) ∙ e))).later

  pub accepted_to_14 : (meant file l call).number ≡ 0 → PassesTo14 site l tug a goal dwell
  accepted_to_14 e = facts Passed (λ r le p. p) (accepted_parts file l call e).later

  -- then the search answers
  search_number : Clears 14 (refusals file l call) → lowest (refusals file l call) ≡ lowest (18 if is_none (find_route site v.free a goal dwell) ∷ [])
  unfolding refusals route_refusals site_refusals
  search_number (h1, (h2, (h3, (h4, (h5, (h6, (h7, (h9, (h10, (h11, (h12, (h14, rest)))))))))))) =
      lowest_append (site_refusals file ++ (7 if not (eqb (length l.board) (board_length site)) ∷ before_18))
      (18 if is_none (find_route site v.free a goal dwell) ∷ []) (
        h1 (omega arith),
        (h2 (omega arith), (h3 (omega arith), (h4 (omega arith), (h5 (omega arith), (h6 (omega arith), (h7 (omega arith), (h9 (omega arith), (h10 (omega arith), (h11 (omega arith), (h12 (omega arith), (h14 (omega arith), tt))))))))))),
      )
    where
      before_18 : List Refusal
      before_18 = take 5 (route_refusals site v (room_of l) tug a goal dwell)

  -- found: the call is granted
  pub search_found : Clears 14 (refusals file l call) → is_none (find_route site v.free a goal dwell) ≡ false → (meant file l call).number ≡ 0
  search_found h e = meant_number file l call ∙ search_number h ∙ lowest_miss _ [] e ∙ lowest_clear [] tt

  pub search_none : Clears 14 (refusals file l call) → is_none (find_route site v.free a goal dwell) ≡ true → (meant file l call).number ≡ 18
  search_none h e = meant_number file l call ∙ search_number h ∙ lowest_hit _ [] e

  -- granted: a route was found
  pub granted_found : (meant file l call).number ≡ 0 → (r : Route) × (find_route site v.free a goal dwell ≡ some r)
  unfolding route_refusals
  granted_found e =
      let (h9, (h10, (h11, (h12, (h14, (h18, rest)))))) = (accepted_parts file l call e).later in
      some_route (find_route site v.free a goal dwell) h18
