-- Every desk that answers as the definitions do meets demand 3.
-- Assumes nothing.
use Prim.Native.Nat.{ℕ, zero, suc, ◌-◌, ◌≤◌}
use native.Mathlib.Omega.{arith}
use mathlib.Core.Path.{◌≡◌, refl, sym, ap, ap₂, ◌∙◌, subst}
use mathlib.Core.Bool.{true, false, true≢false}
use mathlib.Core.List.{List, [], ◌∷◌, map}
use lib.Dec.{eqb}
use borrow.Author.Tests.{leb-true, eqb-false, not-false}
use lib.ListN.{length}
use Rattle.meaning.specs.Limits.{last_edition}
use Rattle.meaning.specs.Basics.{Each}
use Rattle.meaning.specs.Answers.{lowest}
use Rattle.meaning.specs.Site.{Site, cell_of, site_of, site_refusals}
use Rattle.meaning.specs.Board.{Free, is_tug, is_closure, is_holder, board_length, edition, run_to, all_free}
use Rattle.meaning.specs.Plan.{plan_end, plan_pairs}
use Rattle.meaning.specs.Light.{Light, start_of, goal_of, light_of}
use Rattle.meaning.specs.Calls.{Call, route, audit, post, close, withdraw, opening, listed, View, bytes_view, run_named, is_at, light_valid, light_refusals, close_refusals, withdraw_refusals, call_refusals, Lent, room_of, refusals, light_pairs, changed, Done, accepted_done, done_by, meant}
use Rattle.meaning.specs.PlainBoard.{Plain, empty_plain, plain_free, plain_closable, plain_view, plain_changed, seen_by, Seen, plain_number, plain_seen, plain_by, plain_after}
use Rattle.meaning.specs.WellFormed.{WellFormed}
use Rattle.meaning.specs.Demands.{Desk, Exact, Turn, Follows, board_after, seen, plain_after_all, plain_seen_all, RouteRight, RouteTurn, ListRight, Demand3}
use Rattle.meaning.proofs.BasicsLaws.{decide, every_at, options}
use Rattle.meaning.proofs.AnswersLaws.{Passed, lowest_none, rise_none, later_rise, site_rise}
use Rattle.meaning.proofs.HolderLaws.{holders_right}
use Rattle.meaning.proofs.PlanLaws.{plan_free}
use Rattle.meaning.proofs.SiteLaws.{read_site_lem, read_well}
use Rattle.meaning.proofs.PlainLaws.{Agree, same_edition, same_view, board_bytes, opened_agrees, tug_entered, closure_entered, released, no_two_in, known_in, spaced_in}
use Rattle.meaning.proofs.CallLaws.{meant_by, meant_accepted, later_number, board_sized, accepted_parts, seen_of, done_seen, board_by, done_board}
use Rattle.meaning.proofs.RouteLaws.{route_right}

-- ---- holders

tug_holder : (h : ℕ) → is_tug h ≡ true → is_holder h ≡ true
tug_holder h e = let (lo, hi) = holders_right.tugs h e in holders_right.all_holders h lo (omega arith)

closure_holder : (h : ℕ) → is_closure h ≡ true → is_holder h ≡ true
closure_holder h e = let (lo, hi) = holders_right.closures h e in holders_right.all_holders h (omega arith) hi

closure_no_tug : (h : ℕ) → is_closure h ≡ true → is_tug h ≡ false
closure_no_tug h e =
    let (lo, hi) = holders_right.closures h e in
    decide (is_tug h) (λ t. let (low, high) = holders_right.tugs h t in absurd (omega arith)) (λ t. t)

-- ---- an accepted call keeps the two boards in agreement

-- a light that is valid holds only free pairs
pub light_free : (site : Site) (f : Free) (x : Light) → light_valid site f x ≡ true → all_free f (light_pairs site x) ≡ true
unfolding light_valid
light_free site f x h =
    options (plan_end site f (start_of x) x.steps)
    (λ e. absurd (true≢false (sym (every_at _ h 0) ∙ ap (is_at x.goal x.arrival) e)))
    (λ b e. plan_free site f (start_of x) x.steps b (goal_of x) x.dwell e (every_at _ h 1))

module _ (site : Site) (board : List ℕ) (p : Plain) (agree : Agree site board p) where
  abbrev v : View
  v = bytes_view site board

  free_of : v.free ≡ plain_free site p.entries
  unfolding plain_view
  free_of = ap (λ (w : View). w.free) (same_view site board p agree)

  closable_of : v.closable ≡ plain_closable site p.entries
  unfolding plain_view
  closable_of = ap (λ (w : View). w.closable) (same_view site board p agree)

  edition_of : v.edition ≡ edition board
  unfolding bytes_view
  edition_of = refl

  not_last : eqb v.edition last_edition ≡ false → edition board ≡ last_edition → ⊥
  not_last e same = eqb-false v.edition last_edition e (edition_of ∙ same)

  post_agrees : (light : List ℕ) → Each Passed (light_refusals site v light) → Agree site (changed site board (post light)) (plain_changed site p (post light))
  unfolding light_refusals changed plain_changed plan_pairs
  post_agrees light (h8, (h9, (h10, (h11, (h12, (h15, (h16, (h17, rest)))))))) =
      let x : Light = light_of light in
      tug_entered site board p agree (not_last h15) x.tug (tug_holder x.tug (not-false _ h9))
      (record { cell = cell_of site x.start; tick = x.tick }) _
      (subst (λ (f : Free). all_free f (light_pairs site x) ≡ true) free_of (light_free site v.free x (not-false _ h17)))

  close_agrees : (h cell first last : ℕ) → Each Passed (close_refusals site v h cell first last)
      → Agree site (changed site board (close h cell first last)) (plain_changed site p (close h cell first last))
  unfolding close_refusals changed plain_changed run_named
  close_agrees h cell first last (h9, (h10, (h12, (h15, (h17, rest))))) =
      let le : first ≤ last = leb-true _ _ (every_at _ (not-false _ h10) 3) in
      let count : suc last - first ≡ suc (last - first) = omega arith in
      let free_run_lem : all_free (plain_closable site p.entries) (run_to cell first last) ≡ true =
      subst (λ (f : Free). all_free f (run_to cell first last) ≡ true) closable_of (not-false _ h17) in
      rw count
      (closure_entered site board p agree (not_last h15) h (closure_holder h (not-false _ h9)) (closure_no_tug h (not-false _ h9)) (record { cell = cell; tick = first }) _
      (rw count at free_run_lem))

  withdraw_agrees : (h : ℕ) → Each Passed (withdraw_refusals v h) → Agree site (changed site board (withdraw h)) (plain_changed site p (withdraw h))
  unfolding withdraw_refusals changed plain_changed
  withdraw_agrees h (h9, (h13, (h15, rest))) = released site board p agree (not_last h15) h

  pub changed_agrees : (l : Lent) (c : Call) → Each Passed (call_refusals site v (room_of l) c) → Agree site (changed site board c) (plain_changed site p c)
  unfolding changed plain_changed
  changed_agrees l (route tug a goal dwell) h = agree
  changed_agrees l (audit light) h = agree
  changed_agrees l (post light) h = post_agrees light h
  changed_agrees l (close k cell first last) h = close_agrees k cell first last h
  changed_agrees l (withdraw k) h = withdraw_agrees k h

-- ---- one call of a list

module _ (file : List ℕ) (ok : Each Passed (site_refusals file)) (l : Lent) (p : Plain) (agree : Agree (site_of file) l.board p) (c : Call) where
  abbrev site : Site
  site = site_of file

  abbrev n : ℕ
  n = plain_number site p (room_of l) c

  called_number : lowest (call_refusals site (bytes_view site l.board) (room_of l) c) ≡ n
  called_number = ap (λ (w : View). lowest (call_refusals site w (room_of l) c)) (same_view site l.board p agree)

  the_number : lowest (refusals file l (listed c)) ≡ n
  the_number = later_number file l (listed c) ok agree.sized ∙ called_number

  the_done : meant file l (listed c) ≡ done_by site l (listed c) n
  the_done = meant_by file l (listed c) n the_number

  call_seen : seen_of (meant file l (listed c)) ≡ plain_seen site p (room_of l) c
  unfolding plain_seen
  call_seen =
      ap seen_of the_done
      ∙ done_seen site l c n
      ∙ ap (λ (w : View). seen_by site w c n) (same_view site l.board p agree)

  by_number : (k : ℕ) → k ≡ n → Agree site (board_by site l c k) (plain_by site p c k)
  by_number zero e =
      changed_agrees site l.board p agree l c
      (rise_none 7 (call_refusals site (bytes_view site l.board) (room_of l) c) (later_rise site l (listed c)) (called_number ∙ sym e))
  by_number (suc k) e = agree

  call_agrees : Agree site (meant file l (listed c)).lent.board (plain_after site p (room_of l) c)
  unfolding plain_after
  call_agrees =
      subst (λ (b : List ℕ). Agree site b (plain_by site p c n)) (sym (ap (λ (d : Done). d.lent.board) the_done ∙ done_board site l c n)) (by_number n refl)

-- ---- a list of calls

module _ (desk : Desk) (exact : Exact desk) (file : List ℕ) (ok : Each Passed (site_refusals file)) (well : WellFormed (site_of file)) where
  record AllRight (board : List ℕ) (p : Plain) (xs : List Turn) : Type 0 where
    answers : map seen xs ≡ plain_seen_all (site_of file) p xs
    agree : Agree (site_of file) (board_after board xs) (plain_after_all (site_of file) p xs)
    routes : Each (RouteTurn file (site_of file)) xs

  all_right : (xs : List Turn) (board : List ℕ) (p : Plain) → Agree (site_of file) board p → Follows desk file board xs → AllRight board p xs
  all_right [] board p agree follows = record { answers = refl; agree = agree; routes = tt }
  all_right (x ∷ xs) board p agree (same, may, follows) =
      let l : Lent = x.lent in
      let c : Call = x.call in
      let now_agree : Agree (site_of file) l.board p = subst (λ (b : List ℕ). Agree (site_of file) b p) (sym same) agree in
      let done_is : x.done ≡ meant file l (listed c) = exact file l (listed c) x.done may in
      let next_agree : Agree (site_of file) x.done.lent.board (plain_after (site_of file) p (room_of l) c) =
      subst (λ (d : Done). Agree (site_of file) d.lent.board (plain_after (site_of file) p (room_of l) c)) (sym done_is) (call_agrees file ok l p now_agree c) in
      let rest : AllRight x.done.lent.board (plain_after (site_of file) p (room_of l) c) xs =
      all_right xs x.done.lent.board (plain_after (site_of file) p (room_of l) c) next_agree follows in
      let fits : edition l.board ≤ last_edition =
      subst (λ (n : ℕ). n ≤ last_edition) (sym (same_edition (site_of file) l.board p now_agree)) now_agree.fits in
      record {
        answers = ap₂ {B = List Seen} (λ y ys. y ∷ ys) (ap seen_of done_is ∙ call_seen file ok l p now_agree c) rest.answers;
        agree = rest.agree;
        routes = (
          λ tug a goal dwell is_route clears.
              subst (RouteRight (site_of file) l.board tug a goal dwell) (sym (done_is ∙ ap (λ (k : Call). meant file l (listed k)) is_route))
              (route_right file well l fits tug a goal dwell clears),
          rest.routes,
        );
      }

  list_right : (board : List ℕ) → Agree (site_of file) board empty_plain → (xs : List Turn) → Follows desk file board xs → ListRight file (site_of file) board xs
  list_right board agree xs follows =
      let every_call : AllRight board empty_plain xs = all_right xs board empty_plain agree follows in
      let last : Plain = plain_after_all (site_of file) empty_plain xs in
      record {
        same_board = board_bytes (site_of file) (board_after board xs) last every_call.agree;
        same_answers = every_call.answers;
        edition_fits = every_call.agree.fits;
        no_two = no_two_in (site_of file) last.entries every_call.agree.clean;
        known = known_in (site_of file) last.entries every_call.agree.clean;
        spaced = spaced_in (site_of file) last.entries every_call.agree.clean;
        routes = every_call.routes;
      }

-- an accepted open made a board that agrees with the empty plain board
open_agrees : (file : List ℕ) (l : Lent) → (meant file l opening).number ≡ 0 → Agree (site_of file) (meant file l opening).lent.board empty_plain
unfolding accepted_done
open_agrees file l z =
    let size : length l.board ≡ board_length (site_of file) =
    board_sized file l (accepted_parts file l opening z).of_board in
    subst (λ (d : Done). Agree (site_of file) d.lent.board empty_plain) (sym (meant_accepted file l opening z))
    (opened_agrees (site_of file) (length l.board) size)

pub exact_demand3 : (desk : Desk) → Exact desk → Demand3 desk
exact_demand3 desk exact = record {
  every_list = λ file site read l d may z xs follows.
      let (number, same) = read_site_lem file site read in
      let done_is : d ≡ meant file l opening = exact file l opening d may in
      let ok : Each Passed (site_refusals file) = lowest_none (site_refusals file) (site_rise file) number in
      let well : WellFormed (site_of file) = subst WellFormed (sym same) (read_well file site read) in
      let made : Agree (site_of file) d.lent.board empty_plain =
      subst (λ (e : Done). Agree (site_of file) e.lent.board empty_plain) (sym done_is)
      (open_agrees file l (sym (ap (λ (e : Done). e.number) done_is) ∙ z)) in
      subst (λ (s : Site). ListRight file s d.lent.board xs) same (list_right desk exact file ok well d.lent.board made xs follows);
}
