-- The lists of refusals say what their sentences say, number by number, of a board of bytes and of the plain board.
-- Assumes nothing.
use Prim.Native.Nat.{ℕ, suc, ◌+◌, ◌*◌, ◌-◌, ◌≤◌, ◌<◌}
use native.Mathlib.Omega.{arith}
use mathlib.Core.Path.{◌≡◌, refl, sym, ap, ◌∙◌}
use mathlib.Core.Bool.{Bool, true, false, not, false≢true, true≢false}
use mathlib.Core.Option.{some}
use mathlib.Core.List.{List, [], ◌∷◌}
use lib.Dec.{leb, eqb}
use borrow.Author.Tests.{eqb-true, eq-eqb, not-false}
use lib.ListN.{length}
use Rattle.meaning.specs.Basics.{every, all, Each, Some, here, there, Bytes, is_none}
use Rattle.meaning.specs.Site.{Site, state_at}
use Rattle.meaning.specs.Board.{is_tug, Free, board_length, Pair, run_to, all_free}
use Rattle.meaning.specs.Plan.{Step, wait, move, Node, plan_end}
use Rattle.meaning.specs.Reach.{find_route}
use Rattle.meaning.specs.Light.{Light, start_of, goal_of, light_of, is_light, decode}
use Rattle.meaning.specs.Calls.{Call, route, audit, post, close, withdraw, PublicCall, opening, interval, listed, View, bytes_view, Room, trip_named, run_named, step_named, light_named, is_at, light_room, words_needed, light_valid, route_refusals, light_refusals, close_refusals, withdraw_refusals, call_refusals, interval_refusals, Lent, room_of, later_refusals, light_pairs}
use Rattle.meaning.specs.PlainBoard.{Entry, Plain, has_pair, taken, tug_taken, plain_free, plain_closable, has_entry, plain_view}
use Rattle.meaning.specs.ValidPlans.{ValidPlan}
use Rattle.meaning.specs.WellFormed.{WellFormed}
use Rattle.meaning.specs.Refusals.{◌says◌, Says, Not, Tug, StepKnown, Sight, bytes_sight, HasEntry, InEntry, plain_sight, FreeFor, MayClose, TripKnown, RunKnown, LightKnown, LightBytes, RouteRoom, call_paper, light_paper, public_paper, LightGiven, GivenBytes, CloseAccepted, LightAccepted, WithdrawAccepted, RouteAccepted, CallAccepted, PlainRight}
use Rattle.meaning.proofs.BasicsLaws.{every_at, every_nil, every_cons, options, any_nil, any_here, any_there, any_case, some_any, any_some, all_each, each_all, all_from_in, all_from_true}
use Rattle.meaning.proofs.SentenceLaws.{Tells, tells_as, tells_not, misses, holds, fails, told, tells_le, tells_lt, tells_eq, tells_two, tells_three, tells_four}
use Rattle.meaning.proofs.BytesLaws.{tells_tug, tells_closure, tells_holder, tells_clear, tells_free_for, tells_closable, tells_stands}
use Rattle.meaning.proofs.LightLaws.{lights_right, decode_some, light_decode}
use Rattle.meaning.proofs.PlanLaws.{plan_valid, valid_plan, can_unload_lem, unload_can, held_pairs, run_free}
use Rattle.meaning.proofs.TraceLaws.{search_right}
use Rattle.meaning.proofs.AnswersLaws.{Passed, rise_none, call_rise, lowest_clear}
use Rattle.meaning.proofs.PlainLaws.{free_pair}
use Rattle.meaning.proofs.ListLaws.{light_free}

-- ---- 10, 14, 17 and 18

-- the test of a light decides whether its plan is valid, ends at its goal and arrival, and unloads there
module _ (site : Site) (f : Free) (x : Light) where
  pub valid_light : ValidPlan site f (start_of x) x.steps (goal_of x) x.dwell → light_valid site f x ≡ true
  unfolding light_valid
  valid_light v =
      every_cons _ _
      (ap (is_at x.goal x.arrival) (valid_plan site f (start_of x) x.steps (goal_of x) v.valid)
      ∙ every_cons _ _ (eq-eqb x.goal x.goal refl) (every_cons _ _ (eq-eqb x.arrival x.arrival refl) every_nil))
      (every_cons _ _ (unload_can site f (goal_of x) x.dwell v.unloads) every_nil)

  pub light_valid_lem : light_valid site f x ≡ true → ValidPlan site f (start_of x) x.steps (goal_of x) x.dwell
  unfolding light_valid
  light_valid_lem h =
      options (plan_end site f (start_of x) x.steps)
      (λ e. absurd (false≢true (sym (ap (is_at x.goal x.arrival) e) ∙ every_at _ h 0)))
      (λ b e.
      let at_goal : is_at x.goal x.arrival (some b) ≡ true = sym (ap (is_at x.goal x.arrival) e) ∙ every_at _ h 0 in
      let same_state : b.state ≡ x.goal = eqb-true _ _ (every_at _ at_goal 0) in
      let same_tick : b.tick ≡ x.arrival = eqb-true _ _ (every_at _ at_goal 1) in
      let same : b ≡ goal_of x = (λ i. record { state = same_state i; tick = same_tick i }) in
      record {
        valid = plan_valid site f (start_of x) x.steps (goal_of x) (e ∙ ap (λ (n : Node). some n) same);
        unloads = can_unload_lem site f (goal_of x) x.dwell (every_at _ h 1);
      })

module _ (site : Site) where
  tells_trip : (a : Node) (goal dwell : ℕ) → Tells (trip_named site a goal dwell) (TripKnown site a goal dwell)
  unfolding trip_named
  tells_trip a goal dwell = tells_four (tells_lt _ _) (tells_le _ _) (tells_lt _ _) (tells_le dwell 1000)

  tells_run : (cell first last : ℕ) → Tells (run_named site cell first last) (RunKnown site cell first last)
  unfolding run_named
  tells_run cell first last = tells_four (tells_lt _ _) (tells_le _ _) (tells_le _ _) (tells_le _ _)

  tells_step : (p : Step) → Tells (step_named site p) (StepKnown site p)
  tells_step (wait n) = record { then = λ e. tt; back = λ u. refl }
  tells_step (move m) = tells_lt m (length site.motions)

  tells_steps : (ps : List Step) → Tells (all (step_named site) ps) (Each (StepKnown site) ps)
  tells_steps ps = record {
    then = all_each (StepKnown site) (step_named site) (λ p. (tells_step p).then) ps;
    back = each_all (StepKnown site) (step_named site) (λ p. (tells_step p).back) ps;
  }

  pub tells_light : (x : Light) → Tells (light_named site x) (LightKnown site x)
  unfolding light_named
  tells_light x = tells_three (tells_trip (start_of x) x.goal x.dwell) (tells_le x.arrival site.horizon) (tells_steps x.steps)

  tells_valid : (f : Free) (x : Light) → Tells (light_valid site f x) (ValidPlan site f (start_of x) x.steps (goal_of x) x.dwell)
  tells_valid f x = record { then = light_valid_lem site f x; back = valid_light site f x }

  tells_run_free : (f : Free) (Unheld : ℕ → ℕ → Type 0) → ((c t : ℕ) → Tells (f c t) (Unheld c t)) → (cell first last : ℕ)
      → Tells (all_free f (run_to cell first last)) ((t : ℕ) → first ≤ t → t ≤ last → Unheld cell t)
  tells_run_free f Unheld unheld cell first last =
      let same : _ = run_free f cell first (suc last - first) in
      record {
        then = λ h t lo hi. (unheld cell t).then (all_from_in (f cell) first (suc last - first) t (sym same ∙ h) lo (omega arith));
        back = λ h. same ∙ all_from_true (f cell) first (suc last - first) (λ t lo hi. (unheld cell t).back (h t lo (omega arith)));
      }

  tells_none : WellFormed site → (f : Free) (a : Node) (goal dwell : ℕ)
      → Tells (is_none (find_route site f a goal dwell)) ((ps : List Step) (t : ℕ) → Not (ValidPlan site f a ps (record { state = goal; tick = t }) dwell))
  tells_none well f a goal dwell =
      options (find_route site f a goal dwell)
      (λ e. record { then = λ h ps t v. search_right.found site well f a goal dwell ps t v e; back = λ never. ap is_none e })
      (λ r e. record {
        then = λ h. absurd (false≢true (sym (ap is_none e) ∙ h));
        back = λ never. absurd (never r.steps r.arrival (search_right.valid site well f a goal dwell r e));
      })

-- ---- 8

-- bytes that are a light's are read as that light
pub read_light : (light : List ℕ) (x : Light) → LightBytes light x → (is_light light ≡ true) × (light_of light ≡ x)
read_light light x (keeps, same) = decode_some light x (ap decode (sym same) ∙ lights_right.read_back x keeps)

pub tells_is_light : (light : List ℕ) → Bytes light → Tells (is_light light) ((y : Light) × LightBytes light y)
tells_is_light light bytes = record {
  then = λ h.
      let (keeps, same) = lights_right.only_those light (light_of light) bytes (light_decode light h) in
      (light_of light, (keeps, same));
  back = λ (y, bytes). (read_light light y bytes).0;
}

-- ---- what calls see, as tests and in words

-- the tests of a view say what the words of a sight say
pub record Sees (site : Site) (v : View) (s : Sight) : Type 0 where
  pub same_edition : v.edition ≡ s.edition
  pub same_free : v.free ≡ s.free
  pub standing : (h : ℕ) → Tells (v.stands h) (s.Standing h)
  pub free_for : (c t : ℕ) → Tells (s.free c t) (FreeFor site s c t)
  pub may_close : (c t : ℕ) → Tells (v.closable c t) (MayClose site s c t)

pub bytes_seen : (site : Site) (board : List ℕ) → length board ≡ board_length site → Sees site (bytes_view site board) (bytes_sight site board)
unfolding bytes_view
bytes_seen site board size = record {
  same_edition = refl;
  same_free = refl;
  standing = tells_stands site board size;
  free_for = tells_free_for site board;
  may_close = tells_closable site board;
}

tells_pair : (ps : List Pair) (c t : ℕ) → Tells (has_pair ps c t) (Some (λ (p : Pair). (p.cell ≡ c) × (p.tick ≡ t)) ps)
tells_pair ps c t = record {
  then = any_some (λ (p : Pair). (p.cell ≡ c) × (p.tick ≡ t)) (λ (p : Pair). every (eqb p.cell c ∷ eqb p.tick t ∷ [])) (λ p. (tells_two (tells_eq p.cell c) (tells_eq p.tick t)).then) ps;
  back = some_any (λ (p : Pair). (p.cell ≡ c) × (p.tick ≡ t)) (λ (p : Pair). every (eqb p.cell c ∷ eqb p.tick t ∷ [])) (λ p. (tells_two (tells_eq p.cell c) (tells_eq p.tick t)).back);
}

-- a pair is in an entry exactly if somebody holds it, and in one of a tug's if a tug does
taken_by : (es : List Entry) (c t : ℕ) → taken es c t ≡ true → (h : ℕ) × InEntry es h c t
taken_by [] c t e = absurd (true≢false (sym e ∙ any_nil (λ (x : Entry). has_pair x.pairs c t)))
taken_by (x ∷ es) c t e =
    any_case (λ (y : Entry). has_pair y.pairs c t) x es e
    (λ q. (x.holder, here (refl, (tells_pair x.pairs c t).then q)))
    (λ q k. let (h, held) = taken_by es c t k in (h, there held))

by_taken : (es : List Entry) (h c t : ℕ) → InEntry es h c t → taken es c t ≡ true
by_taken [] h c t x' = elim x' [ ]
by_taken (x ∷ es) h c t (here (same, q)) = any_here (λ (y : Entry). has_pair y.pairs c t) x es ((tells_pair x.pairs c t).back q)
by_taken (x ∷ es) h c t (there s) = any_there (λ (y : Entry). has_pair y.pairs c t) x es (by_taken es h c t s)

tells_taken : (es : List Entry) (c t : ℕ) → Tells (taken es c t) ((h : ℕ) × InEntry es h c t)
tells_taken es c t = record { then = taken_by es c t; back = λ (h, held). by_taken es h c t held }

abbrev of_tug : ℕ → ℕ → Entry → Bool
of_tug c t e = every (is_tug e.holder ∷ has_pair e.pairs c t ∷ [])

taken_by_tug : (es : List Entry) (c t : ℕ) → tug_taken es c t ≡ true → (h : ℕ) × Tug h × InEntry es h c t
taken_by_tug [] c t e = absurd (true≢false (sym e ∙ any_nil (of_tug c t)))
taken_by_tug (x ∷ es) c t e =
    any_case (of_tug c t) x es e
    (λ q. (x.holder, (tells_tug x.holder).then (every_at _ q 0), here (refl, (tells_pair x.pairs c t).then (every_at _ q 1))))
    (λ q k. let (h, tug, held) = taken_by_tug es c t k in (h, tug, there held))

by_tug_taken : (es : List Entry) (h c t : ℕ) → Tug h → InEntry es h c t → tug_taken es c t ≡ true
by_tug_taken [] h c t tug x'' = elim x'' [ ]
by_tug_taken (x ∷ es) h c t tug (here (same, q)) =
    any_here (of_tug c t) x es (every_cons _ _ (ap is_tug same ∙ (tells_tug h).back tug) (every_cons _ _ ((tells_pair x.pairs c t).back q) every_nil))
by_tug_taken (x ∷ es) h c t tug (there s) = any_there (of_tug c t) x es (by_tug_taken es h c t tug s)

tells_tug_taken : (es : List Entry) (c t : ℕ) → Tells (tug_taken es c t) ((h : ℕ) × Tug h × InEntry es h c t)
tells_tug_taken es c t = record { then = taken_by_tug es c t; back = λ (h, tug, held). by_tug_taken es h c t tug held }

tells_entry : (es : List Entry) (h : ℕ) → Tells (has_entry es h) (HasEntry es h)
tells_entry es h = record {
  then = any_some (λ (e : Entry). e.holder ≡ h) (λ (e : Entry). eqb e.holder h) (λ e. (tells_eq e.holder h).then) es;
  back = some_any (λ (e : Entry). e.holder ≡ h) (λ (e : Entry). eqb e.holder h) (λ e. (tells_eq e.holder h).back);
}

tells_plain_free : (site : Site) (p : Plain) (c t : ℕ) → Tells (plain_free site p.entries c t) (FreeFor site (plain_sight site p) c t)
unfolding plain_free
tells_plain_free site p c t =
    let es : List Entry = p.entries in
    tells_as
    (tells_three (tells_lt c site.cells) (tells_le t site.horizon)
    (tells_clear site (taken es c) (λ (x : ℕ). (h : ℕ) × InEntry es h c x) (tells_taken es c) t))
    (λ (hc, ht, none). (hc, ht, λ h x le near held. none x le near (h, held)))
    (λ (hc, ht, none). (hc, ht, λ x le near (h, held). none h x le near held))

tells_plain_closable : (site : Site) (p : Plain) (c t : ℕ) → Tells (plain_closable site p.entries c t) (MayClose site (plain_sight site p) c t)
unfolding plain_closable
tells_plain_closable site p c t =
    let es : List Entry = p.entries in
    tells_as
    (tells_four (tells_lt c site.cells) (tells_le t site.horizon) (tells_not (tells_taken es c t))
    (tells_clear site (tug_taken es c) (λ (x : ℕ). (h : ℕ) × Tug h × InEntry es h c x) (tells_tug_taken es c) t))
    (λ (hc, ht, none, no_tug). ((hc, ht, λ h held. none (h, held)), λ h x le near tug held. no_tug x le near (h, tug, held)))
    (λ ((hc, ht, none), no_tug). (hc, ht, (λ (h, held). none h held), λ x le near (h, tug, held). no_tug h x le near tug held))

pub plain_seen_lem : (site : Site) (p : Plain) → Sees site (plain_view site p) (plain_sight site p)
unfolding plain_view
plain_seen_lem site p = record {
  same_edition = refl;
  same_free = refl;
  standing = tells_entry p.entries;
  free_for = tells_plain_free site p;
  may_close = tells_plain_closable site p;
}

-- ---- the lists

module _ (site : Site) (well : WellFormed site) (v : View) (s : Sight) (sees : Sees site v s) where
  tells_edition : Tells (eqb v.edition 4294967295) (s.edition ≡ 4294967295)
  tells_edition = rw sees.same_edition (tells_eq s.edition 4294967295)

  tells_same : (x : Light) → Tells (eqb x.edition v.edition) (x.edition ≡ s.edition)
  tells_same x = rw sees.same_edition (tells_eq x.edition s.edition)

  tells_plan : (x : Light) → Tells (light_valid site v.free x) (ValidPlan site s.free (start_of x) x.steps (goal_of x) x.dwell)
  tells_plan x = rw sees.same_free (tells_valid site s.free x)

  tells_no_route : (a : Node) (goal dwell : ℕ)
      → Tells (is_none (find_route site v.free a goal dwell))
      ((ps : List Step) (t : ℕ) → Not (ValidPlan site s.free a ps (record { state = goal; tick = t }) dwell))
  tells_no_route a goal dwell = rw sees.same_free (tells_none site well s.free a goal dwell)

  tells_open : (cell first last : ℕ) → Tells (all_free v.closable (run_to cell first last)) ((t : ℕ) → first ≤ t → t ≤ last → MayClose site s cell t)
  tells_open cell first last = tells_run_free site v.closable (MayClose site s) sees.may_close cell first last

  tells_room : (room : Room) → Tells (every (leb (light_room site) room.out ∷ leb (words_needed site) room.words ∷ [])) (RouteRoom site room)
  tells_room room = tells_two (tells_le (18 + 5 * site.horizon) room.out) (tells_le (length site.states * (site.horizon + 1)) room.words)

  tells_stand : (n : ℕ) → Tells (eqb (state_at site n).speed 0) ((state_at site n).speed ≡ 0)
  tells_stand n = tells_eq (state_at site n).speed 0

  light_says : (light : List ℕ) → Bytes light → Says (light_refusals site v light) (light_paper site s light (light_of light))
  unfolding light_refusals
  light_says light bytes =
      let x : Light = light_of light in (
        told 8 (tells_not (tells_is_light light bytes)),
        (
          told 9 (tells_not (tells_tug x.tug)),
          (
            told 10 (tells_not (tells_light site x)),
            (
              told 11 (tells_not (tells_stand x.goal)),
              (
                told 12 (sees.standing x.tug),
                (
                  told 15 tells_edition,
                  (
                    told 16 (tells_not (tells_same x)),
                    (told 17 (tells_not (tells_plan x)), tt),
                  ),
                ),
              ),
            ),
          ),
        ),
      )

  pub call_says : (room : Room) (c : Call) → LightGiven c → Says (call_refusals site v room c) (call_paper site s room c)
  unfolding route_refusals close_refusals withdraw_refusals
  call_says room (route tug a goal dwell) given = (
    told 9 (tells_not (tells_tug tug)),
    (
      told 10 (tells_not (tells_trip site a goal dwell)),
      (
        told 11 (tells_not (tells_stand goal)),
        (
          told 12 (sees.standing tug),
          (
            told 14 (tells_not (tells_room room)),
            (told 18 (tells_no_route a goal dwell), tt),
          ),
        ),
      ),
    ),
  )
  call_says room (audit light) given = light_says light given
  call_says room (post light) given = light_says light given
  call_says room (close h cell first last) given = (
    told 9 (tells_not (tells_closure h)),
    (
      told 10 (tells_not (tells_run site cell first last)),
      (
        told 12 (sees.standing h),
        (
          told 15 tells_edition,
          (told 17 (tells_not (tells_open cell first last)), tt),
        ),
      ),
    ),
  )
  call_says room (withdraw h) given = (
    told 9 (tells_not (tells_holder h)),
    (
      told 13 (tells_not (sees.standing h)),
      (told 15 tells_edition, tt),
    ),
  )

  -- ---- accepted

  below : s.edition ≤ 4294967295 → eqb v.edition 4294967295 ≡ false → s.edition < 4294967295
  below most e = let other : s.edition ≡ 4294967295 → ⊥ = misses tells_edition e in omega arith

  not_last : s.edition < 4294967295 → eqb v.edition 4294967295 ≡ false
  not_last lt = fails tells_edition (λ e. omega arith)

  pub close_accepted : s.edition ≤ 4294967295 → (h cell first last : ℕ) → Each Passed (close_refusals site v h cell first last)
      → CloseAccepted site s h cell first last
  unfolding close_refusals
  close_accepted most h cell first last (h9, (h10, (h12, (h15, (h17, rest))))) = record {
    holder = holds (tells_closure h) h9;
    known = holds (tells_run site cell first last) h10;
    new = misses (sees.standing h) h12;
    below = below most h15;
    may_close = holds (tells_open cell first last) h17;
  }

  accepted_close : (h cell first last : ℕ) → CloseAccepted site s h cell first last → Each Passed (close_refusals site v h cell first last)
  unfolding close_refusals
  accepted_close h cell first last a = (
    ap not ((tells_closure h).back a.holder),
    (
      ap not ((tells_run site cell first last).back a.known),
      (
        fails (sees.standing h) a.new,
        (
          not_last a.below,
          (ap not ((tells_open cell first last).back a.may_close), tt),
        ),
      ),
    ),
  )

  pub withdraw_accepted : s.edition ≤ 4294967295 → (h : ℕ) → Each Passed (withdraw_refusals v h) → WithdrawAccepted site s h
  unfolding withdraw_refusals
  withdraw_accepted most h (h9, (h13, (h15, rest))) = record {
    holder = holds (tells_holder h) h9;
    there = holds (sees.standing h) h13;
    below = below most h15;
  }

  accepted_withdraw : (h : ℕ) → WithdrawAccepted site s h → Each Passed (withdraw_refusals v h)
  unfolding withdraw_refusals
  accepted_withdraw h a =
      (ap not ((tells_holder h).back a.holder), (ap not ((sees.standing h).back a.there), (not_last a.below, tt)))

  pub light_accepted : s.edition ≤ 4294967295 → (light : List ℕ) → Each Passed (light_refusals site v light) → LightAccepted site s (light_of light)
  unfolding light_refusals
  light_accepted most light (h8, (h9, (h10, (h11, (h12, (h15, (h16, (h17, rest)))))))) =
      let x : Light = light_of light in
      let all_free_lem : all_free s.free (light_pairs site x) ≡ true =
      ap (λ (f : Free). all_free f (light_pairs site x)) (sym sees.same_free) ∙ light_free site v.free x (not-false _ h17) in
      record {
        same_edition = holds (tells_same x) h16;
        holder = holds (tells_tug x.tug) h9;
        known = holds (tells_light site x) h10;
        goal_stands = holds (tells_stand x.goal) h11;
        new = misses (sees.standing x.tug) h12;
        below = below most h15;
        free_pairs = λ c t held. (sees.free_for c t).then (free_pair s.free (light_pairs site x) c t all_free_lem (held_pairs site (start_of x) x.steps (goal_of x) x.dwell c t held));
        valid = holds (tells_plan x) h17;
      }

  accepted_light : (light : List ℕ) (x : Light) → LightBytes light x → LightAccepted site s x → Each Passed (light_refusals site v light)
  unfolding light_refusals
  accepted_light light x bytes a =
      let (is_light_lem, same) = read_light light x bytes in
      rw same (
        ap not is_light_lem,
        (
          ap not ((tells_tug x.tug).back a.holder),
          (
            ap not ((tells_light site x).back a.known),
            (
              ap not ((tells_stand x.goal).back a.goal_stands),
              (
                fails (sees.standing x.tug) a.new,
                (
                  not_last a.below,
                  (
                    ap not ((tells_same x).back a.same_edition),
                    (ap not ((tells_plan x).back a.valid), tt),
                  ),
                ),
              ),
            ),
          ),
        ),
      )

  pub route_accepted : (room : Room) (tug : ℕ) (a : Node) (goal dwell : ℕ) → Each Passed (route_refusals site v room tug a goal dwell)
      → RouteAccepted site s room tug a goal dwell
  unfolding route_refusals
  route_accepted room tug a goal dwell (h9, (h10, (h11, (h12, (h14, (h18, rest)))))) = record {
    holder = holds (tells_tug tug) h9;
    known = holds (tells_trip site a goal dwell) h10;
    goal_stands = holds (tells_stand goal) h11;
    new = misses (sees.standing tug) h12;
    room_enough_lem = holds (tells_room room) h14;
    plan = options (find_route site v.free a goal dwell)
        (λ e. absurd (true≢false (sym (ap is_none e) ∙ h18)))
        (λ r e.
        (r.steps, r.arrival, search_right.valid site well s.free a goal dwell r (ap (λ (f : Free). find_route site f a goal dwell) (sym sees.same_free) ∙ e)));
  }

  accepted_route : (room : Room) (tug : ℕ) (a : Node) (goal dwell : ℕ) → RouteAccepted site s room tug a goal dwell
      → Each Passed (route_refusals site v room tug a goal dwell)
  unfolding route_refusals
  accepted_route room tug a goal dwell x = (
    ap not ((tells_tug tug).back x.holder),
    (
      ap not ((tells_trip site a goal dwell).back x.known),
      (
        ap not ((tells_stand goal).back x.goal_stands),
        (
          fails (sees.standing tug) x.new,
          (
            ap not ((tells_room room).back x.room_enough_lem),
            (fails (tells_no_route a goal dwell) (λ never. (let (ps, t, valid) = x.plan in never ps t valid)), tt),
          ),
        ),
      ),
    ),
  )

  pub call_accepted : s.edition ≤ 4294967295 → (room : Room) (c : Call) → LightGiven c → Each Passed (call_refusals site v room c) → CallAccepted site s room c
  unfolding light_refusals
  call_accepted most room (route tug a goal dwell) given h = route_accepted room tug a goal dwell h
  call_accepted most room (audit light) given h =
      (light_of light, lights_right.only_those light (light_of light) given (light_decode light (not-false _ h.0)), light_accepted most light h)
  call_accepted most room (post light) given h =
      (light_of light, lights_right.only_those light (light_of light) given (light_decode light (not-false _ h.0)), light_accepted most light h)
  call_accepted most room (close k cell first last) given h = close_accepted most k cell first last h
  call_accepted most room (withdraw k) given h = withdraw_accepted most k h

  pub accepted_call : (room : Room) (c : Call) → CallAccepted site s room c → Each Passed (call_refusals site v room c)
  accepted_call room (route tug a goal dwell) x = accepted_route room tug a goal dwell x
  accepted_call room (audit light) (x, bytes, a) = accepted_light light x bytes a
  accepted_call room (post light) (x, bytes, a) = accepted_light light x bytes a
  accepted_call room (close k cell first last) x = accepted_close k cell first last x
  accepted_call room (withdraw k) x = accepted_withdraw k x

pub later_says : (site : Site) → WellFormed site → (l : Lent) → length l.board ≡ board_length site
    → (q : PublicCall) → GivenBytes q → Says (later_refusals site l q) (public_paper site l q)
unfolding interval_refusals
later_says site well l size opening given = tt
later_says site well l size (interval cell) given = (
  told 10 (tells_not (tells_lt cell site.cells)),
  (told 14 (tells_not (tells_le (site.horizon + 2) (length l.out))), tt),
)
later_says site well l size (listed c) given =
    call_says site well (bytes_view site l.board) (bytes_sight site l.board) (bytes_seen site l.board size) (room_of l) c given

-- ---- the plain board

pub plain_right : PlainRight
plain_right = record {
  say = λ site well p room c given. call_says site well (plain_view site p) (plain_sight site p) (plain_seen_lem site p) room c given;
  free_pairs = λ site p c t. (tells_plain_free site p c t).then;
  all_free_pairs = λ site p c t. (tells_plain_free site p c t).back;
  closable_pairs = λ site p c t. (tells_plain_closable site p c t).then;
  all_closable_pairs = λ site p c t. (tells_plain_closable site p c t).back;
  accepts = λ site well p most room c given e.
      call_accepted site well (plain_view site p) (plain_sight site p) (plain_seen_lem site p) most room c given
      (rise_none 7 (call_refusals site (plain_view site p) room c) (call_rise site (plain_view site p) room c) e);
  all_accepted = λ site well p room c x.
      lowest_clear (call_refusals site (plain_view site p) room c) (accepted_call site well (plain_view site p) (plain_sight site p) (plain_seen_lem site p) room c x);
}
