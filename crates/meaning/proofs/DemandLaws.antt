-- Every desk that answers as the definitions do meets demands 1 and 2.
-- Assumes nothing.
use Prim.Native.Nat.{ℕ, zero, suc, ◌+◌, ◌*◌, ◌≤◌, ◌<◌}
use native.Mathlib.Omega.{arith}
use mathlib.Core.Path.{◌≡◌, refl, sym, ap, ◌∙◌, subst}
use mathlib.Core.Bool.{Bool, true, false, cond, not}
use mathlib.Core.Option.{Option, some}
use mathlib.Core.List.{List, [], ◌∷◌, ◌++◌}
use lib.Dec.{leb, eqb}
use borrow.Author.Tests.{leb-true, eqb-false, eq-eqb, ne_eqb, not-false}
use lib.ListN.{length, take, drop, replicate, length-replicate}
use lib.Seq.{take-append_seam}
use Rattle.meaning.specs.Limits.{last_edition}
use Rattle.meaning.specs.Basics.{all, Bytes}
use Rattle.meaning.specs.Answers.{Refusal, ◌if◌, lowest, Clears, accepted}
use Rattle.meaning.specs.Site.{Site, site_of, site_refusals, read_site}
use Rattle.meaning.specs.Board.{free, closable, board_length, byte_at, edition, Pair, run_to, all_free, mark, clear, next_edition}
use Rattle.meaning.specs.Plan.{Node}
use Rattle.meaning.specs.Reach.{Route}
use Rattle.meaning.specs.Light.{Light, start_of, goal_of, encode, light_of, decode}
use Rattle.meaning.specs.Intervals.{Interval, intervals, numbers_of}
use Rattle.meaning.specs.Calls.{route, audit, post, close, withdraw, PublicCall, opening, interval, listed, bytes_view, light_valid, words_needed, light_refusals, close_refusals, withdraw_refusals, interval_refusals, Lent, room_of, with_words_zero, refusals, route_found, granted_light, light_pairs, changed, Done, accepted_done, meant}
use Rattle.meaning.specs.PlainBoard.{has_pair}
use Rattle.meaning.specs.ValidPlans.{ValidPlan, Holds}
use Rattle.meaning.specs.SafeIntervals.{AllSafeIntervals}
use Rattle.meaning.specs.WellFormed.{WellFormed}
use Rattle.meaning.specs.Refusals.{bytes_sight, CloseAccepted, LightAccepted, WithdrawAccepted, RouteAccepted}
use Rattle.meaning.specs.Demands.{Desk, Exact, Written, Rewritten, light_out, OnlyBoard, RouteRight, Demand1, Demand2}
use Rattle.meaning.proofs.BasicsLaws.{decide, every_at, every_nil, every_cons}
use Rattle.meaning.proofs.AnswersLaws.{lowest_hit, lowest_miss, lowest_clear, lowest_append, lowest_most}
use Rattle.meaning.proofs.FieldsLaws.{byte_at_lem}
use Rattle.meaning.proofs.LightLaws.{decode_some, light_decode}
use Rattle.meaning.proofs.PlanLaws.{pairs_held, held_pairs, has_run_to, in_run_to}
use Rattle.meaning.proofs.IntervalLaws.{intervals_right}
use Rattle.meaning.proofs.SiteLaws.{read_site_lem, site_read, read_well}
use Rattle.meaning.proofs.TraceLaws.{search_right}
use Rattle.meaning.proofs.BoardLaws.{edition_new, length_edition, byte_edition, InSite, in_site, length_mark, byte_mark, length_clear, byte_clear, edition_small}
use Rattle.meaning.proofs.CallLaws.{written, meant_number, meant_by, meant_accepted, refused_same, refused_18, accepted_parts, board_sized, PassesTo14, refused_to_14, accepted_to_14, granted_found, parts, parts_read}
use Rattle.meaning.proofs.CheckLaws.{size_passed}
use Rattle.meaning.proofs.RouteLaws.{route_right}
use Rattle.meaning.proofs.ListLaws.{light_free}
use Rattle.meaning.proofs.RefusalLaws.{valid_light, light_valid_lem, Sees, bytes_seen, close_accepted, light_accepted, withdraw_accepted, route_accepted}

-- ---- refused calls

refused_alone : (file : List ℕ) (l : Lent) (q : PublicCall) → ((meant file l q).number ≡ 0 → ⊥) → ((meant file l q).number ≡ 18 → ⊥)
    → meant file l q ≡ record { number = (meant file l q).number; values = []; lent = l }
refused_alone file l q not_0 not_18 = by_number (meant file l q).number refl
  where
    by_number : (n : ℕ) → (meant file l q).number ≡ n → meant file l q ≡ record { number = (meant file l q).number; values = []; lent = l }
    by_number zero e = absurd (not_0 e)
    by_number (suc n) e =
        meant_by file l q (suc n) (sym (meant_number file l q) ∙ e)
        ∙ refused_same (site_of file) l (suc n) (λ z. not_18 (e ∙ z))
        ∙ ap (λ (k : ℕ). record { number = k; values = []; lent = l }) (sym e)

-- only a route has number 18
pub only_routes : {X : Type 0} (file : List ℕ) (l : Lent) (q : PublicCall) → (meant file l q).number ≡ 18
    → ((tug : ℕ) (a : Node) (goal dwell : ℕ) → q ≡ listed (route tug a goal dwell) → X) → X
unfolding all refusals site_refusals light_refusals close_refusals withdraw_refusals interval_refusals
only_routes {X} file l q e on_route = by_call q refl
  where
    below : (k : PublicCall) → q ≡ k → all (λ (r : Refusal). leb r.number 17) (refusals file l k) ≡ true → X
    below k same most =
        let at_most : lowest (refusals file l k) ≤ 17 = lowest_most 17 (refusals file l k) most in
        let there : lowest (refusals file l k) ≡ 18 = sym (meant_number file l k) ∙ ap (λ (x : PublicCall). (meant file l x).number) (sym same) ∙ e in
        absurd (omega arith)

    by_call : (k : PublicCall) → q ≡ k → X
    by_call opening same = below opening same refl
    by_call (interval cell) same = below (interval cell) same refl
    by_call (listed (route tug a goal dwell)) same = on_route tug a goal dwell same
    by_call (listed (audit light)) same = below (listed (audit light)) same refl
    by_call (listed (post light)) same = below (listed (post light)) same refl
    by_call (listed (close h cell first last)) same = below (listed (close h cell first last)) same refl
    by_call (listed (withdraw h)) same = below (listed (withdraw h)) same refl

-- ---- what an accepted call writes

-- a board whose bytes are changed at some pairs, with the next edition
module _ (site : Site) (board new : List ℕ) (Pairs : ℕ → ℕ → Type 0) (h : ℕ) (bytes : Bytes board)
    (early : eqb (edition board) last_edition ≡ false) (size : length board ≡ board_length site) (same_size : length new ≡ length board) where
  rewritten : ((c t : ℕ) → c < site.cells → t ≤ site.horizon → Pairs c t → byte_at site new c t ≡ h)
      → ((c t : ℕ) → c < site.cells → t ≤ site.horizon → (Pairs c t → ⊥) → byte_at site new c t ≡ byte_at site board c t)
      → Rewritten site board (next_edition board new) Pairs h
  unfolding next_edition
  rewritten there elsewhere =
      let small : edition board ≤ last_edition = edition_small board (byte_at_lem board bytes) in
      let other : edition board ≡ last_edition → ⊥ = eqb-false _ _ early in
      record {
        same_length = length_edition site (edition board + 1) new (same_size ∙ size) ∙ same_size;
        next_edition_lem = edition_new site (edition board + 1) new (omega arith);
        there = λ c t hc ht p. byte_edition site (edition board + 1) new c t ∙ there c t hc ht p;
        elsewhere = λ c t hc ht p. byte_edition site (edition board + 1) new c t ∙ elsewhere c t hc ht p;
      }

-- pairs that are free or closable are of the site
free_in : (site : Site) (board : List ℕ) (ps : List Pair) → all_free (free site board) ps ≡ true → InSite site ps
unfolding free
free_in site board ps ok = in_site site (free site board) (λ c t e. every_cons _ _ (every_at _ e 0) (every_cons _ _ (every_at _ e 1) every_nil)) ps ok

close_in : (site : Site) (board : List ℕ) (ps : List Pair) → all_free (closable site board) ps ≡ true → InSite site ps
unfolding closable
close_in site board ps ok = in_site site (closable site board) (λ c t e. every_cons _ _ (every_at _ e 0) (every_cons _ _ (every_at _ e 1) every_nil)) ps ok

-- marked pairs, where a set of pairs is those of a list
module _ (site : Site) (board : List ℕ) (h : ℕ) (ps : List Pair) (Pairs : ℕ → ℕ → Type 0) (bytes : Bytes board)
    (early : eqb (edition board) last_edition ≡ false) (size : length board ≡ board_length site)
    (inside : InSite site ps)
    (has : (c t : ℕ) → Pairs c t → has_pair ps c t ≡ true) (only : (c t : ℕ) → has_pair ps c t ≡ true → Pairs c t) where
  marked : Rewritten site board (next_edition board (mark site h ps board)) Pairs h
  marked =
      rewritten site board (mark site h ps board) Pairs h bytes early size (length_mark site h ps board)
      (λ c t hc ht p. byte_mark site h ps board c t inside size hc ht ∙ ap (λ (b : Bool). cond b h (byte_at site board c t)) (has c t p))
      (λ c t hc ht p.
      byte_mark site h ps board c t inside size hc ht
      ∙ ap (λ (b : Bool). cond b h (byte_at site board c t)) (decide (has_pair ps c t) (λ e. absurd (p (only c t e))) (λ e. e)))

module _ (file : List ℕ) (l : Lent) where
  abbrev site : Site
  site = site_of file

  size : (q : PublicCall) → (meant file l q).number ≡ 0 → length l.board ≡ board_length site
  size q z = board_sized file l (accepted_parts file l q z).of_board

  well : (q : PublicCall) → (meant file l q).number ≡ 0 → WellFormed site
  well q z = read_well file site (parts_read file l q (accepted_parts file l q z))

  sees : (q : PublicCall) → (meant file l q).number ≡ 0 → Sees site (bytes_view site l.board) (bytes_sight site l.board)
  sees q z = bytes_seen site l.board (size q z)

  small : Bytes l.board → edition l.board ≤ 4294967295
  small bytes = edition_small l.board (byte_at_lem l.board bytes)

  opened : (meant file l opening).number ≡ 0
      → OnlyBoard l (meant file l opening) × ((meant file l opening).lent.board ≡ replicate (board_length site) 0)
  unfolding accepted_done
  opened z =
      let is : meant file l opening ≡ accepted_done site l opening = meant_accepted file l opening z in
      rw is ((refl, refl, refl), ap (λ (n : ℕ). replicate n 0) (size opening z))

  closed : (h cell first last : ℕ) → Bytes l.board → (meant file l (listed (close h cell first last))).number ≡ 0
      → OnlyBoard l (meant file l (listed (close h cell first last)))
      × Rewritten site l.board (meant file l (listed (close h cell first last))).lent.board (λ c t. (c ≡ cell) × (first ≤ t) × (t ≤ last)) h
      × CloseAccepted site (bytes_sight site l.board) h cell first last
  unfolding accepted_done changed close_refusals bytes_view
  closed h cell first last bytes z =
      let q : PublicCall = listed (close h cell first last) in
      let is : meant file l q ≡ accepted_done site l q = meant_accepted file l q z in
      let (h9, (h10, (h12, (h15, (h17, rest))))) = (accepted_parts file l q z).later in
      rw is (
        (refl, refl, refl),
        marked site l.board h (run_to cell first last) (λ c t. (c ≡ cell) × (first ≤ t) × (t ≤ last)) bytes h15 (size q z) (close_in site l.board (run_to cell first last) (not-false _ h17))
            (λ c t p. has_run_to cell first last c t p.0 p.1 p.2)
            (λ c t e. in_run_to cell first last c t e),
        close_accepted site (well q z) (bytes_view site l.board) (bytes_sight site l.board) (sees q z) (small bytes) h cell first last (accepted_parts file l q z).later,
      )

  withdrawn : (h : ℕ) → Bytes l.board → (meant file l (listed (withdraw h))).number ≡ 0
      → OnlyBoard l (meant file l (listed (withdraw h)))
      × Rewritten site l.board (meant file l (listed (withdraw h))).lent.board (λ c t. byte_at site l.board c t ≡ h) 0
      × WithdrawAccepted site (bytes_sight site l.board) h
  unfolding accepted_done changed withdraw_refusals bytes_view
  withdrawn h bytes z =
      let q : PublicCall = listed (withdraw h) in
      let is : meant file l q ≡ accepted_done site l q = meant_accepted file l q z in
      let (h9, (h13, (h15, rest))) = (accepted_parts file l q z).later in
      rw is (
        (refl, refl, refl),
        rewritten site l.board (clear h l.board) (λ c t. byte_at site l.board c t ≡ h) 0 bytes h15 (size q z) (length_clear site h l.board)
            (λ c t hc ht p.
            byte_clear site h l.board c t (size q z)
            ∙ ap (λ (b : Bool). cond b 0 (byte_at site l.board c t)) (eq-eqb (byte_at site l.board c t) h p))
            (λ c t hc ht p.
            byte_clear site h l.board c t (size q z)
            ∙ ap (λ (b : Bool). cond b 0 (byte_at site l.board c t)) (ne_eqb (byte_at site l.board c t) h p)),
        withdraw_accepted site (well q z) (bytes_view site l.board) (bytes_sight site l.board) (sees q z) (small bytes) h (accepted_parts file l q z).later,
      )

  posted : (light : List ℕ) → Bytes l.board → (meant file l (listed (post light))).number ≡ 0
      → (x : Light) × (decode light ≡ some x)
      × OnlyBoard l (meant file l (listed (post light)))
      × Rewritten site l.board (meant file l (listed (post light))).lent.board (Holds site (start_of x) x.steps (goal_of x) x.dwell) x.tug
      × LightAccepted site (bytes_sight site l.board) x
  unfolding accepted_done changed light_refusals bytes_view
  posted light bytes z =
      let q : PublicCall = listed (post light) in
      let is : meant file l q ≡ accepted_done site l q = meant_accepted file l q z in
      let x : Light = light_of light in
      let (h8, (h9, (h10, (h11, (h12, (h15, (h16, (h17, rest)))))))) = (accepted_parts file l q z).later in
      rw is (
        x,
        light_decode light (not-false _ h8),
        (refl, refl, refl),
        marked site l.board x.tug (light_pairs site x) (Holds site (start_of x) x.steps (goal_of x) x.dwell) bytes h15 (size q z)
            (free_in site l.board (light_pairs site x) (light_free site (free site l.board) x (not-false _ h17)))
            (λ c t p. held_pairs site (start_of x) x.steps (goal_of x) x.dwell c t p)
            (λ c t e. pairs_held site (start_of x) x.steps (goal_of x) x.dwell c t e),
        light_accepted site (well q z) (bytes_view site l.board) (bytes_sight site l.board) (sees q z) (small bytes) light (accepted_parts file l q z).later,
      )

  -- audit has post's number, and leaves all as before
  audit_by : (light : List ℕ) (n : ℕ) → lowest (refusals file l (listed (audit light))) ≡ n
      → ((meant file l (listed (audit light))).values ≡ []) × ((meant file l (listed (audit light))).lent ≡ l)
  unfolding accepted_done changed
  audit_by light zero e = rw (meant_by file l (listed (audit light)) 0 e) (refl, refl)
  audit_by light (suc n) e =
      rw (meant_by file l (listed (audit light)) (suc n) e ∙ refused_same site l (suc n) (λ z. only_routes file l (listed (audit light)) (meant_number file l (listed (audit light)) ∙ e ∙ z) no_route))
      (refl, refl)
    where
      no_route : (tug : ℕ) (a : Node) (goal dwell : ℕ) → listed (audit light) ≡ listed (route tug a goal dwell) → ⊥
      no_route tug a goal dwell w = let y : ◌≡◌ {A = ℕ} 0 1 = cc in omega arith

  audited : (light : List ℕ)
      → ((meant file l (listed (audit light))).values ≡ []) × ((meant file l (listed (audit light))).lent ≡ l)
      × ((meant file l (listed (audit light))).number ≡ (meant file l (listed (post light))).number)
  unfolding refusals
  audited light =
      let (nothing, as_before) = audit_by light (lowest (refusals file l (listed (audit light)))) refl in
      (nothing, as_before, meant_number file l (listed (audit light)) ∙ sym (meant_number file l (listed (post light))))

  words_written : (tug : ℕ) (a : Node) (goal dwell : ℕ) → PassesTo14 site l tug a goal dwell
      → Written (replicate (words_needed site) 0) l.words (replicate (words_needed site) 0 ++ drop (length (replicate {A = ℕ} (words_needed site) 0)) l.words)
  words_written tug a goal dwell ready =
      let count : length (replicate {A = ℕ} (words_needed site) 0) ≡ words_needed site = length-replicate {A = ℕ} (words_needed site) 0 in
      let room : words_needed site ≤ length l.words = ready.words_room in
      written (replicate (words_needed site) 0) l.words (omega arith)

  no_plan : (q : PublicCall) → (meant file l q).number ≡ 18
      → ((meant file l q).values ≡ []) × ((meant file l q).lent.board ≡ l.board) × ((meant file l q).lent.out ≡ l.out)
      × Written (replicate (words_needed site) 0) l.words (meant file l q).lent.words
  no_plan q e =
      let is : meant file l q ≡ record { number = 18; values = []; lent = with_words_zero site l } =
      meant_by file l q 18 (sym (meant_number file l q) ∙ e) ∙ refused_18 site l in
      only_routes file l q e (λ tug a goal dwell same.
      let ready : PassesTo14 site l tug a goal dwell = refused_to_14 file l tug a goal dwell (ap (λ (x : PublicCall). (meant file l x).number) (sym same) ∙ e) in
      rw is (refl, refl, refl, words_written tug a goal dwell ready))

  granted : (tug : ℕ) (a : Node) (goal dwell : ℕ) → (meant file l (listed (route tug a goal dwell))).number ≡ 0
      → ((meant file l (listed (route tug a goal dwell))).lent.board ≡ l.board)
      × Written (light_out (meant file l (listed (route tug a goal dwell)))) l.out (meant file l (listed (route tug a goal dwell))).lent.out
      × Written (replicate (words_needed site) 0) l.words (meant file l (listed (route tug a goal dwell))).lent.words
      × RouteAccepted site (bytes_sight site l.board) (room_of l) tug a goal dwell
  unfolding accepted_done granted_light bytes_view
  granted tug a goal dwell z =
      let q : PublicCall = listed (route tug a goal dwell) in
      let is : meant file l q ≡ accepted_done site l q = meant_accepted file l q z in
      let ready : PassesTo14 site l tug a goal dwell = accepted_to_14 file l tug a goal dwell z in
      let ok : WellFormed site = well q z in
      let (r, e) = granted_found file l tug a goal dwell z in
      let x : Light = granted_light site (bytes_view site l.board) tug a goal dwell in
      let steps : x.steps ≡ r.steps = ap (λ (o : Option Route). (route_found o).steps) e in
      let fits : length (encode x) ≤ 18 + 5 * site.horizon = search_right.fits site ok (free site l.board) a goal dwell r e x steps in
      let room : 18 + 5 * site.horizon ≤ length l.out = ready.light_room_lem in
      let front : take (length (encode x)) (encode x ++ drop (length (encode x)) l.out) ≡ encode x =
      take-append_seam (encode x) (drop (length (encode x)) l.out) in
      rw is (
        refl,
        subst (λ (s : List ℕ). Written s l.out (encode x ++ drop (length (encode x)) l.out)) (sym front) (written (encode x) l.out (omega arith)),
        words_written tug a goal dwell ready,
        route_accepted site ok (bytes_view site l.board) (bytes_sight site l.board) (sees q z) (room_of l) tug a goal dwell (accepted_parts file l q z).later,
      )

-- open is accepted on an accepted site and a board of its length
opens : (file : List ℕ) (site : Site) → read_site file ≡ accepted site → (l : Lent) → length l.board ≡ board_length site → (meant file l opening).number ≡ 0
opens file site read l same =
    let (clear, is) = read_site_lem file site read in
    meant_number file l opening ∙ size_passed file l clear (same ∙ ap board_length (sym is))

-- ---- demand 1

pub exact_demand1 : (desk : Desk) → Exact desk → Demand1 desk
exact_demand1 desk exact = record {
  exactly = exact;
  first_number = λ file l q d may. ap (λ (x : Done). x.number) (exact file l q d may) ∙ meant_number file l q;
  refused_alone = λ file l q d may. rw (exact file l q d may) (λ not_0 not_18. refused_alone file l q not_0 not_18);
  no_plan = λ file l q d may. rw (exact file l q d may) (λ z. no_plan file l q z);
  opened = λ file l d may. rw (exact file l opening d may) (λ z. opened file l z);
  opens = λ file site read l same d may. ap (λ (x : Done). x.number) (exact file l opening d may) ∙ opens file site read l same;
  closed = λ file l h cell first last d bytes may. rw (exact file l (listed (close h cell first last)) d may) (λ z. closed file l h cell first last bytes z);
  posted = λ file l light d bytes may. rw (exact file l (listed (post light)) d may) (λ z. posted file l light bytes z);
  withdrawn = λ file l h d bytes may. rw (exact file l (listed (withdraw h)) d may) (λ z. withdrawn file l h bytes z);
  audited = λ file l light d may. rw (exact file l (listed (audit light)) d may) (audited file l light);
  granted = λ file l tug a goal dwell d may. rw (exact file l (listed (route tug a goal dwell)) d may) (λ z. granted file l tug a goal dwell z);
}

-- ---- demand 2

module _ (file : List ℕ) (l : Lent) (light : List ℕ) (clears : Clears 16 (refusals file l (listed (audit light)))) where
  -- then 17 alone decides
  audit_number : lowest (refusals file l (listed (audit light))) ≡ lowest (17 if not (light_valid (site_of file) (free (site_of file) l.board) (light_of light)) ∷ [])
  unfolding refusals site_refusals light_refusals bytes_view
  audit_number = cleared clears
    where
      cleared : Clears 16 (refusals file l (listed (audit light)))
          → lowest (refusals file l (listed (audit light))) ≡ lowest (17 if not (light_valid (site_of file) (free (site_of file) l.board) (light_of light)) ∷ [])
      cleared (h1, (h2, (h3, (h4, (h5, (h6, (h7, (h8, (h9, (h10, (h11, (h12, (h15, (h16, rest)))))))))))))) =
          lowest_append (take 14 (refusals file l (listed (audit light)))) (17 if not (light_valid (site_of file) (free (site_of file) l.board) (light_of light)) ∷ []) (
            h1 (omega arith),
            (h2 (omega arith), (h3 (omega arith), (h4 (omega arith), (h5 (omega arith), (h6 (omega arith), (h7 (omega arith), (h8 (omega arith), (h9 (omega arith), (h10 (omega arith), (h11 (omega arith), (h12 (omega arith), (h15 (omega arith), (h16 (omega arith), tt))))))))))))),
          )

  module _ (x : Light) (decoded : decode light ≡ some x) where
    light_is : light_of light ≡ x
    light_is = (decode_some light x decoded).1

    abbrev Plan : Type 0
    Plan = ValidPlan (site_of file) (free (site_of file) l.board) (start_of x) x.steps (goal_of x) x.dwell

    passes_audit : Plan → (meant file l (listed (audit light))).number ≡ 0
    passes_audit v =
        meant_number file l (listed (audit light)) ∙ audit_number
        ∙ lowest_miss _ [] (ap not (ap (light_valid (site_of file) (free (site_of file) l.board)) light_is ∙ valid_light (site_of file) (free (site_of file) l.board) x v))
        ∙ lowest_clear [] tt

    fails_audit : (Plan → ⊥) → (meant file l (listed (audit light))).number ≡ 17
    fails_audit none_there =
        decide (light_valid (site_of file) (free (site_of file) l.board) x)
        (λ e. absurd (none_there (light_valid_lem (site_of file) (free (site_of file) l.board) x e)))
        (λ e.
        meant_number file l (listed (audit light)) ∙ audit_number
        ∙ lowest_hit _ [] (ap not (ap (light_valid (site_of file) (free (site_of file) l.board)) light_is ∙ e)))

reported : (file : List ℕ) (l : Lent) (cell : ℕ) → (meant file l (interval cell)).number ≡ 0
    → (list : List Interval)
    × AllSafeIntervals (free (site_of file) l.board cell) (site_of file).horizon list
    × ((meant file l (interval cell)).values ≡ length list ∷ [])
    × ((meant file l (interval cell)).lent.board ≡ l.board) × ((meant file l (interval cell)).lent.words ≡ l.words)
    × Written (numbers_of list) l.out (meant file l (interval cell)).lent.out
unfolding accepted_done interval_refusals
reported file l cell z =
    let is : meant file l (interval cell) ≡ accepted_done (site_of file) l (interval cell) = meant_accepted file l (interval cell) z in
    let (h10, (h14, rest)) = (accepted_parts file l (interval cell) z).later in
    let room : (site_of file).horizon + 2 ≤ length l.out = leb-true _ _ (not-false _ h14) in
    let p : ℕ → Bool = free (site_of file) l.board cell in
    let fits : length (numbers_of (intervals p (site_of file).horizon)) ≤ (site_of file).horizon + 2 = intervals_right.fit p (site_of file).horizon in
    rw is (
      intervals p (site_of file).horizon,
      intervals_right.all_safe p (site_of file).horizon,
      refl,
      refl,
      refl,
      written (numbers_of (intervals p (site_of file).horizon)) l.out (omega arith),
    )

-- routes, over boards of any content
any_route : (file : List ℕ) (l : Lent) (tug : ℕ) (a : Node) (goal dwell : ℕ) → Bytes l.board
    → Clears 14 (refusals file l (listed (route tug a goal dwell))) → RouteRight (site_of file) l.board tug a goal dwell (meant file l (listed (route tug a goal dwell)))
unfolding site_refusals
any_route file l tug a goal dwell bytes clears =
    let (h1, (h2, (h3, (h4, (h5, (h6, rest)))))) = (parts (λ (r : Refusal). r.number ≤ 14 → r.applies ≡ false) file l (listed (route tug a goal dwell)) clears).of_site in
    let clear : lowest (site_refusals file) ≡ 0 =
    lowest_clear (site_refusals file) (h1 (omega arith), (h2 (omega arith), (h3 (omega arith), (h4 (omega arith), (h5 (omega arith), (h6 (omega arith), tt)))))) in
    route_right file (read_well file (site_of file) (site_read file clear)) l (edition_small l.board (byte_at_lem l.board bytes)) tug a goal dwell clears

pub exact_demand2 : (desk : Desk) → Exact desk → Demand2 desk
exact_demand2 desk exact = record {
  intervals = λ file l cell d may. rw (exact file l (interval cell) d may) (λ z. reported file l cell z);
  audit_passes = λ file l light x d may clears decoded v. ap (λ (e : Done). e.number) (exact file l (listed (audit light)) d may) ∙ passes_audit file l light clears x decoded v;
  audit_fails = λ file l light x d may clears decoded v. ap (λ (e : Done). e.number) (exact file l (listed (audit light)) d may) ∙ fails_audit file l light clears x decoded v;
  routes = λ file l tug a goal dwell d bytes may clears. rw (exact file l (listed (route tug a goal dwell)) d may) (any_route file l tug a goal dwell bytes clears);
}
