-- The demands, of the exported functions: over what their contracts promise, and nothing else of the code, with the number and the
-- values read back from the word that is returned. `Learnt` and its arguments are those of crates/desk_board/proofs/ContractLaws.antt.
-- Assumes nothing.
use Prim.Native.Nat.{ℕ}
use mathlib.Core.Path.{◌≡◌, refl, ap, ap₂, ◌∙◌, subst}
use mathlib.Core.List.{List, []}
use lib.Dec.{ltb}
use borrow.Author.Tests.{ltb-true, ltb-false}
use contract.Lifetimes.{Lfts}
use denote.Ref.{Bor, MutBor}
use Rattle.meaning.specs.Calls.{PublicCall, opening, interval, listed, Call, route, audit, post, close, withdraw, Lent, lends, on_board, Done, meant}
use Rattle.meaning.specs.Demands.{Exact, Demand1, Demand2, Demand3, Follows}
use Rattle.meaning.proofs.AreaLaws.{BoardCall}
use Rattle.meaning.proofs.Theorems.{exact_demands}
use Rattle.meaning.specs.Plan.{node}
use Rattle.meaning.proofs.BasicsLaws.{decide}
use Rattle.meaning.specs.Pictures.{draw_meant}
use Rattle.travel_runs.specs.Entries.{fewest}
use Rattle.travel_runs.specs.Travel.{Returned, travel_meant, TravelExact, TravelDemand}
use Rattle.travel_runs.proofs.CallLaws.{meant_entry, meant_refused}
use Rattle.travel_runs.proofs.Theorems.{travel_right}
use Rattle.travel.specs.Timed.{timed_of}
use Rattle.answers.specs.Answers.{counted_of, granted_of}
use Rattle.answers.proofs.DeskLaws.{board_done, board_exact, audit_exact, interval_exact, route_exact, lifetimes, lend, lend_mut, turns, AllowsSome, allows_meant, every_run}
use Rattle.answers_c.specs.Words.{counted_word, granted_word, word_number, counted_in, granted_in}
use Rattle.answers_c.proofs.WordLaws.{counted_back, number_back, interval_back, route_back}
use Rattle.std.specs.Prelude.{Result}
use Rattle.draw_pictures.specs.declared.Picture.{Picture}
use Rattle.draw.specs.Drawn.{drawn_of}
use Rattle.draw.specs.Demand.{DrawExact, DrawDemand}
use Rattle.draw.proofs.Demands.{exact_demand}
use Rattle.draw_c.specs.declared.DrawnWord.{DrawnWord}
use Rattle.draw_c.specs.Words.{drawn_word, drawn_in}
use Rattle.draw_c.proofs.WordLaws.{drawn_back}
use Rattle.dispatch_c.proofs.dispatch_open.Reads as open_reads
use Rattle.dispatch_c.proofs.dispatch_interval.Reads as interval_reads
use Rattle.dispatch_c.proofs.dispatch_route.Reads as route_reads
use Rattle.dispatch_c.proofs.dispatch_audit.Reads as audit_reads
use Rattle.dispatch_c.proofs.dispatch_post.Reads as post_reads
use Rattle.dispatch_c.proofs.dispatch_close.Reads as close_reads
use Rattle.dispatch_c.proofs.dispatch_withdraw.Reads as withdraw_reads
use Rattle.dispatch_c.proofs.dispatch_travel.Reads as travel_reads
use Rattle.dispatch_c.proofs.dispatch_draw.Reads as draw_reads

-- `Exported file lent call done`: the contract of the call's exported function allows a word `w` that reads so, and these areas after
-- it. Each parameter as the function leaves it has a name of its own, so that what stays is learnt from the contract and from nothing else.
pub data Exported : List ℕ → Lent → PublicCall → Done → Type 0 where
  opens : (κs : Lfts 2) (file : Bor (List ℕ)) (board : MutBor (List ℕ)) (file' : Bor (List ℕ)) (left : MutBor (List ℕ)) (out words : List ℕ) (w : ℕ)
      → open_reads.Learnt κs (file, (board, tt)) w (file', (left, tt))
      → Exported file.now (lends board.now out words) opening (board_done (word_number w) left.now out words)
  counts : (κs : Lfts 3) (file board : Bor (List ℕ)) (out : MutBor (List ℕ)) (file' board' : Bor (List ℕ)) (left : MutBor (List ℕ)) (cell cell' : ℕ) (words : List ℕ) (w : ℕ)
      → interval_reads.Learnt κs (file, (board, (cell, (out, tt)))) w (file', (board', (cell', (left, tt))))
      → Exported file.now (lends board.now out.now words) (interval cell)
      (record { number = word_number w; values = counted_in w; lent = lends board'.now left.now words })
  routes : (κs : Lfts 4) (file board : Bor (List ℕ)) (out words : MutBor (List ℕ)) (file' board' : Bor (List ℕ)) (left cleared : MutBor (List ℕ)) (tug start tick goal dwell tug' start' tick' goal' dwell' w : ℕ)
      → route_reads.Learnt κs (file, (board, (tug, (start, (tick, (goal, (dwell, (out, (words, tt))))))))) w (file', (board', (tug', (start', (tick', (goal', (dwell', (left, (cleared, tt)))))))))
      → Exported file.now (lends board.now out.now words.now) (listed (route tug (node start tick) goal dwell))
      (record { number = word_number w; values = granted_in w; lent = lends board'.now left.now cleared.now })
  audits : (κs : Lfts 3) (file board light file' left light' : Bor (List ℕ)) (out words : List ℕ) (w : ℕ)
      → audit_reads.Learnt κs (file, (board, (light, tt))) w (file', (left, (light', tt)))
      → Exported file.now (lends board.now out words) (listed (audit light.now)) (board_done (word_number w) left.now out words)
  posts : (κs : Lfts 3) (file : Bor (List ℕ)) (board : MutBor (List ℕ)) (light file' : Bor (List ℕ)) (left : MutBor (List ℕ)) (light' : Bor (List ℕ)) (out words : List ℕ) (w : ℕ)
      → post_reads.Learnt κs (file, (board, (light, tt))) w (file', (left, (light', tt)))
      → Exported file.now (lends board.now out words) (listed (post light.now)) (board_done (word_number w) left.now out words)
  closes : (κs : Lfts 2) (file : Bor (List ℕ)) (board : MutBor (List ℕ)) (file' : Bor (List ℕ)) (left : MutBor (List ℕ)) (h cell first last h' cell' first' last' : ℕ) (out words : List ℕ) (w : ℕ)
      → close_reads.Learnt κs (file, (board, (h, (cell, (first, (last, tt)))))) w (file', (left, (h', (cell', (first', (last', tt))))))
      → Exported file.now (lends board.now out words) (listed (close h cell first last)) (board_done (word_number w) left.now out words)
  withdraws : (κs : Lfts 2) (file : Bor (List ℕ)) (board : MutBor (List ℕ)) (file' : Bor (List ℕ)) (left : MutBor (List ℕ)) (h h' : ℕ) (out words : List ℕ) (w : ℕ)
      → withdraw_reads.Learnt κs (file, (board, (h, tt))) w (file', (left, (h', tt)))
      → Exported file.now (lends board.now out words) (listed (withdraw h)) (board_done (word_number w) left.now out words)

-- a call that is lent a board alone
board_word : (file board left out words : List ℕ) (q : PublicCall) → BoardCall q → (w : ℕ) → w ≡ (meant file (on_board board) q).number
    → left ≡ (meant file (on_board board) q).lent.board → board_done (word_number w) left out words ≡ meant file (lends board out words) q
board_word file board left out words q alone w said leaves =
    board_exact file board out words left q alone (word_number w) (number_back file (on_board board) q w said) leaves

-- each contract is one equation to the definitions' desk
pub exact : Exact Exported
exact file l q d (Exported.opens κs f board f' left out words w p) = board_word f.now board.now left.now out words opening tt w p.0 p.1.0
exact file l q d (Exported.counts κs f board out f' board' left cell cell' words w p) =
    let back = interval_back f.now (lends board.now out.now []) cell w p.0 in
    interval_exact f.now board.now out.now words board'.now p.1.1.1 cell (word_number w) (counted_in w) left.now back.0 back.1 p.1.0
exact file l q d (Exported.routes κs f board out words f' board' left cleared tug start tick goal dwell tug' start' tick' goal' dwell' w p) =
    let lent : Lent = lends board.now out.now words.now in
    let back = route_back f.now lent tug (node start tick) goal dwell w p.0 in
    route_exact f.now lent tug (node start tick) goal dwell board'.now p.1.1.1.1 (word_number w) (granted_in w) left.now cleared.now
    back.0 back.1 p.1.0 p.1.1.0
exact file l q d (Exported.audits κs f board light f' left light' out words w p) =
    audit_exact f.now board.now out words left.now light.now p.1.1.0 (word_number w)
    (number_back f.now (on_board board.now) (listed (audit light.now)) w p.0)
exact file l q d (Exported.posts κs f board light f' left light' out words w p) =
    board_word f.now board.now left.now out words (listed (post light.now)) tt w p.0 p.1.0
exact file l q d (Exported.closes κs f board f' left h cell first last h' cell' first' last' out words w p) =
    board_word f.now board.now left.now out words (listed (close h cell first last)) tt w p.0 p.1.0
exact file l q d (Exported.withdraws κs f board f' left h h' out words w p) =
    board_word f.now board.now left.now out words (listed (withdraw h)) tt w p.0 p.1.0

-- so the three demands hold of what a caller in C sees
pub demand1 : Demand1 Exported
demand1 = (exact_demands Exported exact).first

pub demand2 : Demand2 Exported
demand2 = (exact_demands Exported exact).second

pub demand3 : Demand3 Exported
demand3 = (exact_demands Exported exact).third

-- ---- a site file and a light, which are lent for reading, are after the call as they were; what a call leaves of a board is in `Exported`

pub record Unchanged : Type 0 where
  pub opens : (κs : Lfts 2) (file : Bor (List ℕ)) (board : MutBor (List ℕ)) (file' : Bor (List ℕ)) (left : MutBor (List ℕ)) (w : ℕ) → open_reads.Learnt κs (file, (board, tt)) w (file', (left, tt)) → file'.now ≡ file.now
  pub counts : (κs : Lfts 3) (file board : Bor (List ℕ)) (out : MutBor (List ℕ)) (file' board' : Bor (List ℕ)) (left : MutBor (List ℕ)) (cell cell' : ℕ) (w : ℕ)
      → interval_reads.Learnt κs (file, (board, (cell, (out, tt)))) w (file', (board', (cell', (left, tt)))) → file'.now ≡ file.now
  pub routes : (κs : Lfts 4) (file board : Bor (List ℕ)) (out words : MutBor (List ℕ)) (file' board' : Bor (List ℕ)) (left cleared : MutBor (List ℕ)) (tug start tick goal dwell tug' start' tick' goal' dwell' : ℕ) (w : ℕ)
      → route_reads.Learnt κs (file, (board, (tug, (start, (tick, (goal, (dwell, (out, (words, tt))))))))) w (file', (board', (tug', (start', (tick', (goal', (dwell', (left, (cleared, tt)))))))))
      → file'.now ≡ file.now
  pub audits : (κs : Lfts 3) (file board light file' left light' : Bor (List ℕ)) (w : ℕ)
      → audit_reads.Learnt κs (file, (board, (light, tt))) w (file', (left, (light', tt))) → (file'.now ≡ file.now) × (light'.now ≡ light.now)
  pub posts : (κs : Lfts 3) (file : Bor (List ℕ)) (board : MutBor (List ℕ)) (light file' : Bor (List ℕ)) (left : MutBor (List ℕ)) (light' : Bor (List ℕ)) (w : ℕ)
      → post_reads.Learnt κs (file, (board, (light, tt))) w (file', (left, (light', tt))) → (file'.now ≡ file.now) × (light'.now ≡ light.now)
  pub closes : (κs : Lfts 2) (file : Bor (List ℕ)) (board : MutBor (List ℕ)) (file' : Bor (List ℕ)) (left : MutBor (List ℕ)) (h cell first last h' cell' first' last' : ℕ) (w : ℕ)
      → close_reads.Learnt κs (file, (board, (h, (cell, (first, (last, tt)))))) w (file', (left, (h', (cell', (first', (last', tt)))))) → file'.now ≡ file.now
  pub withdraws : (κs : Lfts 2) (file : Bor (List ℕ)) (board : MutBor (List ℕ)) (file' : Bor (List ℕ)) (left : MutBor (List ℕ)) (h h' : ℕ) (w : ℕ)
      → withdraw_reads.Learnt κs (file, (board, (h, tt))) w (file', (left, (h', tt))) → file'.now ≡ file.now
  pub draws : (κs : Lfts 2) (file light file' light' : Bor (List ℕ)) (i k i' k' : ℕ) (r : DrawnWord)
      → draw_reads.Learnt κs (file, (light, (i, (k, tt)))) r (file', (light', (i', (k', tt)))) → (file'.now ≡ file.now) × (light'.now ≡ light.now)

pub unchanged : Unchanged
unchanged = record {
  opens = λ κs file board file' left w p. p.1.1;
  counts = λ κs file board out file' board' left cell cell' w p. p.1.1.0;
  routes = λ κs file board out words file' board' left cleared tug start tick goal dwell tug' start' tick' goal' dwell' w p. p.1.1.1.0;
  audits = λ κs file board light file' left light' w p. (p.1.0, p.1.1.1);
  posts = λ κs file board light file' left light' w p. (p.1.1.0, p.1.1.1);
  closes = λ κs file board file' left h cell first last h' cell' first' last' w p. p.1.1;
  withdraws = λ κs file board file' left h h' w p. p.1.1;
  draws = λ κs file light file' light' i k i' k' r p. p.1;
}

-- ---- the functions ask nothing of their callers: `Asked` is what a contract requires

pub record AsksNothing : Type 0 where
  pub opens : (κs : Lfts 2) (file : Bor (List ℕ)) (board : MutBor (List ℕ)) → open_reads.Asked κs (file, (board, tt))
  pub counts : (κs : Lfts 3) (file board : Bor (List ℕ)) (out : MutBor (List ℕ)) (cell : ℕ) → interval_reads.Asked κs (file, (board, (cell, (out, tt))))
  pub routes : (κs : Lfts 4) (file board : Bor (List ℕ)) (out words : MutBor (List ℕ)) (tug start tick goal dwell : ℕ)
      → route_reads.Asked κs (file, (board, (tug, (start, (tick, (goal, (dwell, (out, (words, tt)))))))))
  pub audits : (κs : Lfts 3) (file board light : Bor (List ℕ)) → audit_reads.Asked κs (file, (board, (light, tt)))
  pub posts : (κs : Lfts 3) (file : Bor (List ℕ)) (board : MutBor (List ℕ)) (light : Bor (List ℕ)) → post_reads.Asked κs (file, (board, (light, tt)))
  pub closes : (κs : Lfts 2) (file : Bor (List ℕ)) (board : MutBor (List ℕ)) (h cell first last : ℕ) → close_reads.Asked κs (file, (board, (h, (cell, (first, (last, tt))))))
  pub withdraws : (κs : Lfts 2) (file : Bor (List ℕ)) (board : MutBor (List ℕ)) (h : ℕ) → withdraw_reads.Asked κs (file, (board, (h, tt)))
  pub travels : (κs : Lfts 0) (d : ℕ) → travel_reads.Asked κs (d, tt)
  pub draws : (κs : Lfts 2) (file light : Bor (List ℕ)) (i k : ℕ) → draw_reads.Asked κs (file, (light, (i, (k, tt))))

pub asks_nothing : AsksNothing
asks_nothing = record {
  opens = λ κs file board. tt;
  counts = λ κs file board out cell. tt;
  routes = λ κs file board out words tug start tick goal dwell. tt;
  audits = λ κs file board light. tt;
  posts = λ κs file board light. tt;
  closes = λ κs file board h cell first last. tt;
  withdraws = λ κs file board h. tt;
  travels = λ κs d. tt;
  draws = λ κs file light i k. tt;
}

-- ---- the claims are not empty: the contracts allow what is meant of every call, and so a run of every list

module _ (file : List ℕ) where
  -- what is meant, of a board alone
  abbrev on_board_done : Lent → PublicCall → Done
  on_board_done l q = meant file (on_board l.board) q

  abbrev interval_done : Lent → ℕ → Done
  interval_done l cell = meant file (lends l.board l.out []) (interval cell)

  some : AllowsSome Exported file
  some l opening =
      (_, Exported.opens (lifetimes 2) (lend file) (lend_mut l.board) (lend file) (lend_mut (on_board_done l opening).lent.board) l.out l.words (on_board_done l opening).number (refl, (refl, refl)))
  some l (interval cell) =
      (_, Exported.counts (lifetimes 3) (lend file) (lend l.board) (lend_mut l.out) (lend file) (lend l.board) (lend_mut (interval_done l cell).lent.out) cell cell l.words (counted_word (counted_of (interval_done l cell))) (refl, (refl, (refl, refl))))
  some l (listed (route tug a goal dwell)) =
      let is : Done = meant file l (listed (route tug a goal dwell)) in (
        _,
        Exported.routes (lifetimes 4) (lend file) (lend l.board) (lend_mut l.out) (lend_mut l.words) (lend file) (lend l.board) (lend_mut is.lent.out) (lend_mut is.lent.words)
            tug a.state a.tick goal dwell tug a.state a.tick goal dwell (granted_word (granted_of is)) (refl, (refl, (refl, (refl, refl)))),
      )
  some l (listed (audit light)) =
      (_, Exported.audits (lifetimes 3) (lend file) (lend l.board) (lend light) (lend file) (lend l.board) (lend light) l.out l.words (on_board_done l (listed (audit light))).number (refl, (refl, (refl, refl))))
  some l (listed (post light)) =
      let is : Done = on_board_done l (listed (post light)) in
      (_, Exported.posts (lifetimes 3) (lend file) (lend_mut l.board) (lend light) (lend file) (lend_mut is.lent.board) (lend light) l.out l.words is.number (refl, (refl, (refl, refl))))
  some l (listed (close h cell first last)) =
      let is : Done = on_board_done l (listed (close h cell first last)) in
      (_, Exported.closes (lifetimes 2) (lend file) (lend_mut l.board) (lend file) (lend_mut is.lent.board) h cell first last h cell first last l.out l.words is.number (refl, (refl, refl)))
  some l (listed (withdraw h)) =
      let is : Done = on_board_done l (listed (withdraw h)) in
      (_, Exported.withdraws (lifetimes 2) (lend file) (lend_mut l.board) (lend file) (lend_mut is.lent.board) h h l.out l.words is.number (refl, (refl, refl)))

  pub can : (l : Lent) (q : PublicCall) → Exported file l q (meant file l q)
  can = allows_meant Exported exact file some

  pub some_run : (board : List ℕ) (cs : List (Call × (List ℕ × List ℕ))) → Follows Exported file board (turns file board cs)
  some_run = every_run Exported exact file some

-- ---- travel, which is lent nothing

-- number and values, read back from a word
abbrev pub returned_in : ℕ → Returned
returned_in w = record { number = word_number w; values = counted_in w }

returned_back : (d w : ℕ) → w ≡ counted_word (timed_of (travel_meant d)) → returned_in w ≡ travel_meant d
returned_back d w same =
    decide (ltb 511 d)
    (λ h. let is_19 = meant_refused d (ltb-true 511 d h) in rw (same, is_19) refl)
    (λ h.
    let is_entry = meant_entry d (ltb-false 511 d h) in
    let back = counted_back (fewest d) in
    rw (same, is_entry) (ap₂ (λ (n : ℕ) (values : List ℕ). record { number = n; values = values }) back.0 back.1))

-- `ExportedTravel d returned`: the contract of dispatch_travel allows a word that reads so
pub data ExportedTravel : ℕ → Returned → Type 0 where
  travels : (κs : Lfts 0) (d d' w : ℕ) → travel_reads.Learnt κs (d, tt) w (d', tt) → ExportedTravel d (returned_in w)

pub travel_exact : TravelExact ExportedTravel
travel_exact d r (ExportedTravel.travels κs e e' w p) = returned_back e w p

-- so it gives the fewest ticks, or 19
pub travel_demand : TravelDemand ExportedTravel
travel_demand = travel_right.demand ExportedTravel travel_exact

-- and the claim is not empty
pub travel_can : (d : ℕ) → ExportedTravel d (travel_meant d)
travel_can d =
    let may : ExportedTravel d (returned_in (counted_word (timed_of (travel_meant d)))) =
    ExportedTravel.travels (lifetimes 0) d d (counted_word (timed_of (travel_meant d))) refl in
    subst (ExportedTravel d) (travel_exact d _ may) may

-- ---- draw, which is lent a site file and a light for reading

-- `ExportedDraw file light step frame drawn`: the contract of dispatch_draw allows what reads so
pub data ExportedDraw : List ℕ → List ℕ → ℕ → ℕ → Result Picture ℕ → Type 0 where
  draws : (κs : Lfts 2) (file light file' light' : Bor (List ℕ)) (i k i' k' : ℕ) (r : DrawnWord)
      → draw_reads.Learnt κs (file, (light, (i, (k, tt)))) r (file', (light', (i', (k', tt)))) → ExportedDraw file.now light.now i k (drawn_in r)

pub draw_exact : DrawExact ExportedDraw
draw_exact file light i k d (ExportedDraw.draws κs f l f' l' j h j' h' r p) = ap drawn_in p.0 ∙ drawn_back f.now l.now j h

-- so it gives the picture that the words say, its numbers exactly, or the lowest number that applies
pub draw_demand : DrawDemand ExportedDraw
draw_demand = exact_demand ExportedDraw draw_exact

-- and the claim is not empty
pub draw_can : (file light : List ℕ) (i k : ℕ) → ExportedDraw file light i k (drawn_of (draw_meant file light i k))
draw_can file light i k =
    let is : DrawnWord = drawn_word (drawn_of (draw_meant file light i k)) in
    let may : ExportedDraw file light i k (drawn_in is) =
    ExportedDraw.draws (lifetimes 2) (lend file) (lend light) (lend file) (lend light) i k i k is (refl, (refl, refl)) in
    subst (ExportedDraw file light i k) (draw_exact file light i k _ may) may
