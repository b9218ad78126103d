-- The demands, of the public calls themselves: over what their contracts promise, and nothing else of the code.
-- `Learnt` and its arguments are those of crates/desk_board/proofs/ContractLaws.antt.
-- Assumes nothing.
use Prim.Native.Nat.{ℕ}
use mathlib.Core.Path.{◌≡◌, refl, ap, ◌∙◌, subst}
use mathlib.Core.List.{List, []}
use contract.Lifetimes.{Lfts}
use Rattle.std.specs.Prelude.{Result}
use denote.Ref.{Bor, MutBor}
use Rattle.meaning.specs.Calls.{PublicCall, opening, interval, listed, Call, route, audit, post, close, withdraw, Lent, lends, on_board, Done, meant}
use Rattle.meaning.specs.Demands.{Exact, Demand1, Demand2, Demand3, Follows}
use Rattle.meaning.proofs.Theorems.{exact_demands}
use Rattle.meaning.specs.Plan.{Node, node}
use Rattle.travel_runs.specs.Travel.{Returned, travel_meant, TravelExact, TravelDemand}
use Rattle.travel_runs.proofs.Theorems.{travel_right}
use Rattle.answers.specs.declared.Refusal.{Refusal}
use Rattle.answers.specs.declared.Granted.{Granted}
use Rattle.answers.specs.Answers.{number_of, answer_of, counted_values, counted_of, granted_values, granted_of, named}
use Rattle.answers.proofs.Laws.{meant_known, answer_named, counted_named, granted_named, named_counted, named_granted, counted_values_lem, granted_values_lem}
use Rattle.travel.specs.Timed.{timed_returned, timed_of}
use Rattle.answers.proofs.DeskLaws.{board_done, lifetimes, lend, lend_mut, turns, AllowsSome, allows_meant, every_run}
use Rattle.desk_board.proofs.ContractLaws.{open_meant, interval_meant}
use Rattle.desk_holder.proofs.ContractLaws.{close_meant, withdraw_meant}
use Rattle.desk_light.proofs.ContractLaws.{audit_meant, post_meant}
use Rattle.desk_route.proofs.ContractLaws.{route_meant}
use Rattle.travel.proofs.ContractLaws.{travel_meant_lem, timed_back}
use Rattle.desk_board.proofs.open.Reads as open_reads
use Rattle.desk_board.proofs.interval.Reads as interval_reads
use Rattle.desk_route.proofs.route.Reads as route_reads
use Rattle.desk_light.proofs.audit.Reads as audit_reads
use Rattle.desk_light.proofs.post.Reads as post_reads
use Rattle.desk_holder.proofs.close.Reads as close_reads
use Rattle.desk_holder.proofs.withdraw.Reads as withdraw_reads
use Rattle.travel.proofs.travel.Reads as travel_reads

-- `Calls file lent call done`: the contract of the call's function allows this answer and these areas after it. Each parameter as the
-- function leaves it has a name of its own, so that what stays is learnt from the contract and from nothing else.
pub data Calls : List ℕ → Lent → PublicCall → Done → Type 0 where
  opens : (κs : Lfts 2) (file : Bor (List ℕ)) (board : MutBor (List ℕ)) (file' : Bor (List ℕ)) (left : MutBor (List ℕ)) (out words : List ℕ) (r : Result Unit Refusal)
      → open_reads.Learnt κs (file, (board, tt)) r (file', (left, tt))
      → Calls file.now (lends board.now out words) opening (board_done (number_of r) left.now out words)
  counts : (κs : Lfts 3) (file board : Bor (List ℕ)) (out : MutBor (List ℕ)) (file' board' : Bor (List ℕ)) (left : MutBor (List ℕ)) (cell cell' : ℕ) (words : List ℕ) (r : Result ℕ Refusal)
      → interval_reads.Learnt κs (file, (board, (cell, (out, tt)))) r (file', (board', (cell', (left, tt))))
      → Calls file.now (lends board.now out.now words) (interval cell)
      (record { number = number_of r; values = counted_values r; lent = lends board'.now left.now words })
  routes : (κs : Lfts 4) (file board : Bor (List ℕ)) (out words : MutBor (List ℕ)) (file' board' : Bor (List ℕ)) (left cleared : MutBor (List ℕ)) (tug start tick goal dwell tug' start' tick' goal' dwell' : ℕ) (r : Result Granted Refusal)
      → route_reads.Learnt κs (file, (board, (tug, (start, (tick, (goal, (dwell, (out, (words, tt))))))))) r (file', (board', (tug', (start', (tick', (goal', (dwell', (left, (cleared, tt)))))))))
      → Calls file.now (lends board.now out.now words.now) (listed (route tug (node start tick) goal dwell))
      (record { number = number_of r; values = granted_values r; lent = lends board'.now left.now cleared.now })
  audits : (κs : Lfts 3) (file board light file' left light' : Bor (List ℕ)) (out words : List ℕ) (r : Result Unit Refusal)
      → audit_reads.Learnt κs (file, (board, (light, tt))) r (file', (left, (light', tt)))
      → Calls file.now (lends board.now out words) (listed (audit light.now)) (board_done (number_of r) left.now out words)
  posts : (κs : Lfts 3) (file : Bor (List ℕ)) (board : MutBor (List ℕ)) (light file' : Bor (List ℕ)) (left : MutBor (List ℕ)) (light' : Bor (List ℕ)) (out words : List ℕ) (r : Result Unit Refusal)
      → post_reads.Learnt κs (file, (board, (light, tt))) r (file', (left, (light', tt)))
      → Calls file.now (lends board.now out words) (listed (post light.now)) (board_done (number_of r) left.now out words)
  closes : (κs : Lfts 2) (file : Bor (List ℕ)) (board : MutBor (List ℕ)) (file' : Bor (List ℕ)) (left : MutBor (List ℕ)) (h cell first last h' cell' first' last' : ℕ) (out words : List ℕ) (r : Result Unit Refusal)
      → close_reads.Learnt κs (file, (board, (h, (cell, (first, (last, tt)))))) r (file', (left, (h', (cell', (first', (last', tt))))))
      → Calls file.now (lends board.now out words) (listed (close h cell first last)) (board_done (number_of r) left.now out words)
  withdraws : (κs : Lfts 2) (file : Bor (List ℕ)) (board : MutBor (List ℕ)) (file' : Bor (List ℕ)) (left : MutBor (List ℕ)) (h h' : ℕ) (out words : List ℕ) (r : Result Unit Refusal)
      → withdraw_reads.Learnt κs (file, (board, (h, tt))) r (file', (left, (h', tt)))
      → Calls file.now (lends board.now out words) (listed (withdraw h)) (board_done (number_of r) left.now out words)

-- each contract is one equation to the definitions' desk
pub exact : Exact Calls
exact file l q d (Calls.opens κs f board f' left out words r p) = (open_meant f board f' left out words r κs p).0
exact file l q d (Calls.counts κs f board out f' board' left cell cell' words r p) = (interval_meant f board out f' board' left words r κs cell cell' p).0
exact file l q d (Calls.routes κs f board out words f' board' left cleared tug start tick goal dwell tug' start' tick' goal' dwell' r p) =
    (route_meant f board out words f' board' left cleared r κs tug start tick goal dwell tug' start' tick' goal' dwell' p).0
exact file l q d (Calls.audits κs f board light f' left light' out words r p) = (audit_meant f board light f' left light' out words r κs p).0
exact file l q d (Calls.posts κs f board light f' left light' out words r p) = (post_meant f board light f' left light' out words r κs p).0
exact file l q d (Calls.closes κs f board f' left h cell first last h' cell' first' last' out words r p) =
    (close_meant f board f' left out words r κs h cell first last h' cell' first' last' p).0
exact file l q d (Calls.withdraws κs f board f' left h h' out words r p) = (withdraw_meant f board f' left out words r κs h h' p).0

-- So each call returns and writes exactly what is meant; the intervals are all safe intervals and the audit is right; and after
-- every list of calls, of any length, the board and all answers are the plain board's, with routes that are complete and earliest.
pub demand1 : Demand1 Calls
demand1 = (exact_demands Calls exact).first

pub demand2 : Demand2 Calls
demand2 = (exact_demands Calls exact).second

pub demand3 : Demand3 Calls
demand3 = (exact_demands Calls exact).third

-- ---- a site file and a light, which are lent for reading, are after the call as they were; what a call leaves of a board is in `Calls`

pub record Unchanged : Type 0 where
  pub opens : (κs : Lfts 2) (file : Bor (List ℕ)) (board : MutBor (List ℕ)) (file' : Bor (List ℕ)) (left : MutBor (List ℕ)) (r : Result Unit Refusal) → open_reads.Learnt κs (file, (board, tt)) r (file', (left, tt)) → file'.now ≡ file.now
  pub counts : (κs : Lfts 3) (file board : Bor (List ℕ)) (out : MutBor (List ℕ)) (file' board' : Bor (List ℕ)) (left : MutBor (List ℕ)) (cell cell' : ℕ) (r : Result ℕ Refusal)
      → interval_reads.Learnt κs (file, (board, (cell, (out, tt)))) r (file', (board', (cell', (left, tt)))) → file'.now ≡ file.now
  pub routes : (κs : Lfts 4) (file board : Bor (List ℕ)) (out words : MutBor (List ℕ)) (file' board' : Bor (List ℕ)) (left cleared : MutBor (List ℕ)) (tug start tick goal dwell tug' start' tick' goal' dwell' : ℕ) (r : Result Granted Refusal)
      → route_reads.Learnt κs (file, (board, (tug, (start, (tick, (goal, (dwell, (out, (words, tt))))))))) r (file', (board', (tug', (start', (tick', (goal', (dwell', (left, (cleared, tt)))))))))
      → file'.now ≡ file.now
  pub audits : (κs : Lfts 3) (file board light file' left light' : Bor (List ℕ)) (r : Result Unit Refusal)
      → audit_reads.Learnt κs (file, (board, (light, tt))) r (file', (left, (light', tt))) → (file'.now ≡ file.now) × (light'.now ≡ light.now)
  pub posts : (κs : Lfts 3) (file : Bor (List ℕ)) (board : MutBor (List ℕ)) (light file' : Bor (List ℕ)) (left : MutBor (List ℕ)) (light' : Bor (List ℕ)) (r : Result Unit Refusal)
      → post_reads.Learnt κs (file, (board, (light, tt))) r (file', (left, (light', tt))) → (file'.now ≡ file.now) × (light'.now ≡ light.now)
  pub closes : (κs : Lfts 2) (file : Bor (List ℕ)) (board : MutBor (List ℕ)) (file' : Bor (List ℕ)) (left : MutBor (List ℕ)) (h cell first last h' cell' first' last' : ℕ) (r : Result Unit Refusal)
      → close_reads.Learnt κs (file, (board, (h, (cell, (first, (last, tt)))))) r (file', (left, (h', (cell', (first', (last', tt)))))) → file'.now ≡ file.now
  pub withdraws : (κs : Lfts 2) (file : Bor (List ℕ)) (board : MutBor (List ℕ)) (file' : Bor (List ℕ)) (left : MutBor (List ℕ)) (h h' : ℕ) (r : Result Unit Refusal)
      → withdraw_reads.Learnt κs (file, (board, (h, tt))) r (file', (left, (h', tt))) → file'.now ≡ file.now

pub unchanged : Unchanged
unchanged = record {
  opens = λ κs file board file' left r p. (open_meant file board file' left [] [] r κs p).1;
  counts = λ κs file board out file' board' left cell cell' r p. (interval_meant file board out file' board' left [] r κs cell cell' p).1;
  routes = λ κs file board out words file' board' left cleared tug start tick goal dwell tug' start' tick' goal' dwell' r p.
      (route_meant file board out words file' board' left cleared r κs tug start tick goal dwell tug' start' tick' goal' dwell' p).1;
  audits = λ κs file board light file' left light' r p. (audit_meant file board light file' left light' [] [] r κs p).1;
  posts = λ κs file board light file' left light' r p. (post_meant file board light file' left light' [] [] r κs p).1;
  closes = λ κs file board file' left h cell first last h' cell' first' last' r p.
      (close_meant file board file' left [] [] r κs h cell first last h' cell' first' last' p).1;
  withdraws = λ κs file board file' left h h' r p. (withdraw_meant file board file' left [] [] r κs h h' p).1;
}

-- ---- the calls ask nothing of their callers: `Asked` is what a contract requires

pub record AsksNothing : Type 0 where
  pub opens : (κs : Lfts 2) (file : Bor (List ℕ)) (board : MutBor (List ℕ)) → open_reads.Asked κs (file, (board, tt))
  pub counts : (κs : Lfts 3) (file board : Bor (List ℕ)) (out : MutBor (List ℕ)) (cell : ℕ) → interval_reads.Asked κs (file, (board, (cell, (out, tt))))
  pub routes : (κs : Lfts 4) (file board : Bor (List ℕ)) (out words : MutBor (List ℕ)) (tug start tick goal dwell : ℕ)
      → route_reads.Asked κs (file, (board, (tug, (start, (tick, (goal, (dwell, (out, (words, tt)))))))))
  pub audits : (κs : Lfts 3) (file board light : Bor (List ℕ)) → audit_reads.Asked κs (file, (board, (light, tt)))
  pub posts : (κs : Lfts 3) (file : Bor (List ℕ)) (board : MutBor (List ℕ)) (light : Bor (List ℕ)) → post_reads.Asked κs (file, (board, (light, tt)))
  pub closes : (κs : Lfts 2) (file : Bor (List ℕ)) (board : MutBor (List ℕ)) (h cell first last : ℕ) → close_reads.Asked κs (file, (board, (h, (cell, (first, (last, tt))))))
  pub withdraws : (κs : Lfts 2) (file : Bor (List ℕ)) (board : MutBor (List ℕ)) (h : ℕ) → withdraw_reads.Asked κs (file, (board, (h, tt)))
  pub travels : (κs : Lfts 0) (d : ℕ) → travel_reads.Asked κs (d, tt)

pub asks_nothing : AsksNothing
asks_nothing = record {
  opens = λ κs file board. tt;
  counts = λ κs file board out cell. tt;
  routes = λ κs file board out words tug start tick goal dwell. tt;
  audits = λ κs file board light. tt;
  posts = λ κs file board light. tt;
  closes = λ κs file board h cell first last. tt;
  withdraws = λ κs file board h. tt;
  travels = λ κs d. tt;
}

-- ---- the claims are not empty: the contracts allow what is meant of every call, and so a run of every list

module _ (file : List ℕ) where
  -- what is meant, of a board alone
  abbrev on_board_done : Lent → PublicCall → Done
  on_board_done l q = meant file (on_board l.board) q

  abbrev interval_done : Lent → ℕ → Done
  interval_done l cell = meant file (lends l.board l.out []) (interval cell)

  -- the answers for what is meant, whose numbers are all known
  abbrev answered_on_board : Lent → PublicCall → Result Unit Refusal
  answered_on_board l q = named (answer_of (on_board_done l q).number)

  told : (l : Lent) (q : PublicCall) → number_of (answered_on_board l q) ≡ (on_board_done l q).number
  told l q = answer_named _ (meant_known file (on_board l.board) q)

  counted : (l : Lent) (cell : ℕ) → counted_values (named (counted_of (interval_done l cell))) ≡ (interval_done l cell).values
  counted l cell = named_counted (counted_of (interval_done l cell)) ∙ counted_values_lem file (lends l.board l.out []) cell

  granted : (l : Lent) (tug : ℕ) (a : Node) (goal dwell : ℕ)
      → granted_values (named (granted_of (meant file l (listed (route tug a goal dwell))))) ≡ (meant file l (listed (route tug a goal dwell))).values
  granted l tug a goal dwell = named_granted (granted_of (meant file l (listed (route tug a goal dwell)))) ∙ granted_values_lem file l tug a.state a.tick goal dwell

  some : AllowsSome Calls file
  some l opening =
      (_, Calls.opens (lifetimes 2) (lend file) (lend_mut l.board) (lend file) (lend_mut (on_board_done l opening).lent.board) l.out l.words (answered_on_board l opening) (told l opening, (refl, refl)))
  some l (interval cell) = (
    _,
    Calls.counts (lifetimes 3) (lend file) (lend l.board) (lend_mut l.out) (lend file) (lend l.board) (lend_mut (interval_done l cell).lent.out) cell cell l.words (named (counted_of (interval_done l cell)))
        (counted_named (interval_done l cell) (meant_known file (lends l.board l.out []) (interval cell)), (counted l cell, (refl, (refl, refl)))),
  )
  some l (listed (route tug a goal dwell)) =
      let is : Done = meant file l (listed (route tug a goal dwell)) in (
        _,
        Calls.routes (lifetimes 4) (lend file) (lend l.board) (lend_mut l.out) (lend_mut l.words) (lend file) (lend l.board) (lend_mut is.lent.out) (lend_mut is.lent.words)
            tug a.state a.tick goal dwell tug a.state a.tick goal dwell (named (granted_of is))
            (granted_named is (meant_known file l (listed (route tug a goal dwell))), (granted l tug a goal dwell, (refl, (refl, (refl, refl))))),
      )
  some l (listed (audit light)) =
      (_, Calls.audits (lifetimes 3) (lend file) (lend l.board) (lend light) (lend file) (lend l.board) (lend light) l.out l.words (answered_on_board l (listed (audit light))) (told l (listed (audit light)), (refl, (refl, refl))))
  some l (listed (post light)) =
      let is : Done = on_board_done l (listed (post light)) in
      (_, Calls.posts (lifetimes 3) (lend file) (lend_mut l.board) (lend light) (lend file) (lend_mut is.lent.board) (lend light) l.out l.words (answered_on_board l (listed (post light))) (told l (listed (post light)), (refl, (refl, refl))))
  some l (listed (close h cell first last)) =
      let is : Done = on_board_done l (listed (close h cell first last)) in
      (_, Calls.closes (lifetimes 2) (lend file) (lend_mut l.board) (lend file) (lend_mut is.lent.board) h cell first last h cell first last l.out l.words (answered_on_board l (listed (close h cell first last))) (told l (listed (close h cell first last)), (refl, refl)))
  some l (listed (withdraw h)) =
      let is : Done = on_board_done l (listed (withdraw h)) in
      (_, Calls.withdraws (lifetimes 2) (lend file) (lend_mut l.board) (lend file) (lend_mut is.lent.board) h h l.out l.words (answered_on_board l (listed (withdraw h))) (told l (listed (withdraw h)), (refl, refl)))

  pub can : (l : Lent) (q : PublicCall) → Calls file l q (meant file l q)
  can = allows_meant Calls exact file some

  pub some_run : (board : List ℕ) (cs : List (Call × (List ℕ × List ℕ))) → Follows Calls file board (turns file board cs)
  some_run = every_run Calls exact file some

-- ---- travel, which is lent nothing

-- `Travels d returned`: the contract of travel allows this answer
pub data Travels : ℕ → Returned → Type 0 where
  travels : (κs : Lfts 0) (d d' : ℕ) (r : Result ℕ Refusal) → travel_reads.Learnt κs (d, tt) r (d', tt) → Travels d (timed_returned r)

pub travel_exact : TravelExact Travels
travel_exact d r (Travels.travels κs e e' answer p) = travel_meant_lem κs e e' answer p

-- so it gives the fewest ticks, or 19
pub travel_demand : TravelDemand Travels
travel_demand = travel_right.demand Travels travel_exact

-- and the claim is not empty
pub travel_can : (d : ℕ) → Travels d (travel_meant d)
travel_can d =
    let is = timed_back d in
    let may : Travels d (timed_returned (named (timed_of (travel_meant d)))) =
    Travels.travels (lifetimes 0) d d (named (timed_of (travel_meant d))) (ap (λ (r : Returned). r.number) is, ap (λ (r : Returned). r.values) is) in
    subst (Travels d) is may
