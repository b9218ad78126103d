-- Laws of the answers: a refusal's number and the answer for a number; what is meant of a call that is refused, and of one that is not.
-- Assumes nothing.
use Prim.Native.Nat.{ℕ, zero, suc, ◌≤◌}
use native.Mathlib.Omega.{arith}
use mathlib.Core.Path.{◌≡◌, refl, sym, ap, ap₂, ◌∙◌}
use mathlib.Core.List.{List, [], ◌∷◌}
use lib.Dec.{eqb}
use borrow.Author.Tests.{eqb-true}
use Rattle.std.specs.Prelude.{true, Result, Ok, Err}
use Rattle.meaning.specs.Basics.{all_below, Each}
use Rattle.meaning.specs.Answers as Refuse
use Rattle.meaning.specs.Answers.{lowest}
use Rattle.meaning.specs.Site.{Site, site_of, site_refusals}
use Rattle.meaning.specs.Plan.{Node, node}
use Rattle.meaning.specs.Calls.{PublicCall, opening, interval, listed, Call, route, audit, post, close, withdraw, Lent, refusals, later_refusals, route_refusals, light_refusals, close_refusals, withdraw_refusals, interval_refusals, changed, Done, accepted_done, refused_done, done_by, meant}
use Rattle.meaning.proofs.BasicsLaws.{decide, below_at}
use Rattle.meaning.proofs.CallLaws.{meant_number, meant_by, done_board}
use Rattle.answers.specs.declared.Refusal.{Refusal}
use Rattle.answers.specs.declared.Refusal.TheVariants as R
use Rattle.answers.specs.declared.Granted.{Granted}
use Rattle.answers.specs.Answers.{number, number_of, counted_values, granted_values, number_in, answer_of, counted_of, counted_by, granted_of, granted_by, numbered, refusal_of, named}

-- ---- numbers and cases

pub number_least : (r : Refusal) → 1 ≤ number r
number_least R.SiteTooLong = omega arith
number_least R.SiteCut = omega arith
number_least R.SiteHead = omega arith
number_least R.SiteLayout = omega arith
number_least R.StateCell = omega arith
number_least R.Motion = omega arith
number_least R.BoardLength = omega arith
number_least R.LightLayout = omega arith
number_least R.HolderRange = omega arith
number_least R.OutOfRange = omega arith
number_least R.GoalRolling = omega arith
number_least R.HolderStands = omega arith
number_least R.HolderAbsent = omega arith
number_least R.AreaShort = omega arith
number_least R.LastEdition = omega arith
number_least R.StaleLight = omega arith
number_least R.Conflict = omega arith
number_least R.NoPlan = omega arith
number_least R.TooFar = omega arith
number_least R.NoPicture = omega arith

-- the case of a refusal's number is the refusal
pub refusal_back : (r : Refusal) → refusal_of (number r) ≡ r
refusal_back R.SiteTooLong = refl
refusal_back R.SiteCut = refl
refusal_back R.SiteHead = refl
refusal_back R.SiteLayout = refl
refusal_back R.StateCell = refl
refusal_back R.Motion = refl
refusal_back R.BoardLength = refl
refusal_back R.LightLayout = refl
refusal_back R.HolderRange = refl
refusal_back R.OutOfRange = refl
refusal_back R.GoalRolling = refl
refusal_back R.HolderStands = refl
refusal_back R.HolderAbsent = refl
refusal_back R.AreaShort = refl
refusal_back R.LastEdition = refl
refusal_back R.StaleLight = refl
refusal_back R.Conflict = refl
refusal_back R.NoPlan = refl
refusal_back R.TooFar = refl
refusal_back R.NoPicture = refl

-- so a number tells its refusal: what a contract says of the number, it says of the case
pub number_tells : (r s : Refusal) → number r ≡ number s → r ≡ s
number_tells r s same = sym (refusal_back r) ∙ ap refusal_of same ∙ refusal_back s

-- the number of the case of a number
pub refusal_number : (n : ℕ) → 1 ≤ n → n ≤ 20 → number (refusal_of n) ≡ n
unfolding all_below
refusal_number zero least most = absurd (omega arith)
refusal_number (suc n) least most = eqb-true _ _ (below_at (λ k. eqb (number (refusal_of (suc k))) (suc k)) 20 computed n (omega arith))
  where
    computed : all_below (λ k. eqb (number (refusal_of (suc k))) (suc k)) 20 ≡ true
    computed = refl

-- ---- every number of a call's list is one of the 20

abbrev Known : Refuse.Refusal → Type 0
Known r = r.number ≤ 20

lowest_known : (rs : List Refuse.Refusal) → Each Known rs → lowest rs ≤ 20
unfolding lowest
lowest_known [] h = omega arith
lowest_known (r ∷ rs) (this, later) = decide r.applies (λ e. simp e this) (λ e. simp e (lowest_known rs later))

later_known : (site : Site) (l : Lent) (q : PublicCall) → Each Known (later_refusals site l q)
unfolding interval_refusals route_refusals light_refusals close_refusals withdraw_refusals
later_known site l opening = tt
later_known site l (interval cell) = (omega arith, (omega arith, tt))
later_known site l (listed (route tug a goal dwell)) = (omega arith, (omega arith, (omega arith, (omega arith, (omega arith, (omega arith, tt))))))
later_known site l (listed (audit light)) = (omega arith, (omega arith, (omega arith, (omega arith, (omega arith, (omega arith, (omega arith, (omega arith, tt))))))))
later_known site l (listed (post light)) = (omega arith, (omega arith, (omega arith, (omega arith, (omega arith, (omega arith, (omega arith, (omega arith, tt))))))))
later_known site l (listed (close h cell first last)) = (omega arith, (omega arith, (omega arith, (omega arith, (omega arith, tt)))))
later_known site l (listed (withdraw h)) = (omega arith, (omega arith, (omega arith, tt)))

call_known : (file : List ℕ) (l : Lent) (q : PublicCall) → lowest (refusals file l q) ≤ 20
unfolding refusals site_refusals
call_known file l q =
    lowest_known (refusals file l q)
    (omega arith, (omega arith, (omega arith, (omega arith, (omega arith, (omega arith, (omega arith, later_known (site_of file) l q)))))))

pub meant_known : (file : List ℕ) (l : Lent) (q : PublicCall) → (meant file l q).number ≤ 20
meant_known file l q = let same : (meant file l q).number ≡ lowest (refusals file l q) = meant_number file l q in rw same (call_known file l q)

-- ---- the answer for a number says it again, whatever the number is

pub answer_number : (n : ℕ) → number_in (answer_of n) ≡ n
answer_number zero = refl
answer_number (suc n) = refl

pub answered : (r : Result Unit ℕ) (n : ℕ) → r ≡ answer_of n → number_in r ≡ n
answered r n same = ap number_in same ∙ answer_number n

pub counted_number : (d : Done) → number_in (counted_of d) ≡ d.number
counted_number d = by d.number
  where
    by : (n : ℕ) → number_in (counted_by n d.values) ≡ n
    by zero = refl
    by (suc n) = refl

pub granted_number : (d : Done) → number_in (granted_of d) ≡ d.number
granted_number d = by d.number
  where
    by : (n : ℕ) → number_in (granted_by n d.values) ≡ n
    by zero = refl
    by (suc n) = refl

-- and the answer for what is meant of interval and of route says its values
pub counted_told : (site : Site) (l : Lent) (cell n : ℕ) → counted_values (counted_of (done_by site l (interval cell) n)) ≡ (done_by site l (interval cell) n).values
unfolding accepted_done refused_done
counted_told site l cell zero = refl
counted_told site l cell (suc n) = refl

pub granted_told : (site : Site) (l : Lent) (tug : ℕ) (a : Node) (goal dwell n : ℕ)
    → granted_values (granted_of (done_by site l (listed (route tug a goal dwell)) n)) ≡ (done_by site l (listed (route tug a goal dwell)) n).values
unfolding accepted_done refused_done
granted_told site l tug a goal dwell zero = refl
granted_told site l tug a goal dwell (suc n) = refl

module _ (file : List ℕ) (l : Lent) (cell : ℕ) where
  pub counted_number_lem : number_in (counted_of (meant file l (interval cell))) ≡ (meant file l (interval cell)).number
  counted_number_lem = counted_number (meant file l (interval cell))

  pub counted_values_lem : counted_values (counted_of (meant file l (interval cell))) ≡ (meant file l (interval cell)).values
  unfolding meant
  counted_values_lem = counted_told (site_of file) l cell (lowest (refusals file l (interval cell)))

module _ (file : List ℕ) (l : Lent) (tug start tick goal dwell : ℕ) where
  pub granted_number_lem : number_in (granted_of (meant file l (listed (route tug (node start tick) goal dwell)))) ≡ (meant file l (listed (route tug (node start tick) goal dwell))).number
  granted_number_lem = granted_number (meant file l (listed (route tug (node start tick) goal dwell)))

  pub granted_values_lem : granted_values (granted_of (meant file l (listed (route tug (node start tick) goal dwell)))) ≡ (meant file l (listed (route tug (node start tick) goal dwell))).values
  unfolding meant
  granted_values_lem = granted_told (site_of file) l tug (node start tick) goal dwell (lowest (refusals file l (listed (route tug (node start tick) goal dwell))))

-- ---- an answer with a number in its refusal's place has the answer's number and values, and tells the answer

module _ {A : Type 0} where
  pub numbered_number : (r : Result A Refusal) → number_in (numbered r) ≡ number_of r
  numbered_number (Ok x) = refl
  numbered_number (Err r) = refl

  pub named_back : (r : Result A Refusal) → named (numbered r) ≡ r
  named_back (Ok x) = refl
  named_back (Err r) = ap Err (refusal_back r)

  pub numbered_tells : (r s : Result A Refusal) → numbered r ≡ numbered s → r ≡ s
  numbered_tells r s same = sym (named_back r) ∙ ap named same ∙ named_back s

-- so a call's number, with its values, tells the answer for them
pub answered_is : (r : Result Unit Refusal) (n : ℕ) → number_of r ≡ n → numbered r ≡ answer_of n
answered_is (Ok tt) n same = ap answer_of same
answered_is (Err r) n same = by (number r) (number_least r) ∙ ap answer_of same
  where
    by : (m : ℕ) → 1 ≤ m → Err m ≡ answer_of m
    by zero least = absurd (omega arith)
    by (suc m) least = refl

pub counted_is : (r : Result ℕ Refusal) (n : ℕ) (values : List ℕ) → number_of r ≡ n → counted_values r ≡ values → numbered r ≡ counted_by n values
counted_is (Ok k) n values same told = ap₂ counted_by same told
counted_is (Err r) n values same told = by (number r) [] (number_least r) ∙ ap₂ counted_by same told
  where
    by : (m : ℕ) (xs : List ℕ) → 1 ≤ m → Err m ≡ counted_by m xs
    by zero xs least = absurd (omega arith)
    by (suc m) xs least = refl

pub granted_is : (r : Result Granted Refusal) (n : ℕ) (values : List ℕ) → number_of r ≡ n → granted_values r ≡ values → numbered r ≡ granted_by n values
granted_is (Ok g) n values same told = ap₂ granted_by same told
granted_is (Err r) n values same told = by (number r) [] (number_least r) ∙ ap₂ granted_by same told
  where
    by : (m : ℕ) (xs : List ℕ) → 1 ≤ m → Err m ≡ granted_by m xs
    by zero xs least = absurd (omega arith)
    by (suc m) xs least = refl

-- ---- and the refusal for the number is the call's, where the number is one of the 20

-- its error is such a number
abbrev pub HasRefusal : {A : Type 0} → Result A ℕ → Type 0
HasRefusal (Ok x) = Unit {0}
HasRefusal (Err n) = (1 ≤ n) × (n ≤ 20)

pub numbered_named : {A : Type 0} (a : Result A ℕ) → HasRefusal a → numbered (named a) ≡ a
numbered_named (Ok x) h = refl
numbered_named (Err n) (least, most) = ap Err (refusal_number n least most)

pub named_number : {A : Type 0} (a : Result A ℕ) → HasRefusal a → number_of (named a) ≡ number_in a
named_number a h = sym (numbered_number (named a)) ∙ ap number_in (numbered_named a h)

pub named_counted : (a : Result ℕ ℕ) → counted_values (named a) ≡ counted_values a
named_counted (Ok n) = refl
named_counted (Err n) = refl

pub named_granted : (a : Result Granted ℕ) → granted_values (named a) ≡ granted_values a
named_granted (Ok g) = refl
named_granted (Err n) = refl

pub answer_named : (n : ℕ) → n ≤ 20 → number_of (named (answer_of n)) ≡ n
answer_named zero most = refl
answer_named (suc n) most = refusal_number (suc n) (omega arith) most

pub counted_named : (d : Done) → d.number ≤ 20 → number_of (named (counted_of d)) ≡ d.number
counted_named d most = by d.number most
  where
    by : (n : ℕ) → n ≤ 20 → number_of (named (counted_by n d.values)) ≡ n
    by zero h = refl
    by (suc n) h = refusal_number (suc n) (omega arith) h

pub granted_named : (d : Done) → d.number ≤ 20 → number_of (named (granted_of d)) ≡ d.number
granted_named d most = by d.number most
  where
    by : (n : ℕ) → n ≤ 20 → number_of (named (granted_by n d.values)) ≡ n
    by zero h = refl
    by (suc n) h = refusal_number (suc n) (omega arith) h

-- ---- what is meant, by the lowest number that applies

-- a refusal leaves the board and the output area
refused_keeps : (site : Site) (l : Lent) (n : ℕ) → (l.board ≡ (refused_done site l n).lent.board) × (l.out ≡ (refused_done site l n).lent.out)
unfolding refused_done
refused_keeps site l n = decide (eqb n 18) (λ e. (simp e, simp e)) (λ e. (simp e, simp e))

refused_tells : (site : Site) (l : Lent) (n : ℕ) → [] ≡ (refused_done site l n).values
unfolding refused_done
refused_tells site l n = refl

-- a refusal's number is not 0
answer_refused : (n : ℕ) → 1 ≤ n → Err n ≡ answer_of n
answer_refused zero h = absurd (omega arith)
answer_refused (suc n) h = refl

by_refused : (site : Site) (l : Lent) (q : PublicCall) (n : ℕ) → 1 ≤ n → done_by site l q n ≡ refused_done site l n
by_refused site l q zero h = absurd (omega arith)
by_refused site l q (suc n) h = refl

-- it is n, a refusal's
abbrev pub RefusedBy : List ℕ → Lent → PublicCall → ℕ → Type 0
RefusedBy file lent q n = (lowest (refusals file lent q) ≡ n) × (1 ≤ n)

module _ (file : List ℕ) (lent : Lent) (q : PublicCall) where
  module _ (n : ℕ) (r : RefusedBy file lent q n) where
    pub refused_by_number : (meant file lent q).number ≡ n
    refused_by_number = meant_number file lent q ∙ r.0

    refused_meant : meant file lent q ≡ refused_done (site_of file) lent n
    refused_meant = meant_by file lent q n r.0 ∙ by_refused (site_of file) lent q n r.1

    pub refused_answer : Err n ≡ answer_of (meant file lent q).number
    refused_answer = answer_refused n r.1 ∙ sym (ap answer_of refused_by_number)

    pub refused_by_values : [] ≡ (meant file lent q).values
    refused_by_values = refused_tells (site_of file) lent n ∙ sym (ap (λ (d : Done). d.values) refused_meant)

    pub refused_by_board : lent.board ≡ (meant file lent q).lent.board
    refused_by_board = (refused_keeps (site_of file) lent n).0 ∙ sym (ap (λ (d : Done). d.lent.board) refused_meant)

    pub refused_by_out : lent.out ≡ (meant file lent q).lent.out
    refused_by_out = (refused_keeps (site_of file) lent n).1 ∙ sym (ap (λ (d : Done). d.lent.out) refused_meant)

  -- the same of a refusal that applies first
  module _ (r : Refusal) (first : number r ≡ lowest (refusals file lent q)) where
    by_first : RefusedBy file lent q (number r)
    by_first = (sym first, number_least r)

    pub refused_number : number r ≡ (meant file lent q).number
    refused_number = sym (refused_by_number (number r) by_first)

    pub refused_values : [] ≡ (meant file lent q).values
    refused_values = refused_by_values (number r) by_first

    pub refused_board : lent.board ≡ (meant file lent q).lent.board
    refused_board = refused_by_board (number r) by_first

    pub refused_out : lent.out ≡ (meant file lent q).lent.out
    refused_out = refused_by_out (number r) by_first

  -- none applies
  module _ (none : 0 ≡ lowest (refusals file lent q)) where
    pub accepted_number : 0 ≡ (meant file lent q).number
    accepted_number = none ∙ sym (meant_number file lent q)

    pub accepted_answer : Ok tt ≡ answer_of (meant file lent q).number
    accepted_answer = ap answer_of accepted_number

    pub accepted_meant : accepted_done (site_of file) lent q ≡ meant file lent q
    accepted_meant = sym (meant_by file lent q 0 (sym none))

-- the board that a call of a list leaves
module _ (file : List ℕ) (lent : Lent) (c : Call) (none : 0 ≡ lowest (refusals file lent (listed c))) where
  pub accepted_board : (end : List ℕ) → end ≡ changed (site_of file) lent.board c → end ≡ (meant file lent (listed c)).lent.board
  accepted_board end same =
      same ∙ sym (done_board (site_of file) lent c 0) ∙ ap (λ (d : Done). d.lent.board) (accepted_meant file lent (listed c) none)
