-- What is meant of a route call: by the number of a check up to 14, and where none of them applies by what the search finds.
-- Assumes nothing.
use Prim.Native.Nat.{ℕ, zero, suc, ◌≤◌, ◌<◌}
use native.Mathlib.Omega.{arith}
use mathlib.Core.Path.{◌≡◌, refl, sym, ap, ◌∙◌}
use mathlib.Core.Option.{none, some}
use mathlib.Core.List.{List, [], ◌∷◌, ◌++◌}
use Rattle.meaning.specs.Basics.{all, Each, is_none}
use Rattle.meaning.specs.Answers as Checked
use Rattle.meaning.specs.Answers.{◌if◌, lowest, Clears, RiseFrom}
use Rattle.meaning.specs.Site.{Site, site_of, site_refusals}
use Rattle.meaning.specs.Board.{free}
use Rattle.meaning.specs.Plan.{Node}
use Rattle.meaning.specs.Reach.{Route, find_route}
use Rattle.meaning.specs.Calls.{PublicCall, route, opening, listed, bytes_view, route_refusals, later_refusals, Lent, on_board, room_of, with_words_zero, refusals, accepted_done, meant}
use Rattle.meaning.proofs.AnswersLaws as AnswersLaws
use Rattle.meaning.proofs.CallLaws.{PassesTo14, passes_to_14, meant_number, meant_by, meant_accepted, refused_same, refused_18, search_found, search_none}
use Rattle.answers.specs.declared.Refusal.{Refusal}
use Rattle.answers.specs.Answers.{number}
use Rattle.answers.proofs.Laws.{number_least}
use Rattle.checks.proofs.Laws.{refused_first, later_lowest}
use Rattle.checks_route.specs.Checks.{route_checks}

-- one list of checks that passed before another
each_join : {A : Type 0} (P : A → Type 0) (xs ys : List A) → Each P xs → Each P ys → Each P (xs ++ ys)
each_join P [] ys h k = k
each_join P (x ∷ xs) ys (e, h) k = (e, each_join P xs ys h k)

-- checks that all passed, and one with a number above n behind them
clears_behind : (n : ℕ) (xs : List Checked.Refusal) (r : Checked.Refusal) → n < r.number → Each AnswersLaws.Passed xs → Clears n (xs ++ (r ∷ []))
clears_behind n [] r above h = (λ le. absurd (omega arith), tt)
clears_behind n (x ∷ xs) r above (e, h) = (λ le. e, clears_behind n xs r above h)

module _ (file : List ℕ) (lent : Lent) (tug : ℕ) (a : Node) (goal dwell : ℕ) where
  abbrev site : Site
  site = site_of file

  abbrev call : PublicCall
  call = listed (route tug a goal dwell)

  -- the checks 1 to 7, those up to 14, and the search
  abbrev first : List Checked.Refusal
  first = refusals file (on_board lent.board) opening

  abbrev pub checks : List Checked.Refusal
  checks = route_checks site (bytes_view site lent.board) (room_of lent) tug a goal dwell

  abbrev searched : Checked.Refusal
  searched = 18 if is_none (find_route site (bytes_view site lent.board).free a goal dwell)

  later_parts : later_refusals site lent call ≡ checks ++ (searched ∷ [])
  unfolding route_refusals
  later_parts = refl

  all_parts : refusals file lent call ≡ (first ++ checks) ++ (searched ∷ [])
  unfolding refusals site_refusals route_refusals
  all_parts = refl

  -- ---- refused: nothing lent is changed

  refused_meant : (n : ℕ) → lowest (refusals file lent call) ≡ n → 1 ≤ n → n ≤ 14 → meant file lent call ≡ record { number = n; values = []; lent = lent }
  refused_meant zero low above most = absurd (omega arith)
  refused_meant (suc k) low above most = meant_by file lent call (suc k) low ∙ refused_same site lent (suc k) (λ q. absurd (omega arith))

  first_most : lowest first ≤ 7
  unfolding refusals site_refusals all
  first_most = AnswersLaws.lowest_most 7 first refl

  pub first_meant : (r : Refusal) → number r ≡ lowest first → meant file lent call ≡ record { number = number r; values = []; lent = lent }
  first_meant r e =
      let most = first_most in
      refused_meant (number r) (sym (refused_first file lent call r e)) (number_least r) (omega arith)

  checks_most : lowest checks ≤ 14
  unfolding route_refusals all
  checks_most = AnswersLaws.lowest_most 14 checks refl

  module _ (e : 0 ≡ lowest first) where
    pub later_meant : (r : Refusal) → number r ≡ lowest checks → meant file lent call ≡ record { number = number r; values = []; lent = lent }
    later_meant r same =
        let most = checks_most in
        refused_meant (number r)
        (later_lowest file lent call e ∙ ap lowest later_parts ∙ AnswersLaws.lowest_front checks _ (number r) (sym same) (number_least r))
        (number_least r) (omega arith)

    -- ---- passed

    checks_rise : RiseFrom 7 checks
    unfolding route_refusals
    checks_rise = (omega arith, (omega arith, (omega arith, (omega arith, (omega arith, tt)))))

    module _ (passed : 0 ≡ lowest checks) where
      first_passed : Each AnswersLaws.Passed first
      first_passed = AnswersLaws.lowest_none first (AnswersLaws.all_rise file (on_board lent.board) opening) (sym e)

      clears : Clears 14 (refusals file lent call)
      clears =
          rw all_parts
          (clears_behind 14 (first ++ checks) searched (omega arith)
          (each_join AnswersLaws.Passed first checks first_passed (AnswersLaws.rise_none 7 checks checks_rise (sym passed))))

      pub passes : PassesTo14 site lent tug a goal dwell
      passes = passes_to_14 file lent tug a goal dwell clears

      -- ---- then the search answers

      pub found_meant : (r : Route) → find_route site (free site lent.board) a goal dwell ≡ some r → meant file lent call ≡ accepted_done site lent call
      unfolding bytes_view
      found_meant r found = meant_accepted file lent call (search_found file lent tug a goal dwell clears (ap is_none found))

      -- the words are zero, and all else is as before
      pub none_meant : find_route site (free site lent.board) a goal dwell ≡ none → meant file lent call ≡ record { number = 18; values = []; lent = with_words_zero site lent }
      unfolding bytes_view
      none_meant no_route =
          let number : (meant file lent call).number ≡ 18 = search_none file lent tug a goal dwell clears (ap is_none no_route) in
          meant_by file lent call 18 (sym (meant_number file lent call) ∙ number) ∙ refused_18 site lent
