-- Which areas a call does not look at, and leaves as they were.
-- Assumes nothing.
use Prim.Native.Nat.{ℕ, zero, suc}
use mathlib.Core.Path.{◌≡◌, refl, sym, ap, ◌∙◌}
use mathlib.Core.List.{List, []}
use native.Mathlib.Omega.{arith}
use Rattle.meaning.specs.Answers.{lowest}
use Rattle.meaning.specs.Site.{Site, site_of}
use Rattle.meaning.specs.Plan.{Node}
use Rattle.meaning.specs.Calls.{route, audit, post, close, withdraw, PublicCall, opening, interval, listed, interval_refusals, Lent, lends, on_board, refusals, changed, Done, accepted_done, meant}
use Rattle.meaning.proofs.CallLaws.{meant_number, meant_by, refused_same}
use Rattle.meaning.proofs.DemandLaws.{only_routes}

-- calls that are lent a board alone, and those that are lent no working words
abbrev pub BoardCall : PublicCall → Type 0
BoardCall opening = Unit {0}
BoardCall (interval cell) = ⊥
BoardCall (listed (route tug a goal dwell)) = ⊥
BoardCall (listed (audit light)) = Unit {0}
BoardCall (listed (post light)) = Unit {0}
BoardCall (listed (close h cell first last)) = Unit {0}
BoardCall (listed (withdraw h)) = Unit {0}

module _ (file board out words : List ℕ) where
  abbrev alone : PublicCall → Done
  alone q = meant file (on_board board) q

  -- the refusals do not read the areas
  board_number : (q : PublicCall) → BoardCall q → lowest (refusals file (lends board out words) q) ≡ lowest (refusals file (on_board board) q)
  unfolding refusals
  board_number (interval cell) b = elim b [ ]
  board_number (listed (route tug start goal dwell)) b = elim b [ ]
  board_number opening b = refl
  board_number (listed (audit light)) b = refl
  board_number (listed (post light)) b = refl
  board_number (listed (close h cell first last)) b = refl
  board_number (listed (withdraw h)) b = refl

  board_accepted : (site : Site) (q : PublicCall) → BoardCall q
      → accepted_done site (lends board out words) q
      ≡ record { number = (accepted_done site (on_board board) q).number; values = []; lent = lends (accepted_done site (on_board board) q).lent.board out words }
  unfolding accepted_done changed
  board_accepted site (interval cell) b = elim b [ ]
  board_accepted site (listed (route tug start goal dwell)) b = elim b [ ]
  board_accepted site opening b = refl
  board_accepted site (listed (audit light)) b = refl
  board_accepted site (listed (post light)) b = refl
  board_accepted site (listed (close h cell first last)) b = refl
  board_accepted site (listed (withdraw h)) b = refl

  not_18 : (q : PublicCall) → BoardCall q → (l : Lent) (n : ℕ) → lowest (refusals file l q) ≡ n → n ≡ 18 → ⊥
  not_18 q b l n e z = only_routes file l q (meant_number file l q ∙ e ∙ z) (λ tug a goal dwell same. no_route q b tug a goal dwell same)
    where
      no_route : (k : PublicCall) → BoardCall k → (tug : ℕ) (a : Node) (goal dwell : ℕ) → k ≡ listed (route tug a goal dwell) → ⊥
      no_route (interval cell) b tug a goal dwell w = elim b [ ]
      no_route (listed (route _ start _ _)) b tug a goal dwell w = elim b [ ]
      no_route opening b tug a goal dwell w = let y : ◌≡◌ {A = ℕ} 0 1 = cc in omega arith
      no_route (listed (audit light)) b tug a goal dwell w = let y : ◌≡◌ {A = ℕ} 0 1 = cc in omega arith
      no_route (listed (post light)) b tug a goal dwell w = let y : ◌≡◌ {A = ℕ} 0 1 = cc in omega arith
      no_route (listed (close h cell first last)) b tug a goal dwell w = let y : ◌≡◌ {A = ℕ} 0 1 = cc in omega arith
      no_route (listed (withdraw h)) b tug a goal dwell w = let y : ◌≡◌ {A = ℕ} 0 1 = cc in omega arith

  -- a call that is lent a board alone, among areas
  pub board_alone : (q : PublicCall) → BoardCall q → meant file (lends board out words) q ≡ record { number = (alone q).number; values = []; lent = lends (alone q).lent.board out words }
  board_alone q b = by_number (lowest (refusals file (on_board board) q)) refl
    where
      by_number : (n : ℕ) → lowest (refusals file (on_board board) q) ≡ n
          → meant file (lends board out words) q ≡ record { number = (alone q).number; values = []; lent = lends (alone q).lent.board out words }
      by_number zero e =
          meant_by file (lends board out words) q 0 (board_number q b ∙ e)
          ∙ board_accepted (site_of file) q b
          ∙ sym (ap (λ (d : Done). record { number = d.number; values = []; lent = lends d.lent.board out words }) (meant_by file (on_board board) q 0 e))
      by_number (suc n) e =
          meant_by file (lends board out words) q (suc n) (board_number q b ∙ e)
          ∙ refused_same (site_of file) (lends board out words) (suc n) (not_18 q b (on_board board) (suc n) e)
          ∙ sym (ap (λ (d : Done). record { number = d.number; values = []; lent = lends d.lent.board out words })
          (meant_by file (on_board board) q (suc n) e ∙ refused_same (site_of file) (on_board board) (suc n) (not_18 q b (on_board board) (suc n) e)))

-- an interval call, among working words
module _ (file board out words : List ℕ) (cell : ℕ) where
  abbrev counted : Done
  counted = meant file (lends board out []) (interval cell)

  pub interval_alone : meant file (lends board out words) (interval cell) ≡ record { number = counted.number; values = counted.values; lent = lends board counted.lent.out words }
  unfolding refusals interval_refusals accepted_done
  interval_alone = by_number (lowest (refusals file (lends board out []) (interval cell))) refl
    where
      no_route : (tug : ℕ) (a : Node) (goal dwell : ℕ) → interval cell ≡ listed (route tug a goal dwell) → ⊥
      no_route tug a goal dwell w = let y : ◌≡◌ {A = ℕ} 0 1 = cc in omega arith

      by_number : (n : ℕ) → lowest (refusals file (lends board out []) (interval cell)) ≡ n
          → meant file (lends board out words) (interval cell) ≡ record { number = counted.number; values = counted.values; lent = lends board counted.lent.out words }
      by_number zero e =
          meant_by file (lends board out words) (interval cell) 0 e
          ∙ sym (ap (λ (d : Done). record { number = d.number; values = d.values; lent = lends board d.lent.out words }) (meant_by file (lends board out []) (interval cell) 0 e))
      by_number (suc n) e =
          let other : suc n ≡ 18 → ⊥ = λ z. only_routes file (lends board out []) (interval cell) (meant_number file (lends board out []) (interval cell) ∙ e ∙ z) no_route in
          meant_by file (lends board out words) (interval cell) (suc n) e
          ∙ refused_same (site_of file) (lends board out words) (suc n) other
          ∙ sym (ap (λ (d : Done). record { number = d.number; values = d.values; lent = lends board d.lent.out words })
          (meant_by file (lends board out []) (interval cell) (suc n) e ∙ refused_same (site_of file) (lends board out []) (suc n) other))
