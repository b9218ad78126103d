-- Laws for every desk, whatever form its answers have: what makes a call's outcome the one that is meant, and that an exact desk which
-- allows some outcome of every call has a run of every list.
-- Assumes nothing.
use Prim.Native.Nat.{ℕ, zero, suc}
use mathlib.Core.Path.{◌≡◌, refl, sym, ap, ap₂, ◌∙◌, subst}
use mathlib.Core.List.{List, [], ◌∷◌}
use contract.Lifetimes.{Lfts}
use denote.Ref.{Bor, MutBor}
use Rattle.meaning.specs.Answers.{lowest}
use Rattle.meaning.specs.Site.{site_of}
use Rattle.meaning.specs.Plan.{Node}
use Rattle.meaning.specs.Calls.{PublicCall, interval, listed, Call, route, audit, Lent, lends, on_board, refusals, changed, Done, meant}
use Rattle.meaning.specs.Demands.{Desk, Exact, Turn, Follows}
use Rattle.meaning.proofs.CallLaws.{meant_by, done_board}
use Rattle.meaning.proofs.AreaLaws.{BoardCall, board_alone, interval_alone}
use Rattle.meaning.proofs.Theorems.{demands}

-- ---- the outcome that is meant, call by call

-- what comes of a call that is lent a board alone: its number, and the board as it leaves it
abbrev pub board_done : ℕ → List ℕ → List ℕ → List ℕ → Done
board_done n board out words = record { number = n; values = []; lent = lends board out words }

module _ (file board out words : List ℕ) where
  pub board_exact : (left : List ℕ) (q : PublicCall) → BoardCall q → (n : ℕ) → n ≡ (meant file (on_board board) q).number
      → left ≡ (meant file (on_board board) q).lent.board → board_done n left out words ≡ meant file (lends board out words) q
  board_exact left q alone n answered leaves =
      ap₂ (λ (m : ℕ) (b : List ℕ). board_done m b out words) answered leaves ∙ sym (board_alone file board out words q alone)

  -- an audit never writes the board
  pub audit_exact : (kept light : List ℕ) → kept ≡ board → (n : ℕ) → n ≡ (meant file (on_board board) (listed (audit light))).number
      → board_done n kept out words ≡ meant file (lends board out words) (listed (audit light))
  audit_exact kept light stays n answered =
      board_exact kept (listed (audit light)) tt n answered
      (stays ∙ sym (ap (λ (m : Lent). m.board) (demands.first.audited file (on_board board) light _ refl).1))

  pub interval_exact : (kept : List ℕ) → kept ≡ board → (cell n : ℕ) (values left : List ℕ) → n ≡ (meant file (lends board out []) (interval cell)).number
      → values ≡ (meant file (lends board out []) (interval cell)).values → left ≡ (meant file (lends board out []) (interval cell)).lent.out
      → record { number = n; values = values; lent = lends kept left words } ≡ meant file (lends board out words) (interval cell)
  interval_exact kept stays cell n values left same_number same_values leaves =
      (λ i. record { number = same_number i; values = same_values i; lent = lends (stays i) (leaves i) words })
      ∙ sym (interval_alone file board out words cell)

module _ (file : List ℕ) (l : Lent) (tug : ℕ) (a : Node) (goal dwell : ℕ) where
  abbrev routed : Done
  routed = meant file l (listed (route tug a goal dwell))

  -- a route never writes the board
  route_keeps : l.board ≡ routed.lent.board
  unfolding changed
  route_keeps = by_number (lowest (refusals file l (listed (route tug a goal dwell)))) refl
    where
      by_number : (n : ℕ) → lowest (refusals file l (listed (route tug a goal dwell))) ≡ n → l.board ≡ routed.lent.board
      by_number zero e = sym (ap (λ (d : Done). d.lent.board) (meant_by file l (listed (route tug a goal dwell)) 0 e) ∙ done_board (site_of file) l (route tug a goal dwell) 0)
      by_number (suc n) e =
          sym (ap (λ (d : Done). d.lent.board) (meant_by file l (listed (route tug a goal dwell)) (suc n) e) ∙ done_board (site_of file) l (route tug a goal dwell) (suc n))

  pub route_exact : (kept : List ℕ) → kept ≡ l.board
      → (n : ℕ) (values out words : List ℕ) → n ≡ routed.number → values ≡ routed.values → out ≡ routed.lent.out → words ≡ routed.lent.words
      → record { number = n; values = values; lent = lends kept out words } ≡ routed
  route_exact kept stays n values out words same_number same_values leaves clears =
      let keeps = stays ∙ route_keeps in
      (λ i. record { number = same_number i; values = same_values i; lent = lends (keeps i) (leaves i) (clears i) })

-- ---- a run of every list

-- lifetimes of a call's references; the claims hold of any
abbrev pub lifetimes : (n : ℕ) → Lfts n
lifetimes zero = tt
lifetimes (suc n) = ([], lifetimes n)

-- a list, lent
abbrev pub lend : List ℕ → Bor (List ℕ)
lend b = record { ref_ptr = (0, 0); now = b }

-- and lent to be written
abbrev pub lend_mut : List ℕ → MutBor (List ℕ)
lend_mut b = record { ref_ptr = (0, 0); ghost_name = 0; now = b }

-- each call with the areas that it brings, on the board that the one before left
abbrev pub turns : List ℕ → List ℕ → List (Call × (List ℕ × List ℕ)) → List Turn
turns file board [] = []
turns file board ((c, (out, words)) ∷ cs) =
    record { call = c; lent = lends board out words; done = meant file (lends board out words) (listed c) }
    ∷ turns file (meant file (lends board out words) (listed c)).lent.board cs

-- some outcome of every call is allowed
abbrev pub AllowsSome : Desk → List ℕ → Type 0
AllowsSome desk file = (l : Lent) (q : PublicCall) → (d : Done) × desk file l q d

module _ (desk : Desk) (exact : Exact desk) (file : List ℕ) (some : AllowsSome desk file) where
  -- then what is meant is
  pub allows_meant : (l : Lent) (q : PublicCall) → desk file l q (meant file l q)
  allows_meant l q = let may = some l q in subst (desk file l q) (exact file l q may.0 may.1) may.1

  pub every_run : (board : List ℕ) (cs : List (Call × (List ℕ × List ℕ))) → Follows desk file board (turns file board cs)
  every_run board [] = tt
  every_run board ((c, (out, words)) ∷ cs) = (refl, allows_meant (lends board out words) (listed c), every_run (meant file (lends board out words) (listed c)).lent.board cs)
