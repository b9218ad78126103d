-- Laws for code that finds a call's number check by check.
-- Assumes nothing.
use Prim.Native.Nat.{ℕ, suc}
use native.Mathlib.Omega.{arith}
use mathlib.Core.Path.{◌≡◌, sym, ap, ◌∙◌}
use mathlib.Core.Bool.{Bool, true, false, not}
use mathlib.Core.List.{List, [], ◌∷◌, ◌++◌, append_assoc}
use lib.Dec.{eqb}
use borrow.Author.Tests.{ne_eqb}
use lib.ListN.{length}
use Rattle.meaning.specs.Answers.{Refusal, ◌if◌, lowest}
use Rattle.meaning.specs.Site.{site_of, site_refusals}
use Rattle.meaning.specs.Board.{board_length}
use Rattle.meaning.specs.Calls.{PublicCall, opening, Lent, later_refusals, refusals}
use Rattle.meaning.proofs.AnswersLaws.{lowest_hit, lowest_miss, lowest_clear, lowest_none, lowest_append, site_rise, lowest_front}
use Rattle.meaning.proofs.CallLaws.{later_number, board_sized, none_parts}

-- ---- one check

-- it applies: its number is the answer
pub hit : (n : ℕ) (b : Bool) (rs : List Refusal) → b ≡ true → n ≡ lowest (n if b ∷ rs)
hit n b rs e = sym (lowest_hit (n if b) rs e)

-- it does not: the later checks answer
pub miss : (m n : ℕ) (b : Bool) (rs : List Refusal) → b ≡ false → m ≡ lowest rs → m ≡ lowest (n if b ∷ rs)
miss m n b rs e h = h ∙ sym (lowest_miss (n if b) rs e)

-- no check is left
pub none_left : 0 ≡ lowest []
none_left = sym (lowest_clear [] tt)

-- ---- numbers 1 to 7, and those after them

module _ (file : List ℕ) (l : Lent) where
  -- a site that is refused is refused with its own number
  pub site_refused : (q : PublicCall) (n : ℕ) → lowest (site_refusals file) ≡ suc n → lowest (refusals file l q) ≡ suc n
  unfolding refusals
  site_refused q n e = lowest_front (site_refusals file) _ (suc n) e (omega arith)

  pub size_refused : lowest (site_refusals file) ≡ 0 → (length l.board ≡ board_length (site_of file) → ⊥) → lowest (refusals file l opening) ≡ 7
  unfolding refusals
  size_refused e other =
      lowest_append (site_refusals file) _ (lowest_none (site_refusals file) (site_rise file) e)
      ∙ lowest_hit _ [] (ap not (ne_eqb (length l.board) (board_length (site_of file)) other))

  pub size_passed : lowest (site_refusals file) ≡ 0 → length l.board ≡ board_length (site_of file) → lowest (refusals file l opening) ≡ 0
  size_passed e same = later_number file l opening (lowest_none (site_refusals file) (site_rise file) e) same ∙ lowest_clear [] tt

  -- a call is refused as open is, or answered by its later checks
  pub as_open : (q : PublicCall) (n : ℕ) → lowest (refusals file l opening) ≡ suc n → lowest (refusals file l q) ≡ suc n
  unfolding refusals
  as_open q n e =
      ap lowest (sym (append_assoc (site_refusals file) (7 if not (eqb (length l.board) (board_length (site_of file))) ∷ []) (later_refusals (site_of file) l q)))
      ∙ lowest_front (site_refusals file ++ (7 if not (eqb (length l.board) (board_length (site_of file))) ∷ [])) (later_refusals (site_of file) l q) (suc n) e (omega arith)

  pub past_open : (q : PublicCall) → lowest (refusals file l opening) ≡ 0 → lowest (refusals file l q) ≡ lowest (later_refusals (site_of file) l q)
  past_open q e =
      let passed : _ = none_parts file l opening e in
      later_number file l q passed.of_site (board_sized file l passed.of_board)
