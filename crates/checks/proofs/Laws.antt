-- Laws of the checks: checks that are made one after the other, and the checks 1 to 7 before the later ones.
-- Assumes nothing.
use Prim.Native.Nat.{ℕ, zero, suc, ◌<◌, ◌≤◌}
use native.Mathlib.Omega.{arith}
use mathlib.Core.Path.{◌≡◌, refl, sym, ap, ap₂, ◌∙◌}
use mathlib.Core.Bool.{Bool, false, cond}
use mathlib.Core.List.{List, [], ◌∷◌}
use lib.Dec.{eqb}
use lib.ListN.{length}
use Rattle.std.specs.Prelude.{Result, Ok, Err, IsErr, IsErrAnd}
use Rattle.meaning.specs.Limits.{header, last_edition}
use Rattle.meaning.specs.Basics.{Each}
use Rattle.meaning.specs.Answers as Checked
use Rattle.meaning.specs.Answers.{lowest}
use Rattle.meaning.specs.Site.{Site, site_of, site_refusals}
use Rattle.meaning.specs.Board.{board_length, edition, Pair, mark}
use Rattle.meaning.specs.Calls.{PublicCall, opening, Lent, later_refusals, refusals, on_board, with_board}
use Rattle.meaning.proofs.BasicsLaws.{decide}
use Rattle.meaning.proofs.SiteLaws.{site_read}
use Rattle.meaning.proofs.AnswersLaws as AnswersLaws
use Rattle.meaning.proofs.CheckLaws.{site_refused, size_refused, size_passed, as_open, past_open}
use Rattle.meaning.proofs.BoardLaws.{length_mark, edition_mark}
use Rattle.answers.specs.declared.Refusal.{Refusal}
use Rattle.answers.specs.Answers.{number, number_of}
use Rattle.answers.proofs.Laws.{number_least}
use Rattle.site_layout.specs.Laid.{Laid}
use Rattle.site_read.proofs.Laws.{read_laid}
use Rattle.site.specs.Check.{sizes_of}
use Rattle.site.specs.Ready.{Ready}
use Rattle.site.specs.Halls.{site_in}
use Rattle.site.specs.declared.Sizes.{Sizes}
use Rattle.site.specs.declared.hall.Hall.{Hall}

-- ---- a refusal that `?` passes on

pub passed_on : {A : Type 0} (result : Result A Refusal) (r : Refusal) → IsErr result × IsErrAnd result (λ s. s ≡ r) → number_of result ≡ number r
passed_on (Ok x) r (err, same) = absurd same
passed_on (Err s) r (err, same) = ap number same

-- ---- a check by its number

-- does the check with the number n apply?
abbrev pub applies_in : ℕ → List Checked.Refusal → Bool
applies_in n [] = false
applies_in n (r ∷ rs) = cond (eqb r.number n) r.applies (applies_in n rs)

pub passed_at : (n : ℕ) (rs : List Checked.Refusal) → Each AnswersLaws.Passed rs → applies_in n rs ≡ false
passed_at n [] h = refl
passed_at n (r ∷ rs) (e, h) = decide (eqb r.number n) (λ q. simp q e) (λ q. simp q (passed_at n rs h))

-- ---- numbers 1 to 7

-- a file that is accepted is laid out
pub site_laid : (file : List ℕ) → 0 ≡ lowest (site_refusals file) → Laid file
site_laid file e = read_laid file _ (site_read file (sym e))

module _ (file board : List ℕ) where
  -- a file that is refused: the number is that of its list
  pub site_stops : (r : Refusal) → number r ≡ lowest (site_refusals file) → number r ≡ lowest (refusals file (on_board board) opening)
  site_stops r e = go (number r) (number_least r) e
    where
      go : (n : ℕ) → 1 ≤ n → n ≡ lowest (site_refusals file) → n ≡ lowest (refusals file (on_board board) opening)
      go zero some e = absurd (omega arith)
      go (suc n) some e = sym (site_refused file (on_board board) opening n (sym e))

  module _ (e : 0 ≡ lowest (site_refusals file)) where
    -- with its sizes and a board of its length the file is ready
    pub site_ready : (l : Sizes) → l ≡ sizes_of (site_of file) → length board ≡ board_length (site_of file) → Ready file (length board) l
    site_ready l sized same = record { read = site_read file (sym e); sizes = sized; board = same }

    pub size_stops : (length board ≡ board_length (site_of file) → ⊥) → 7 ≡ lowest (refusals file (on_board board) opening)
    size_stops other = sym (size_refused file (on_board board) (sym e) other)

    pub size_passes : length board ≡ board_length (site_of file) → 0 ≡ lowest (refusals file (on_board board) opening)
    size_passes same = sym (size_passed file (on_board board) (sym e) same)

-- ---- the later numbers

module _ (file : List ℕ) (lent : Lent) (q : PublicCall) where
  -- every call is refused as open is
  pub refused_first : (r : Refusal) → number r ≡ lowest (refusals file (on_board lent.board) opening) → number r ≡ lowest (refusals file lent q)
  unfolding refusals
  refused_first r e = go (number r) (number_least r) e
    where
      go : (n : ℕ) → 1 ≤ n → n ≡ lowest (refusals file (on_board lent.board) opening) → n ≡ lowest (refusals file lent q)
      go zero some e = absurd (omega arith)
      go (suc n) some e = sym (as_open file lent q n (sym e))

  -- or answered by its later checks
  pub later_lowest : 0 ≡ lowest (refusals file (on_board lent.board) opening) → lowest (refusals file lent q) ≡ lowest (later_refusals (site_of file) lent q)
  unfolding refusals
  later_lowest e = past_open file lent q (sym e)

  -- those of the hall's site, on its board
  pub later_in : (hall : Hall) → (hall.file.bytes.now ≡ file) × (hall.board.now ≡ lent.board) → 0 ≡ lowest (refusals file (on_board lent.board) opening)
      → lowest (refusals file lent q) ≡ lowest (later_refusals (site_in hall) (with_board hall.board.now lent) q)
  later_in hall (of_file, of_board) e =
      later_lowest e
      ∙ sym (ap₂ (λ (f b : List ℕ). lowest (later_refusals (site_of f) (with_board b lent) q)) of_file of_board)

-- ---- the work

-- what the next edition asks of a board, after a run is marked or a holder cleared
abbrev pub Editable : List ℕ → Type 0
Editable board = (header ≤ length board) × (edition board < last_edition)

pub mark_editable : (site : Site) (h : ℕ) (ps : List Pair) (board new : List ℕ) → new ≡ mark site h ps board → Editable board → Editable new
mark_editable site h ps board new e (long, below) =
    let size : length new ≡ length board = ap length e ∙ length_mark site h ps board in
    let same : edition new ≡ edition board = ap edition e ∙ edition_mark site h ps board in
    (omega arith, omega arith)
