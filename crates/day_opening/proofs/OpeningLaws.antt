-- Laws of the opening: a board is opened whatever its bytes were.
-- Assumes nothing.
use Prim.Native.Nat.{ℕ, zero, suc, min}
use native.Mathlib.Omega.{arith}
use mathlib.Core.Path.{◌≡◌, refl, sym, ap, ◌∙◌}
use mathlib.Core.Bool.{not}
use mathlib.Core.List.{List, [], ◌∷◌, ◌++◌}
use lib.Dec.{eqb}
use lib.ListN.{length, take, drop, replicate, length-take, length-append, length-replicate}
use lib.Seq.{take_at}
use Rattle.day_lines.specs.Counts.{IsPrefixLen}
use Rattle.meaning.specs.Limits.{day_area}
use Rattle.meaning.specs.Answers.{◌if◌, lowest}
use Rattle.meaning.specs.Site.{site_of, site_refusals}
use Rattle.meaning.specs.Board.{board_length}
use Rattle.meaning.specs.Calls.{opening, on_board, refusals, Done, accepted_done, meant}
use Rattle.meaning.specs.Day.{line, day_board, text_of}
use Rattle.meaning.proofs.AnswersLaws.{Passed, lowest_clear}
use Rattle.meaning.proofs.CallLaws as CallLaws
use Rattle.meaning.proofs.CheckLaws.{site_refused}
use Rattle.answers.specs.declared.Refusal.{Refusal}
use Rattle.answers.specs.Answers as Answers
use Rattle.answers.proofs.Laws.{number_least}
use Rattle.day_opening.specs.Opens.{Opens, Refuses}

-- ---- the number

module _ (file board board' : List ℕ) (same : lowest (site_refusals file) ≡ 0 → length board ≡ length board') where
  by_site : (n : ℕ) → lowest (site_refusals file) ≡ n → lowest (refusals file (on_board board) opening) ≡ lowest (refusals file (on_board board') opening)
  unfolding refusals
  by_site zero z = ap (λ (n : ℕ). lowest (site_refusals file ++ (7 if not (eqb n (board_length (site_of file))) ∷ []))) (same z)
  by_site (suc n) z = site_refused file (on_board board) opening n z ∙ sym (site_refused file (on_board board') opening n z)

  -- of an opening the board's length alone counts
  same_number : (meant file (on_board board) opening).number ≡ (meant file (on_board board') opening).number
  same_number = CallLaws.meant_number file (on_board board) opening ∙ by_site (lowest (site_refusals file)) refl ∙ sym (CallLaws.meant_number file (on_board board') opening)

module _ (file board : List ℕ) (e : (meant file (on_board board) opening).number ≡ 0) where
  passed : CallLaws.Parts file (on_board board) opening Passed
  passed = CallLaws.accepted_parts file (on_board board) opening e

  read : lowest (site_refusals file) ≡ 0
  read = lowest_clear (site_refusals file) passed.of_site

  sized : length board ≡ board_length (site_of file)
  sized = CallLaws.board_sized file (on_board board) passed.of_board

  opened_board : (meant file (on_board board) opening).lent.board ≡ replicate (length board) 0
  unfolding accepted_done
  opened_board = ap (λ (d : Done). d.lent.board) (CallLaws.meant_accepted file (on_board board) opening e)

-- ---- the first bytes of an area, opened

module _ (file area : List ℕ) (need : ℕ) (inside : length (take need area) ≡ need) (part : lowest (site_refusals file) ≡ 0 → need ≡ min (board_length (site_of file)) day_area) where
  abbrev board : List ℕ
  board = take need area

  abbrev size : ℕ
  size = length (day_board file)

  day_size : size ≡ min (board_length (site_of file)) day_area
  day_size = length-take (board_length (site_of file)) (replicate day_area 0) ∙ ap (min (board_length (site_of file))) (length-replicate {A = ℕ} day_area 0)

  same_size : lowest (site_refusals file) ≡ 0 → length board ≡ size
  same_size z = inside ∙ part z ∙ sym day_size

  number : (meant file (on_board board) opening).number ≡ (meant file (on_board (day_board file)) opening).number
  number = same_number file board (day_board file) same_size

  module _ (e : 0 ≡ (meant file (on_board board) opening).number) where
    whole : length board ≡ size
    whole = same_size (read file board (sym e))

    pub opened : (new : List ℕ) → new ≡ (meant file (on_board board) opening).lent.board → Opens file need (new ++ drop need area)
    opened new w =
        let zeros : new ≡ replicate (length board) 0 = w ∙ opened_board file board (sym e) in
        let long : length new ≡ need = ap length zeros ∙ length-replicate {A = ℕ} (length board) 0 ∙ inside in
        let count : length board ≡ board_length (site_of file) = sized file board (sym e) in
        let joined = length-append new (drop need area) in
        record {
          number = sym number ∙ sym e;
          has_edition = omega arith;
          inside = omega arith;
          front = take_at new (drop need area) need long ∙ zeros ∙ ap (λ (k : ℕ). replicate k 0) whole ∙ sym (opened_board file (day_board file) (sym number ∙ sym e));
        }

  pub refused : (r : Refusal) → Answers.number r ≡ (meant file (on_board board) opening).number → (n : ℕ) → n ≡ Answers.number r
      → (text : ℕ) (new : List ℕ) → IsPrefixLen text new → take text new ≡ text_of (line n 0 0) → Refuses file text new
  refused r e n printed text new counted front =
      let some = number_least r in
      let told = printed ∙ e ∙ number in
      record { number = λ z. omega arith; counted = counted; front = front ∙ ap (λ (m : ℕ). text_of (line m 0 0)) told }
