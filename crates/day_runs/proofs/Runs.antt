-- What the day program may print, over what the contracts of `day_opening::start` and `day_turns::turn` promise. Of the code nothing else
-- enters but that the site file, which is lent for reading, is the same at every call. `Learnt` and its arguments are those of crates/desk_board/proofs/ContractLaws.antt.
-- Assumes nothing.
use Prim.Native.Nat.{ℕ, zero, suc}
use mathlib.Core.Path.{◌≡◌, refl, sym, ap, ◌∙◌, subst}
use mathlib.Core.Bool.{Bool, true, false}
use mathlib.Core.Option.{Option, none, some}
use mathlib.Core.List.{List, [], ◌++◌, append-nil}
use lib.ListN.{length, take, drop}
use contract.Lifetimes.{Lfts}
use denote.Ref.{Bor, MutBor}
use Rattle.meaning.specs.Basics.{Bytes}
use Rattle.meaning.specs.Fields.{fields}
use Rattle.meaning.specs.Day.{line, Day, text_of, texts, day_text, piece, line_next, day_next}
use Rattle.meaning.specs.DayPrints.{start, DayPrints}
use Rattle.meaning.specs.Laws.{Turns, ended, turned, DayTurns}
use Rattle.meaning.proofs.Theorems.{all_laws}
use Rattle.day_results.specs.declared.Outcome.{Outcome}
use Rattle.day_calls.specs.Performed.{day_at}
use Rattle.std.proofs.Common.{Ok, Err, Continue, Break}
use Rattle.day_opening.specs.Opens.{Opens, Refuses}
use Rattle.day_turns.specs.Turns.{day_if, Turned}
use Rattle.day_opening.proofs.start.Reads as start_reads
use Rattle.day_turns.proofs.turn.Reads as turn_reads

-- `TurnsPrint file first rest day text`: turn after turn over the rest of a script, the first or later ones, each handed the piece that is
-- next, until one says that it was the last. A turn prints the front of the line that it is lent.
pub data TurnsPrint : List ℕ → Bool → List ℕ → Day → List ℕ → Type 0 where
  last : (κs : Lfts 6) (file : Bor (List ℕ)) (board out words : MutBor (List ℕ)) (bytes : Bor (List ℕ)) (line : MutBor (List ℕ))
      (file' : Bor (List ℕ)) (board' out' words' : MutBor (List ℕ)) (bytes' : Bor (List ℕ)) (line' : MutBor (List ℕ)) (light light' : ℕ) (first first' : Bool)
      (rest : List ℕ) (r : Outcome) (granted : ℕ)
      → bytes.now ≡ piece rest
      → turn_reads.Learnt κs (file, (board, (out, (words, (light, (first, (bytes, (line, tt)))))))) r (file', (board', (out', (words', (light', (first', (bytes', (line', tt))))))))
      → r.next ≡ Break granted
      → TurnsPrint file.now first rest (day_at board.now out.now light) (take r.text line'.now)
  next : (κs : Lfts 6) (file : Bor (List ℕ)) (board out words : MutBor (List ℕ)) (bytes : Bor (List ℕ)) (line : MutBor (List ℕ))
      (file' : Bor (List ℕ)) (board' out' words' : MutBor (List ℕ)) (bytes' : Bor (List ℕ)) (line' : MutBor (List ℕ)) (light light' : ℕ) (first first' : Bool)
      (rest text : List ℕ) (r : Outcome) (granted : ℕ)
      → bytes.now ≡ piece rest
      → turn_reads.Learnt κs (file, (board, (out, (words, (light, (first, (bytes, (line, tt)))))))) r (file', (board', (out', (words', (light', (first', (bytes', (line', tt))))))))
      → r.next ≡ Continue granted
      → TurnsPrint file.now false (drop (length (piece rest)) rest) (day_at board'.now out'.now granted) text
      → TurnsPrint file.now first rest (day_at board.now out.now light) (take r.text line'.now ++ text)

-- `RunPrints file script text`: the line of a refused opening, or the turns on the board that was opened, with no light yet
pub data RunPrints : List ℕ → List ℕ → List ℕ → Type 0 where
  refused : (κs : Lfts 3) (file : Bor (List ℕ)) (area line : MutBor (List ℕ)) (file' : Bor (List ℕ)) (area' line' : MutBor (List ℕ)) (script : List ℕ) (n : ℕ)
      → start_reads.Learnt κs (file, (area, (line, tt))) (Err n) (file', (area', (line', tt)))
      → RunPrints file.now script (take n line'.now)
  opened : (κs : Lfts 3) (file : Bor (List ℕ)) (area line : MutBor (List ℕ)) (file' : Bor (List ℕ)) (area' line' : MutBor (List ℕ)) (script text : List ℕ) (n : ℕ)
      → start_reads.Learnt κs (file, (area, (line, tt))) (Ok n) (file', (area', (line', tt)))
      → TurnsPrint file.now true script (day_at (take n area'.now) [] 0) text
      → RunPrints file.now script text

-- ---- a turn's text and the day after it are those of the definitions

module _ {file : List ℕ} {first : Bool} {d : Day} {after : Option Day} {r : Outcome} {line bytes : List ℕ} (rest : List ℕ) (read : bytes ≡ piece rest) (t : Turned file first (fields bytes) d r line after) where
  turn_text : take r.text line ≡ texts (line_next file first (fields (piece rest)) d)
  turn_text = t.text ∙ ap (λ (s : List ℕ). texts (line_next file first (fields s) d)) read

  turn_day : (o : Option Day) → after ≡ o → day_next file (fields (piece rest)) d ≡ o
  turn_day o e = sym (t.day ∙ ap (λ (s : List ℕ). day_next file (fields s) d) read) ∙ e

  then_turns : (o : Option Day) (text : List ℕ) → after ≡ o → Turns file false (drop (length (piece rest)) rest) o text
      → Turns file first rest (some d) (take r.text line ++ text)
  then_turns o text e more =
      subst (λ (printed : List ℕ). Turns file first rest (some d) (printed ++ text)) (sym turn_text)
      (turned (subst (λ (day : Option Day). Turns file false (drop (length (piece rest)) rest) day text) (sym (turn_day o e)) more))

turns_print : {file : List ℕ} {first : Bool} {rest text : List ℕ} {d : Day} → TurnsPrint file first rest d text → Turns file first rest (some d) text
turns_print (TurnsPrint.last κs file board out words bytes line file' board' out' words' bytes' line' light light' first first' rest r granted read p e) =
    subst (Turns file.now first rest (some (day_at board.now out.now light))) (append-nil (take r.text line'.now)) (then_turns rest read p none [] (ap (day_if board'.now out'.now) e) ended)
turns_print (TurnsPrint.next κs file board out words bytes line file' board' out' words' bytes' line' light light' first first' rest text r granted read p e more) =
    then_turns rest read p (some (day_at board'.now out'.now granted)) text (ap (day_if board'.now out'.now) e) (turns_print more)

-- ---- the opening

refused_turns : (file script : List ℕ) (n : ℕ) (text : List ℕ) → Refuses file n text → (k : ℕ) → (start file).number ≡ k → DayTurns file script (take n text)
refused_turns file script n text p zero e = absurd (p.number e)
refused_turns file script n text p (suc k) e = subst (DayTurns file script) (ap (λ (m : ℕ). text_of (line m 0 0)) (sym e) ∙ sym p.front) (DayTurns.not_opened e)

day_turns : {file script text : List ℕ} → RunPrints file script text → DayTurns file script text
day_turns (RunPrints.refused κs file area line file' area' line' script n p) =
    refused_turns file.now script n line'.now p.1 (start file.now).number refl
day_turns (RunPrints.opened κs file area line file' area' line' script text n p more) =
    let o : Opens file.now n area'.now = p.0 in
    DayTurns.opened o.number (subst (λ (board : List ℕ). Turns file.now true script (some (day_at board [] 0)) text) o.front (turns_print more))

-- a run prints the text that is meant, and no other
pub run_prints : (file script text : List ℕ) → RunPrints file script text → text ≡ day_text file script
run_prints file script text p = all_laws.day.only_turns file script text (day_turns p)

-- which is what DayPrints says in words
pub run_says : (file script text : List ℕ) → Bytes script → RunPrints file script text → DayPrints file script text
run_says file script text b p = subst (DayPrints file script) (sym (run_prints file script text p)) (all_laws.day.prints file script b)
