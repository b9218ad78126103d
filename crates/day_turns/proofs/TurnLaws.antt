-- Laws of a turn: a call with its line, and the three answers for the script's next entry.
-- Assumes nothing.
use Prim.Native.Nat.{ℕ, ◌≤◌}
use native.Mathlib.Omega.{arith}
use mathlib.Core.Path.{◌≡◌, refl, sym, ap, ◌∙◌}
use mathlib.Core.Bool.{Bool}
use mathlib.Core.Option.{Option, none, some}
use mathlib.Core.List.{List, [], ◌∷◌, append-nil}
use lib.ListN.{take}
use Rattle.day_lines.specs.Counts.{IsPrefixLen}
use Rattle.meaning.specs.Limits.{day_area}
use Rattle.meaning.specs.Fields.{Fields, end, cut, next}
use Rattle.meaning.specs.Board.{edition}
use Rattle.meaning.specs.Calls as C
use Rattle.meaning.specs.Day.{bad_line, call_of, Day, day_done, line_of, line_then, text_of, texts, end_lines, day_by}
use Rattle.day_orders.specs.declared.Order.{Order}
use Rattle.day_orders.specs.declared.Entry.TheVariants.{Call, Bad, End}
use Rattle.day_orders.specs.Orders.{entry_of, call_by, entry_call}
use Rattle.day_orders.proofs.Laws.{entry_call_lem, not_end}
use Rattle.day_results.specs.declared.CallResult.{CallResult}
use Rattle.day_results.specs.declared.Outcome.{Outcome}
use Rattle.day_results.specs.Results.{last_turn}
use Rattle.std.proofs.Common.{Continue}
use Rattle.day_calls.specs.Performed.{Performed}
use Rattle.day_turns.specs.Turns.{LineWritten, day_if, Turned}

-- a call that was performed, with the line that is written after it
pub line_written : (file : List ℕ) (d after : Day) (c : C.Call) (r : CallResult) (e text : ℕ) (line : List ℕ)
    → Performed file d c r after → r.light ≤ day_area → e ≡ edition after.board
    → IsPrefixLen text line → take text line ≡ text_of (record { number = r.number; edition = e; arrival = r.arrival })
    → LineWritten file d c (record { text = text; next = Continue r.light }) line (some after)
line_written file d after c r e text line p few same n w = record {
  going = refl;
  few = few;
  counted = n;
  text = w ∙ ap text_of (λ i. record { number = p.number i; edition = (same ∙ ap (λ (k : Day). edition k.board) p.day) i; arrival = p.arrival i });
  day = ap some p.day;
}

module _ (file : List ℕ) (first : Bool) (d : Day) (line : List ℕ) where
  -- a field that is a call
  by_call : (o : Option C.Call) (c : C.Call) (r : Outcome) (after : Option Day) → o ≡ some c → LineWritten file d c r line after
      → (take r.text line ≡ texts (line_then file d o (λ (d' : Day). []))) × (after ≡ day_by file d o)
  by_call o c r after e b = rw e (b.text ∙ sym (append-nil (text_of (line_of (day_done file d c)))), b.day)

  pub turned_call : (fs : Fields) (o : Order) (r : Outcome) (after : Option Day) → Call o ≡ entry_of fs → LineWritten file d (call_by d.light o) r line after → Turned file first fs d r line after
  turned_call end o r after e b = absurd (let y : ◌≡◌ {A = ℕ} 0 1 = cc in omega arith)
  turned_call cut o r after e b = absurd (let y : ◌≡◌ {A = ℕ} 0 1 = cc in omega arith)
  turned_call (next f fs) o r after e b =
      let (text, day) = by_call (call_of d.light f) (call_by d.light o) r after (sym (entry_call_lem d.light f) ∙ sym (ap (entry_call d.light) e)) b in
      record { few = b.few; counted = b.counted; text = text; day = day }

  -- one that is none, or is cut
  bad_text : (text : ℕ) → take text line ≡ text_of bad_line → take text line ≡ texts (bad_line ∷ [])
  bad_text text w = w ∙ sym (append-nil (text_of bad_line))

  by_none : (o : Option C.Call) (text : ℕ) → o ≡ none → take text line ≡ text_of bad_line
      → (take text line ≡ texts (line_then file d o (λ (d' : Day). []))) × (none ≡ day_by file d o)
  by_none o text e w = rw e (bad_text text w, refl)

  bad_turn : (fs : Fields) (light text : ℕ) → light ≤ day_area → Bad ≡ entry_of fs → IsPrefixLen text line → take text line ≡ text_of bad_line
      → Turned file first fs d (last_turn light text) line none
  bad_turn end light text few e n w = absurd (let y : ◌≡◌ {A = ℕ} 0 1 = cc in omega arith)
  bad_turn cut light text few e n w = record { few = few; counted = n; text = bad_text text w; day = refl }
  bad_turn (next f fs) light text few e n w =
      let (said, day) = by_none (call_of d.light f) text (sym (entry_call_lem d.light f) ∙ sym (ap (entry_call d.light) e)) w in
      record { few = few; counted = n; text = said; day = day }

  -- nothing more
  end_turn : (fs : Fields) (light text : ℕ) → light ≤ day_area → End ≡ entry_of fs → IsPrefixLen text line → take text line ≡ texts (end_lines first)
      → Turned file first fs d (last_turn light text) line none
  end_turn end light text few e n w = record { few = few; counted = n; text = w; day = refl }
  end_turn cut light text few e n w = absurd (let y : ◌≡◌ {A = ℕ} 0 1 = cc in omega arith)
  end_turn (next f fs) light text few e n w = absurd (not_end f e)

  -- the same of the outcome that the code returns
  module _ (fs : Fields) (board out : List ℕ) (light : ℕ) (few : light ≤ day_area) (r : Outcome) where
    pub turned_bad : (text : ℕ) → r ≡ last_turn light text → Bad ≡ entry_of fs → IsPrefixLen text line → take text line ≡ text_of bad_line
        → Turned file first fs d r line (day_if board out r.next)
    turned_bad text t e n w = rw t (bad_turn fs light text few e n w)

    pub turned_end : (text : ℕ) → r ≡ last_turn light text → End ≡ entry_of fs → IsPrefixLen text line → take text line ≡ texts (end_lines first)
        → Turned file first fs d r line (day_if board out r.next)
    turned_end text t e n w = rw t (end_turn fs light text few e n w)
