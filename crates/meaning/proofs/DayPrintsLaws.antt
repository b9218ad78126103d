-- The day program prints what DayPrints says: digits, lines, field by field the whole script, and a line for an empty one.
-- Assumes nothing.
use Prim.Native.Nat.{ℕ, zero, suc, ◌+◌, ◌*◌, ◌/◌, ◌%◌, ◌≤◌, ◌<◌}
use native.Mathlib.Omega.{arith}
use mathlib.Core.Path.{◌≡◌, refl, sym, ap, ap₂, ◌∙◌, subst}
use mathlib.Core.Option.{Option, none, some}
use mathlib.Core.List.{List, [], ◌∷◌, ◌++◌, append-nil}
use lib.Dec.{leb, ltb}
use lib.ListN.{length, take, drop, replicate, length-append, take-append-drop}
use lib.Seq.{length-take-le}
use borrow.Author.Tests.{leb-true, leb-false, ltb-true, ltb-false, lt-ltb, le-ltb}
use Rattle.meaning.specs.Limits.{day_area, day_words}
use Rattle.meaning.specs.Basics.{Bytes, put16}
use Rattle.meaning.specs.Fields.{Field, Fields, end, cut, next, fields, field_bytes}
use Rattle.meaning.specs.Site.{site_of}
use Rattle.meaning.specs.Board.{edition}
use Rattle.meaning.specs.Plan.{Node}
use Rattle.meaning.specs.Calls.{Call, route, audit, post, close, withdraw, listed, Lent, lends, Done, accepted_done}
use Rattle.meaning.specs.Day.{Line, line, bad_line, quiet_line, Day, call_of, day_done, arrival_of, last_light, line_of, day_after, line_then, lines_from, day_opened, opened, decimal_by, decimal, text_of, texts, day_text}
use Rattle.meaning.specs.DayPrints as words
use Rattle.meaning.specs.DayPrints.{Digits, LineText, ScriptField, Begins, IsRoute, Prints, start, DayPrints}
use Rattle.meaning.specs.Laws.{DayRight}
use Rattle.meaning.proofs.BasicsLaws.{decide, options, each_append, u16_bytes}
use Rattle.meaning.proofs.CallLaws.{meant_accepted}
use Rattle.meaning.proofs.FieldsLaws.{fields_end, fields_short, fields_cut, fields_some, fields_field, bytes_take, bytes_drop}
use Rattle.meaning.proofs.DayLaws as day

-- ---- lines

digits_by : (k n : ℕ) → n < k → Digits n (decimal_by k n)
digits_by zero n h = absurd (omega arith)
digits_by (suc k) n h =
    decide (ltb n 10)
    (λ e. let small = ltb-true n 10 e in let same : n % 10 ≡ n = omega arith in rw (e, same) (Digits.one small))
    (λ e. let large = ltb-false n 10 e in
    let whole : n / 10 * 10 + n % 10 ≡ n = omega arith in
    subst (λ (m : ℕ). Digits m (decimal_by (suc k) n)) whole (rw e (Digits.more {n = n / 10} {d = n % 10} (omega arith) (omega arith) (digits_by k (n / 10) (omega arith)))))

digits : (n : ℕ) → Digits n (decimal n)
unfolding decimal
digits n = digits_by (suc n) n (omega arith)

line_text : (x : Line) → LineText x.number x.edition x.arrival (text_of x)
line_text x = LineText.spaced (digits x.number) (digits x.edition) (digits x.arrival)

-- the last line
last_text : (x : Line) → LineText x.number x.edition x.arrival (texts (x ∷ []))
last_text x = subst (LineText x.number x.edition x.arrival) (sym (append-nil (text_of x))) (line_text x)

-- a line has a byte
some_text : (x : Line) (more : List ℕ) → 1 ≤ length (text_of x ++ more)
some_text x more =
    let all = length-append (text_of x) more in
    let number = length-append (decimal x.number) (32 ∷ decimal x.edition ++ (32 ∷ decimal x.arrival ++ (10 ∷ []))) in
    omega arith

-- no other text is that line's

decimal_fuel : (k m n : ℕ) → n < k → n < m → decimal_by k n ≡ decimal_by m n
decimal_fuel zero m n h g = absurd (omega arith)
decimal_fuel (suc k) zero n h g = absurd (omega arith)
decimal_fuel (suc k) (suc m) n h g =
    decide (ltb n 10)
    (λ e. rw e refl)
    (λ e. let large = ltb-false n 10 e in rw (e, decimal_fuel k m (n / 10) (omega arith) (omega arith)) refl)

decimal_one : (n : ℕ) → n < 10 → decimal n ≡ (48 + n) ∷ []
unfolding decimal
decimal_one n h = let same : n % 10 ≡ n = omega arith in rw (lt-ltb n 10 h, same) refl

decimal_more : (n d : ℕ) → 1 ≤ n → d < 10 → decimal (n * 10 + d) ≡ decimal n ++ ((48 + d) ∷ [])
unfolding decimal
decimal_more n d pos h =
    let tens : (n * 10 + d) / 10 ≡ n = omega arith in
    let ones : (n * 10 + d) % 10 ≡ d = omega arith in
    rw (le-ltb (n * 10 + d) 10 (omega arith), tens, ones, decimal_fuel (n * 10 + d) (suc n) n (omega arith) (omega arith)) refl

one_decimal : {n : ℕ} {text : List ℕ} → Digits n text → text ≡ decimal n
one_decimal (Digits.one {n = n} h) = sym (decimal_one n h)
one_decimal (Digits.more {n = n} {d = d} pos h front) = ap (λ (s : List ℕ). s ++ ((48 + d) ∷ [])) (one_decimal front) ∙ sym (decimal_more n d pos h)

one_line : {n e t : ℕ} {text : List ℕ} → LineText n e t text → text ≡ text_of (record { number = n; edition = e; arrival = t })
one_line (LineText.spaced a b c) = rw (one_decimal a, one_decimal b, one_decimal c) refl

-- ---- the field in front

data FieldCase (s : List ℕ) : Type 0 where
  nothing : s ≡ [] → FieldCase s
  cut_off : 1 ≤ length s → fields s ≡ cut → FieldCase s
  whole : (f : Field) (rest : List ℕ) → Bytes f.value → Bytes rest → Begins s f rest → FieldCase s

field_case : (s : List ℕ) → Bytes s → FieldCase s
field_case [] b = FieldCase.nothing refl
field_case (t ∷ []) b = FieldCase.cut_off (omega arith) (fields_short (t ∷ []) (omega arith) (omega arith))
field_case (t ∷ h ∷ []) b = FieldCase.cut_off (omega arith) (fields_short (t ∷ h ∷ []) (omega arith) (omega arith))
field_case (t ∷ h ∷ l ∷ s) (bt, (bh, (bl, bs))) =
    let n = h * 256 + l in
    decide (leb n (length s))
    (λ q.
    let size : length (take n s) ≡ n = length-take-le n s (leb-true n (length s) q) in
    let (high, low) = u16_bytes h l bh bl in
    let f : Field = record { tag = t; value = take n s } in
    let back : field_bytes f ++ drop n s ≡ t ∷ h ∷ l ∷ s = rw (size, high, low, take-append-drop n s) refl in
    FieldCase.whole f (drop n s) (bytes_take n s bs) (bytes_drop n s bs) (record { short = omega arith; bytes = sym back }))
    (λ q. let short = leb-false n (length s) q in FieldCase.cut_off (omega arith) (fields_cut (t ∷ h ∷ l ∷ s) (omega arith) (omega arith)))

-- the bytes of a field's value, and those after it
begun_bytes : (s : List ℕ) (f : Field) (rest : List ℕ) → Bytes s → Begins s f rest → Bytes f.value × Bytes rest
begun_bytes s f rest b begins =
    let all : Bytes (field_bytes f ++ rest) = subst Bytes begins.bytes b in
    let (field, later) = each_append (λ (n : ℕ). n < 256) (field_bytes f) rest all in
    ((each_append (λ (n : ℕ). n < 256) (f.tag ∷ put16 (length f.value)) f.value field).1, later)

-- where no whole field stands in front, the first is cut
cut_fields : (s : List ℕ) → Bytes s → 1 ≤ length s → ((f : Field) (rest : List ℕ) → Begins s f rest → ⊥) → fields s ≡ cut
cut_fields s b long never = by_case (field_case s b)
  where
    by_case : FieldCase s → fields s ≡ cut
    by_case (FieldCase.nothing e) = absurd (let none = ap length e in omega arith)
    by_case (FieldCase.cut_off more e) = e
    by_case (FieldCase.whole f rest bf br begins) = absurd (never f rest begins)

begun : (s : List ℕ) (f : Field) (rest : List ℕ) → Begins s f rest → fields s ≡ next f (fields rest)
begun s f rest b = ap fields b.bytes ∙ fields_field f rest b.short

not_begun : (s : List ℕ) (f : Field) (rest : List ℕ) → fields s ≡ cut → Begins s f rest → ⊥
not_begun s f rest e b =
    let no : next f (fields rest) ≡ cut = sym (begun s f rest b) ∙ e in
    let y : ◌≡◌ {A = ℕ} 0 1 = cc in omega arith

-- ---- a call

module _ (file : List ℕ) (d : Day) (c : Call) where
  abbrev done : Done
  done = day_done file d c

  -- a granted route shows its light's length and its arrival, any other call nothing
  data Outcome : Type 0 where
    granted : (n arrival : ℕ) → IsRoute c → done.number ≡ 0 → done.values ≡ n ∷ arrival ∷ [] → Outcome
    other : (IsRoute c → done.number ≡ 0 → ⊥) → done.values ≡ [] → Outcome

  not_granted : (IsRoute c → done.number ≡ 0 → ⊥) → Outcome
  not_granted never = Outcome.other never (day.nothing_shown file d c done.number refl (λ tug a goal dwell same z. never (tug, a, goal, dwell, same) z))

  not_route : (IsRoute c → ⊥) → Outcome
  not_route never = not_granted (λ is z. never is)

  route_outcome : (tug : ℕ) (a : Node) (goal dwell : ℕ) → c ≡ route tug a goal dwell → (n : ℕ) → done.number ≡ n → Outcome
  unfolding day_done accepted_done
  route_outcome tug a goal dwell same zero z =
      let l : Lent = lends d.board (replicate day_area 0) (replicate day_words 0) in
      let is : done ≡ accepted_done (site_of file) l (listed c) = meant_accepted file l (listed c) z in
      Outcome.granted _ _ (tug, a, goal, dwell, same) z (ap (λ (x : Done). x.values) is ∙ ap (λ (k : Call). (accepted_done (site_of file) l (listed k)).values) same)
  route_outcome tug a goal dwell same (suc n) e = not_granted (λ is z. (let no : suc n ≡ 0 = sym e ∙ z in omega arith))

  outcome : Outcome
  outcome = by_call c refl
    where
      by_call : (k : Call) → c ≡ k → Outcome
      by_call (route tug a goal dwell) same = route_outcome tug a goal dwell same done.number refl
      by_call (audit light) same = not_route (λ (tug, a, goal, dwell, is). (let y : ◌≡◌ {A = ℕ} 0 1 = cc in omega arith))
      by_call (post light) same = not_route (λ (tug, a, goal, dwell, is). (let y : ◌≡◌ {A = ℕ} 0 1 = cc in omega arith))
      by_call (close h cell first last) same = not_route (λ (tug, a, goal, dwell, is). (let y : ◌≡◌ {A = ℕ} 0 1 = cc in omega arith))
      by_call (withdraw h) same = not_route (λ (tug, a, goal, dwell, is). (let y : ◌≡◌ {A = ℕ} 0 1 = cc in omega arith))

  -- the line of the call, and what is printed after it
  call_prints : (s : List ℕ) (f : Field) (rest text : List ℕ) → Begins s f rest → ScriptField d.light c f
      → Prints file (day_after d done).board (day_after d done).light rest text → Prints file d.board d.light s (text_of (line_of done) ++ text)
  unfolding day_done
  call_prints s f rest text begins is later = by_outcome outcome
    where
      line : LineText done.number (edition done.lent.board) (arrival_of done.values) (text_of (line_of done))
      line = line_text (line_of done)

      by_outcome : Outcome → Prints file d.board d.light s (text_of (line_of done) ++ text)
      by_outcome (Outcome.granted n arrival routes z shown) =
          Prints.granted begins is routes z shown
          (subst (λ (k : ℕ). LineText k (edition done.lent.board) arrival (text_of (line_of done))) z
          (subst (λ (vs : List ℕ). LineText done.number (edition done.lent.board) (arrival_of vs) (text_of (line_of done))) shown line))
          (subst (λ (vs : List ℕ). Prints file done.lent.board (last_light d.light done.lent.out vs) rest text) shown later)
      by_outcome (Outcome.other never shown) =
          Prints.other begins is never
          (subst (λ (vs : List ℕ). LineText done.number (edition done.lent.board) (arrival_of vs) (text_of (line_of done))) shown line)
          (subst (λ (vs : List ℕ). Prints file done.lent.board (last_light d.light done.lent.out vs) rest text) shown later)

-- ---- the script

module _ (file : List ℕ) where
  abbrev Rightly : Day → List ℕ → Type 0
  Rightly d s = Prints file d.board d.light s (texts (lines_from file (fields s) d))

  -- one field, and the rest
  print_one : (s : List ℕ) → Bytes s → (d : Day) → ((rest : List ℕ) → Bytes rest → length rest < length s → (e : Day) → Rightly e rest) → Rightly d s
  unfolding lines_from
  print_one s b d more = by_case (field_case s b)
    where
      by_call : (f : Field) (rest : List ℕ) → Bytes f.value → Bytes rest → Begins s f rest → (o : Option Call) → call_of d.light f ≡ o
          → Prints file d.board d.light s (texts (line_then file d o (lines_from file (fields rest))))
      by_call f rest bf br begins none e =
          Prints.no_call begins (λ c is. (let no : none ≡ some c = sym e ∙ day.all_calls d.light f c is in let y : ◌≡◌ {A = ℕ} 0 1 = cc in omega arith))
          (last_text bad_line)
      by_call f rest bf br begins (some c) e =
          let long : length s ≡ _ = ap length begins.bytes ∙ length-append (field_bytes f) rest in
          call_prints file d c s f rest _ begins (day.calls d.light f c bf e) (more rest br (omega arith) (day_after d (day_done file d c)))

      by_case : FieldCase s → Rightly d s
      by_case (FieldCase.nothing e) = rw (e, fields_end [] refl) Prints.ends
      by_case (FieldCase.cut_off long e) = rw e (Prints.cut long (λ f rest. not_begun s f rest e) (last_text bad_line))
      by_case (FieldCase.whole f rest bf br begins) = rw (begun s f rest begins) (by_call f rest bf br begins (call_of d.light f) refl)

  -- and no other text is printed
  only_prints : {board light s text : List ℕ} → Prints file board light s text → Bytes s
      → text ≡ texts (lines_from file (fields s) (record { board = board; light = light }))
  unfolding lines_from day_done
  only_prints Prints.ends b = rw (fields_end [] refl) refl
  only_prints (Prints.cut {script = s} long never line) b = rw (cut_fields s b long never) (one_line line ∙ sym (append-nil (text_of bad_line)))
  only_prints (Prints.no_call {light = light} {script = s} {rest = rest} {f = f} begins never line) b =
      let none_made : call_of light f ≡ none =
      options (call_of light f) (λ e. e) (λ c e. absurd (never c (day.calls light f c (begun_bytes s f rest b begins).0 e))) in
      rw (begun s f rest begins, none_made) (one_line line ∙ sym (append-nil (text_of bad_line)))
  only_prints (Prints.granted {board = board} {light = light} {script = s} {rest = rest} {text = text} {f = f} {c = c} {n = n} {arrival = arrival} begins is routes z shown line later) b =
      let x : Done = words.called file board c in
      let same_line : record { number = 0; edition = edition x.lent.board; arrival = arrival } ≡ line_of x =
      (λ i. record { number = sym z i; edition = edition x.lent.board; arrival = arrival_of (sym shown i) }) in
      let same_day : record { board = x.lent.board; light = take n x.lent.out } ≡ day_after (record { board = board; light = light }) x =
      (λ i. record { board = x.lent.board; light = last_light light x.lent.out (sym shown i) }) in
      rw (begun s f rest begins, day.all_calls light f c is)
      (ap₂ (λ (a b : List ℕ). a ++ b) (one_line line ∙ ap text_of same_line)
      (only_prints later (begun_bytes s f rest b begins).1 ∙ ap (λ (e : Day). texts (lines_from file (fields rest) e)) same_day))
  only_prints (Prints.other {board = board} {light = light} {script = s} {rest = rest} {text = text} {f = f} {c = c} begins is never line later) b =
      let d : Day = record { board = board; light = light } in
      let x : Done = words.called file board c in
      let shown : x.values ≡ [] = day.nothing_shown file d c x.number refl (λ tug a goal dwell same z. never (tug, a, goal, dwell, same) z) in
      let same_line : record { number = x.number; edition = edition x.lent.board; arrival = 0 } ≡ line_of x =
      (λ i. record { number = x.number; edition = edition x.lent.board; arrival = arrival_of (sym shown i) }) in
      let same_day : record { board = x.lent.board; light = light } ≡ day_after d x =
      (λ i. record { board = x.lent.board; light = last_light light x.lent.out (sym shown i) }) in
      rw (begun s f rest begins, day.all_calls light f c is)
      (ap₂ (λ (a b : List ℕ). a ++ b) (one_line line ∙ ap text_of same_line)
      (only_prints later (begun_bytes s f rest b begins).1 ∙ ap (λ (e : Day). texts (lines_from file (fields rest) e)) same_day))

  print_all : (k : ℕ) (s : List ℕ) → length s ≤ k → Bytes s → (d : Day) → Rightly d s
  print_all zero s h b d = print_one s b d (λ rest br less e. absurd (omega arith))
  print_all (suc k) s h b d = print_one s b d (λ rest br less e. print_all k rest (omega arith) br e)

  -- ---- the whole program

  open_prints : (script : List ℕ) → Bytes script → (start file).number ≡ 0 → DayPrints file script (texts (opened file script (start file) 0))
  open_prints [] b e = DayPrints.quiet e refl (last_text quiet_line)
  open_prints (x ∷ s) b e = DayPrints.opened e (omega arith) (print_all (length (x ∷ s)) (x ∷ s) (omega arith) b (day_opened (start file)))

  prints : (script : List ℕ) → Bytes script → DayPrints file script (day_text file script)
  prints script b = by_number (start file).number refl
    where
      by_number : (n : ℕ) → (start file).number ≡ n → DayPrints file script (day_text file script)
      by_number zero e = subst (DayPrints file script) (sym (day.day_text_lem file script 0 e)) (open_prints script b e)
      by_number (suc n) e = subst (DayPrints file script) (sym (day.day_text_lem file script (suc n) e)) (DayPrints.refused e (last_text (line (suc n) 0 0)))

  open_only : (script text : List ℕ) → Bytes script → 1 ≤ length script → Prints file (start file).lent.board [] script text
      → text ≡ texts (opened file script (start file) 0)
  open_only [] text b some_byte p = absurd (omega arith)
  open_only (x ∷ s) text b some_byte p = only_prints p b

  only_that : (script text : List ℕ) → Bytes script → DayPrints file script text → text ≡ day_text file script
  only_that script text b (DayPrints.refused {n = n} e only) =
      one_line only ∙ sym (append-nil (text_of (line (suc n) 0 0))) ∙ sym (day.day_text_lem file script (suc n) e)
  only_that script text b (DayPrints.quiet e empty only) =
      one_line only ∙ sym (append-nil (text_of quiet_line)) ∙ sym (day.day_text_lem file [] 0 e) ∙ ap (day_text file) (sym empty)
  only_that script text b (DayPrints.opened e some_byte p) = open_only script text b some_byte p ∙ sym (day.day_text_lem file script 0 e)

  quiet : (start file).number ≡ 0 → day_text file [] ≡ 48 ∷ 32 ∷ 48 ∷ 32 ∷ 48 ∷ 10 ∷ []
  unfolding decimal
  quiet e = day.day_text_lem file [] 0 e

  refused_open : (script : List ℕ) (n : ℕ) → (start file).number ≡ suc n → LineText (suc n) 0 0 (day_text file script)
  refused_open script n e = subst (LineText (suc n) 0 0) (sym (day.day_text_lem file script (suc n) e)) (last_text (line (suc n) 0 0))

  -- ---- something is printed

  some_line : (fs : Fields) (d : Day) → (fs ≡ end → ⊥) → 1 ≤ length (texts (lines_from file fs d))
  unfolding lines_from
  some_line end d some_field = absurd (some_field refl)
  some_line cut d some_field = some_text bad_line []
  some_line (next f fs) d some_field = by_call (call_of d.light f)
    where
      by_call : (o : Option Call) → 1 ≤ length (texts (line_then file d o (lines_from file fs)))
      by_call none = some_text bad_line []
      by_call (some c) = some_text (line_of (day_done file d c)) _

  never_silent : (script : List ℕ) → 1 ≤ length (day_text file script)
  never_silent script = subst (λ (t : List ℕ). 1 ≤ length t) (sym (day.day_text_lem file script (start file).number refl)) (by_number script (start file).number)
    where
      by_number : (s : List ℕ) (n : ℕ) → 1 ≤ length (texts (opened file s (start file) n))
      by_number s (suc n) = some_text (line (suc n) 0 0) []
      by_number [] zero = some_text quiet_line []
      by_number (b ∷ s) zero = some_line (fields (b ∷ s)) (day_opened (start file)) (fields_some b s)

pub day_right : DayRight
day_right = record {
  prints = prints;
  only_prints = only_that;
  quiet = quiet;
  refused_open = refused_open;
  never_silent = never_silent;
  short_pieces = day.short_pieces;
  turns = day.all_turns;
  only_turns = day.only_that;
  too_large = day.too_large;
  calls = day.calls;
  all_calls = day.all_calls;
}
