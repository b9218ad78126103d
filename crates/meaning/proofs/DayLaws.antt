-- Laws of the day program: turn by turn, and the call of a field.
-- Assumes nothing.
use Prim.Native.Nat.{ℕ, zero, suc, ◌+◌, ◌*◌, ◌≤◌, ◌<◌}
use native.Mathlib.Omega.{arith}
use mathlib.Core.Path.{◌≡◌, refl, sym, ap, ap₂, ◌∙◌, subst}
use mathlib.Core.Bool.{Bool, true, false, and-false}
use mathlib.Core.Option.{Option, none, some}
use mathlib.Core.List.{List, [], ◌∷◌, ◌++◌, append_assoc, append-nil}
use lib.Dec.{leb, eqb}
use lib.ListN.{length, get_or, take, drop, replicate, length-take, length-drop, length-replicate}
use lib.Seq.{take_all, length-take-le, take-nil, drop-drop}
use borrow.Author.Tests.{le-leb, lt-leb, leb-true, leb-false, eqb-true, ne_eqb}
use Rattle.meaning.specs.Limits.{route_size, day_area, day_words}
use Rattle.meaning.specs.Basics.{Bytes, u16_at}
use Rattle.meaning.specs.Answers.{accepted}
use Rattle.meaning.specs.Fields.{Field, Fields, end, cut, next, fields}
use Rattle.meaning.specs.Site.{Site, site_of, read_site}
use Rattle.meaning.specs.Board.{board_length}
use Rattle.meaning.specs.Plan.{Node}
use Rattle.meaning.specs.Calls.{Call, route, audit, post, close, withdraw, opening, listed, Lent, lends, on_board, Done, accepted_done, refused_done}
use Rattle.meaning.specs.Day.{Line, line, Day, is_field, call_of, day_done, line_then, lines_from, day_board, day_opened, opened, day_lines, text_of, texts, day_text, wanted, piece, line_next, day_by, day_next, lines_on}
use Rattle.meaning.specs.DayPrints.{ScriptField, start}
use Rattle.meaning.specs.Laws.{Turns, ended, turned, DayTurns}
use Rattle.meaning.proofs.BasicsLaws.{decide, options, and_left, and_right, u16_back}
use Rattle.meaning.proofs.CallLaws.{meant_number, meant_by, meant_accepted}
use Rattle.meaning.proofs.CheckLaws.{size_refused}
use Rattle.meaning.proofs.SiteLaws.{read_site_lem}
use Rattle.meaning.proofs.FieldsLaws.{fields_end, fields_short, fields_cut, fields_next, fields_some, field_is, list_of, u16_below, put16_at}

-- no call has a value longer than a route's
other_size : (f : Field) (tag size : ℕ) → (length f.value ≡ size → ⊥) → is_field f tag size ≡ false
other_size f tag size h = rw (ne_eqb (length f.value) size h, and-false (eqb f.tag tag)) refl

long_value : (light : List ℕ) (f : Field) → route_size < length f.value → call_of light f ≡ none
unfolding call_of
long_value light f h =
    rw (
      other_size f 32 7 (λ e. omega arith),
      other_size f 33 1 (λ e. omega arith),
      other_size f 34 9 (λ e. omega arith),
      other_size f 35 0 (λ e. omega arith),
    )

-- the first field's turn, and the rest
next_turn : (file : List ℕ) (d : Day) (f : Field) (rest : Fields) (s : List ℕ) → rest ≡ fields s
    → lines_from file (next f rest) d ≡ line_next file false (next f end) d ++ lines_on file s (day_next file (next f end) d)
unfolding lines_from
next_turn file d f rest s e = by_call (call_of d.light f)
  where
    by_call : (c : Option Call) → line_then file d c (lines_from file rest) ≡ line_then file d c (λ (d' : Day). []) ++ lines_on file s (day_by file d c)
    by_call none = refl
    by_call (some c) = rw e refl

-- a native sum does not compute, so that a header and n bytes are taken by a law
header_take : (n t h l : ℕ) (s : List ℕ) → take (3 + n) (t ∷ h ∷ l ∷ s) ≡ t ∷ h ∷ l ∷ take n s
header_take n t h l s =
    let three : 3 + n ≡ suc (suc (suc n)) = omega arith in
    ap (λ (k : ℕ). take k (t ∷ h ∷ l ∷ s)) three

header_drop : (n t h l : ℕ) (s : List ℕ) → drop (3 + n) (t ∷ h ∷ l ∷ s) ≡ drop n s
header_drop n t h l s = sym (drop-drop n 3 (t ∷ h ∷ l ∷ s))

module _ (file : List ℕ) (d : Day) where
  abbrev Turn : List ℕ → Type 0
  Turn s =
      lines_from file (fields s) d
      ≡ line_next file false (fields (piece s)) d ++ lines_on file (drop (length (piece s)) s) (day_next file (fields (piece s)) d)

  -- bytes that end in the middle of what is read
  cut_turn : (s : List ℕ) → length s ≤ 3 + wanted s → fields s ≡ cut → Turn s
  unfolding lines_from
  cut_turn s h e = rw (take_all (3 + wanted s) s h, e) refl

  reads : (t h l : ℕ) (s : List ℕ) → h * 256 + l ≤ route_size → wanted (t ∷ h ∷ l ∷ s) ≡ h * 256 + l
  unfolding wanted
  reads t h l s short = rw (le-leb (h * 256 + l) route_size short) refl

  -- a field that is read whole
  whole_turn : (t h l : ℕ) (s : List ℕ) → wanted (t ∷ h ∷ l ∷ s) ≡ h * 256 + l → h * 256 + l ≤ length s → Turn (t ∷ h ∷ l ∷ s)
  whole_turn t h l s all room =
      let n = h * 256 + l in
      let size : length (take n s) ≡ n = length-take-le n s room in
      let f : Field = record { tag = t; value = take n s } in
      let gone : fields (drop n (take n s)) ≡ end = fields_end (drop n (take n s)) (length-drop n (take n s) ∙ omega arith) in
      let first : fields (t ∷ h ∷ l ∷ take n s) ≡ next f end =
      fields_next (t ∷ h ∷ l ∷ take n s) (omega arith) ∙ rw (header_drop n t h l (take n s), take_all n (take n s) (omega arith), gone) refl in
      let all_fields : fields (t ∷ h ∷ l ∷ s) ≡ next f (fields (drop n s)) = fields_next (t ∷ h ∷ l ∷ s) (omega arith) ∙ rw (header_drop n t h l s) refl in
      let rest : drop (length (t ∷ h ∷ l ∷ take n s)) (t ∷ h ∷ l ∷ s) ≡ drop n s = rw size refl in
      rw (all, header_take n t h l s, first, all_fields, rest)
      (next_turn file d f (fields (drop n s)) (drop n s) refl)

  -- a value that is too long for a call: its header is read, and is cut
  long_turn : (t h l : ℕ) (s : List ℕ) → route_size < h * 256 + l → Turn (t ∷ h ∷ l ∷ s)
  unfolding wanted lines_from
  long_turn t h l s long =
      rw (lt-leb (h * 256 + l) route_size long, fields_cut (t ∷ h ∷ l ∷ []) (omega arith) (omega arith))
      (decide (leb (h * 256 + l) (length s))
      (λ q. let size : length (take (h * 256 + l) s) ≡ h * 256 + l = length-take-le (h * 256 + l) s (leb-true (h * 256 + l) (length s) q) in
      let room = leb-true (h * 256 + l) (length s) q in
      rw (fields_next (t ∷ h ∷ l ∷ s) (omega arith), long_value d.light (record { tag = t; value = take (h * 256 + l) s }) (omega arith)) refl)
      (λ q. let short = leb-false (h * 256 + l) (length s) q in rw (fields_cut (t ∷ h ∷ l ∷ s) (omega arith) (omega arith)) refl))

  turn_by_turn : (s : List ℕ) → Turn s
  unfolding lines_from
  turn_by_turn [] = rw (take-nil (3 + wanted []), fields_end [] refl) refl
  turn_by_turn (t ∷ []) = cut_turn (t ∷ []) (omega arith) (fields_short (t ∷ []) (omega arith) (omega arith))
  turn_by_turn (t ∷ h ∷ []) = cut_turn (t ∷ h ∷ []) (omega arith) (fields_short (t ∷ h ∷ []) (omega arith) (omega arith))
  turn_by_turn (t ∷ h ∷ l ∷ s) =
      decide (leb (h * 256 + l) route_size)
      (λ q. let all = reads t h l s (leb-true (h * 256 + l) route_size q) in
      decide (leb (h * 256 + l) (length s))
      (λ r. whole_turn t h l s all (leb-true _ _ r))
      (λ r. let short = leb-false (h * 256 + l) (length s) r in cut_turn (t ∷ h ∷ l ∷ s) (omega arith) (fields_cut (t ∷ h ∷ l ∷ s) (omega arith) (omega arith))))
      (λ q. long_turn t h l s (leb-false _ _ q))

-- ---- the field of a call

is_field_lem : (f : Field) (tag size : ℕ) → is_field f tag size ≡ true → (f.tag ≡ tag) × (length f.value ≡ size)
is_field_lem f tag size h = (
  eqb-true f.tag tag (and_left (eqb f.tag tag) (eqb (length f.value) size) h),
  eqb-true (length f.value) size (and_right (eqb f.tag tag) (eqb (length f.value) size) h),
)

the_call : {c k : Call} → some k ≡ some c → k ≡ c
the_call e = cc

pub calls : (light : List ℕ) (f : Field) (c : Call) → Bytes f.value → call_of light f ≡ some c → ScriptField light c f
unfolding call_of
calls light f c bytes e =
    decide (is_field f 32 7)
    (λ h. by (close (get_or v 0 0) (u16_at v 1) (u16_at v 3) (u16_at v 5)) (simp h at e)
    (let (t, n) = is_field_lem f 32 7 h in (
      u16_below v bytes 1,
      u16_below v bytes 3,
      u16_below v bytes 5,
      sym (field_is f 32 _ t (list_of v 7 n ∙ sym (ap₂ (λ (x y : List ℕ). get_or v 0 0 ∷ (x ++ y)) (put16_at v bytes 1)
          (ap₂ (λ (x y : List ℕ). x ++ y) (put16_at v bytes 3) (put16_at v bytes 5))))),
    )))
    (λ h. decide (is_field f 33 1)
    (λ k. by (withdraw (get_or v 0 0)) (simp (h, k) at e) (let (t, n) = is_field_lem f 33 1 k in sym (field_is f 33 _ t (list_of v 1 n))))
    (λ k. decide (is_field f 34 9)
    (λ m. by (route (get_or v 0 0) (record { state = u16_at v 1; tick = u16_at v 3 }) (u16_at v 5) (u16_at v 7)) (simp (h, k, m) at e)
    (let (t, n) = is_field_lem f 34 9 m in (
      u16_below v bytes 1,
      u16_below v bytes 3,
      u16_below v bytes 5,
      u16_below v bytes 7,
      sym (field_is f 34 _ t (list_of v 9 n ∙ sym (ap₂ (λ (x y : List ℕ). get_or v 0 0 ∷ (x ++ y)) (put16_at v bytes 1)
          (ap₂ (λ (x y : List ℕ). x ++ y) (put16_at v bytes 3) (ap₂ (λ (x y : List ℕ). x ++ y) (put16_at v bytes 5) (put16_at v bytes 7)))))),
    )))
    (λ m. decide (is_field f 35 0)
    (λ p. by (post light) (simp (h, k, m, p) at e) (let (t, n) = is_field_lem f 35 0 p in (refl, sym (field_is f 35 _ t (list_of v 0 n)))))
    (λ p. absurd (let z : none ≡ some c = simp (h, k, m, p) at e in let y : ◌≡◌ {A = ℕ} 0 1 = cc in omega arith)))))
  where
    v : List ℕ
    v = f.value

    by : (k : Call) → some k ≡ some c → ScriptField light k f → ScriptField light c f
    by k same = subst (λ (x : Call). ScriptField light x f) (the_call same)

pub all_calls : (light : List ℕ) (f : Field) (c : Call) → ScriptField light c f → call_of light f ≡ some c
unfolding call_of
all_calls light f (audit _) e = elim e [ ]
all_calls light f (close h cell first last) (c, lo, hi, e) = rw (e, u16_back cell c, u16_back first lo, u16_back last hi) refl
all_calls light f (withdraw h) e = rw e refl
all_calls light f (route tug a goal dwell) (s, t, g, w, e) = rw (e, u16_back a.state s, u16_back a.tick t, u16_back goal g, u16_back dwell w) refl
all_calls light f (post granted) (same, e) = rw (e, same) refl

-- ---- a call that grants nothing

pub nothing_shown : (file : List ℕ) (d : Day) (c : Call) (n : ℕ) → (day_done file d c).number ≡ n
    → ((tug : ℕ) (a : Node) (goal dwell : ℕ) → c ≡ route tug a goal dwell → (day_done file d c).number ≡ 0 → ⊥) → (day_done file d c).values ≡ []
unfolding day_done accepted_done refused_done
nothing_shown file d c n e none_granted = by_number n e
  where
    l : Lent
    l = lends d.board (replicate day_area 0) (replicate day_words 0)

    by_call : (k : Call) → c ≡ k → (day_done file d c).number ≡ 0 → (accepted_done (site_of file) l (listed k)).values ≡ []
    by_call (route tug a goal dwell) same z = absurd (none_granted tug a goal dwell same z)
    by_call (audit light) same z = refl
    by_call (post light) same z = refl
    by_call (close h cell first last) same z = refl
    by_call (withdraw h) same z = refl

    by_number : (k : ℕ) → (day_done file d c).number ≡ k → (day_done file d c).values ≡ []
    by_number zero z = ap (λ (x : Done). x.values) (meant_accepted file l (listed c) z) ∙ by_call c refl z
    by_number (suc k) z = ap (λ (x : Done). x.values) (meant_by file l (listed c) (suc k) (sym (meant_number file l (listed c)) ∙ z))

-- ---- the whole day

pub short_pieces : (s : List ℕ) → length (piece s) ≤ 12
unfolding wanted
short_pieces s =
    let part = length-take (3 + wanted s) s in
    decide (leb (u16_at s 1) route_size)
    (λ e. let few = leb-true (u16_at s 1) route_size e in let size : wanted s ≡ u16_at s 1 = rw e refl in omega arith)
    (λ e. let size : wanted s ≡ 0 = rw e refl in omega arith)

texts_append : (xs ys : List Line) → texts (xs ++ ys) ≡ texts xs ++ texts ys
texts_append [] ys = refl
texts_append (x ∷ xs) ys = ap (λ (t : List ℕ). text_of x ++ t) (texts_append xs ys) ∙ sym (append_assoc (text_of x) (texts xs) (texts ys))

-- the turns after the first, or those of a script that is not empty
turns_text : (file : List ℕ) {rest text : List ℕ} {o : Option Day} → Turns file false rest o text → text ≡ texts (lines_on file rest o)
turns_text file (ended {rest = rest}) = refl
turns_text file (turned {rest = rest} {text = text} {d = d} more) =
    ap (λ (t : List ℕ). texts (line_next file false (fields (piece rest)) d) ++ t) (turns_text file more)
    ∙ sym (texts_append (line_next file false (fields (piece rest)) d) _)
    ∙ ap texts (sym (turn_by_turn file d rest))

-- where the program goes on after a turn, the turn has read something
piece_read : (file rest : List ℕ) (d e : Day) → day_next file (fields (piece rest)) d ≡ some e → 1 ≤ length (piece rest)
piece_read file [] d e goes =
    let ends : day_next file (fields (piece [])) d ≡ none = rw (take-nil (3 + wanted []), fields_end [] refl) refl in
    absurd (let no : none ≡ some e = sym ends ∙ goes in let y : ◌≡◌ {A = ℕ} 0 1 = cc in omega arith)
piece_read file (t ∷ s) d e goes =
    let more : 3 + wanted (t ∷ s) ≡ suc (2 + wanted (t ∷ s)) = omega arith in
    rw more (omega arith)

-- what is read of a script that is not empty has a field
piece_some : (b : ℕ) (s : List ℕ) → fields (piece (b ∷ s)) ≡ end → ⊥
piece_some b s e =
    let more : 3 + wanted (b ∷ s) ≡ suc (2 + wanted (b ∷ s)) = omega arith in
    fields_some b (take (2 + wanted (b ∷ s)) s) (sym (ap (λ (k : ℕ). fields (take k (b ∷ s))) more) ∙ e)

module _ (file : List ℕ) where
  -- so its first turn prints as any other
  not_quiet : (fs : Fields) (d : Day) → (fs ≡ end → ⊥) → line_next file true fs d ≡ line_next file false fs d
  not_quiet end d some_field = absurd (some_field refl)
  not_quiet cut d some_field = refl
  not_quiet (next f fs) d some_field = refl

  first_text : (script text : List ℕ) → Turns file true script (some (day_opened (start file))) text
      → text ≡ texts (opened file script (start file) 0)
  first_text [] text (turned {text = later} {d = d} more) =
      let gone : fields (piece []) ≡ end = ap fields (take-nil (3 + wanted [])) ∙ fields_end [] refl in
      let last : later ≡ [] = turns_text file more ∙ ap (λ (fs : Fields). texts (lines_on file (drop (length (piece [])) []) (day_next file fs d))) gone in
      ap₂ (λ (fs : Fields) (t : List ℕ). texts (line_next file true fs d) ++ t) gone last ∙ append-nil _
  first_text (b ∷ s) text (turned {text = later} {d = d} more) =
      ap (λ (xs : List Line). texts xs ++ later) (not_quiet (fields (piece (b ∷ s))) d (piece_some b s)) ∙ turns_text file (turned more)

  -- a turn, and the turns after it
  turn_text : (first : Bool) (rest : List ℕ) (d : Day)
      → ((e : Day) → day_next file (fields (piece rest)) d ≡ some e → (text : List ℕ) × Turns file false (drop (length (piece rest)) rest) (some e) text)
      → (text : List ℕ) × Turns file first rest (some d) text
  turn_text first rest d more =
      let line : List ℕ = texts (line_next file first (fields (piece rest)) d) in
      let left : List ℕ = drop (length (piece rest)) rest in
      options (day_next file (fields (piece rest)) d)
      (λ e. (line ++ [], turned (subst (λ (o : Option Day). Turns file false left o []) (sym e) ended)))
      (λ next e. let (text, p) = more next e in (line ++ text, turned (subst (λ (o : Option Day). Turns file false left o text) (sym e) p)))

  -- every script has a text: each turn leaves less of it
  some_text : (k : ℕ) (first : Bool) (rest : List ℕ) (d : Day) → length rest ≤ k → (text : List ℕ) × Turns file first rest (some d) text
  some_text zero first rest d h =
      turn_text first rest d (λ e goes. absurd (let read = piece_read file rest d e goes in let part = length-take (3 + wanted rest) rest in omega arith))
  some_text (suc k) first rest d h =
      turn_text first rest d (λ e goes.
      let read = piece_read file rest d e goes in
      let left = length-drop (length (piece rest)) rest in
      some_text k false (drop (length (piece rest)) rest) e (omega arith))

  -- by the number of opening
  pub day_text_lem : (script : List ℕ) (n : ℕ) → (start file).number ≡ n → day_text file script ≡ texts (opened file script (start file) n)
  unfolding day_lines
  day_text_lem script n e = ap (λ (k : ℕ). texts (opened file script (start file) k)) e

  pub only_that : (script text : List ℕ) → DayTurns file script text → text ≡ day_text file script
  only_that script text (DayTurns.not_opened {n = n} e) = sym (append-nil (text_of (line (suc n) 0 0))) ∙ sym (day_text_lem script (suc n) e)
  only_that script text (DayTurns.opened e p) = first_text script text p ∙ sym (day_text_lem script 0 e)

  pub all_turns : (script : List ℕ) → DayTurns file script (day_text file script)
  all_turns script = by_number (start file).number refl
    where
      by_number : (n : ℕ) → (start file).number ≡ n → DayTurns file script (day_text file script)
      by_number zero e =
          let (text, p) = some_text (length script) true script (day_opened (start file)) (omega arith) in
          let one : DayTurns file script text = DayTurns.opened e p in
          subst (DayTurns file script) (only_that script text one) one
      by_number (suc n) e =
          let one : DayTurns file script (text_of (line (suc n) 0 0)) = DayTurns.not_opened e in
          subst (DayTurns file script) (only_that script _ one) one

part_length : (n m : ℕ) → m < n → length (take n (replicate {A = ℕ} m 0)) ≡ m
part_length n m h =
    let size : length (replicate {A = ℕ} m 0) ≡ m = length-replicate {A = ℕ} m 0 in
    ap length (take_all n (replicate m 0) (omega arith)) ∙ size

pub too_large : (file script : List ℕ) (site : Site) → read_site file ≡ accepted site → 65536 < board_length site
    → day_text file script ≡ text_of (line 7 0 0)
too_large file script site read large =
    let (clear, same) = read_site_lem file site read in
    let more : day_area < board_length (site_of file) = subst (λ (s : Site). day_area < board_length s) (sym same) large in
    let part : length (day_board file) ≡ day_area = part_length (board_length (site_of file)) day_area more in
    sym (only_that file script _ (DayTurns.not_opened (meant_number file (on_board (day_board file)) opening ∙ size_refused file (on_board (day_board file)) clear (λ e. omega arith))))
