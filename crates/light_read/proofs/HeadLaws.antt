-- Laws of a light's head: when bytes are a light, and the numbers of its head by place.
-- Assumes nothing.
use Prim.Native.Nat.{ℕ, ◌+◌, ◌≤◌, ◌<◌}
use native.Mathlib.Omega.{arith}
use mathlib.Core.Path.{◌≡◌, refl, sym, ap, ◌∙◌}
use mathlib.Core.Bool.{Bool, true, false, ◌&&◌, true≢false, and-false}
use mathlib.Core.List.{List, [], ◌∷◌, map}
use lib.Dec.{leb, eqb}
use lib.ListN.{length, get_or, drop}
use borrow.Author.Tests.{lt-leb, le-leb}
use Rattle.meaning.specs.Limits.{light_limit, light_tag, light_head_size}
use Rattle.meaning.specs.Basics.{every, u16_at, u32_at}
use Rattle.meaning.specs.Fields.{Field, Fields, next, no_field, fields, complete, listed}
use Rattle.meaning.specs.Light.{is_light, is_light_head, light_head_of, light_of, in_layout, step_of}
use Rattle.meaning.proofs.BasicsLaws.{every_at}
use Rattle.meaning.proofs.LightLaws.{head_tests}
use Rattle.fields.specs.declared.Header.{Header}
use Rattle.fields.specs.Places.{fields_at, field_at, Whole}
use Rattle.fields.proofs.Laws.{whole_at, whole_length, field_tag, value_byte, by_place, at_next, value_length, at_end}
use Rattle.light.specs.Heads.{head_of}
use Rattle.light.specs.Sizes.{first_step}
use Rattle.light_steps.specs.Steps.{steps_from, laid_from}

-- ---- when bytes are a light

pub light_long : (s : List ℕ) → light_limit < length s → is_light s ≡ false
unfolding is_light every
light_long s p = rw (lt-leb (length s) light_limit p)

-- by the fields from the front on
lit : Bool → Fields → Bool
lit short fs = every (short ∷ complete fs ∷ is_light_head (get_or (listed fs) 0 no_field) ∷ in_layout true (drop 1 (listed fs)) ∷ [])

light_lit : (s : List ℕ) → is_light s ≡ lit (leb (length s) light_limit) (fields_at s 0)
unfolding is_light lit
light_lit s = rw (whole_at s)

pub light_none : (s : List ℕ) → listed (fields_at s 0) ≡ [] → is_light s ≡ false
unfolding lit every is_light_head
light_none s none =
    light_lit s ∙ rw none (ap (λ (b : Bool). leb (length s) light_limit && b) (and-false (complete (fields_at s 0))) ∙ and-false (leb (length s) light_limit))

-- complete, head, layout, and the same in the order that the code has
reorder : (a b c d : Bool) → a && ((b && c) && (d && true)) ≡ b && c && (a && d)
reorder true true true true = refl
reorder true true true false = refl
reorder true true false d = refl
reorder true false c d = refl
reorder false true true d = refl
reorder false true false d = refl
reorder false false c d = refl

lit_field : (f : Field) (fs : Fields)
    → lit true (next f fs) ≡ eqb f.tag light_tag && eqb (length f.value) light_head_size && (complete fs && in_layout true (listed fs))
unfolding lit every complete listed is_light_head
lit_field f fs = reorder (complete fs) (eqb f.tag light_tag) (eqb (length f.value) light_head_size) (in_layout true (listed fs))

pub light_field : (s : List ℕ) (h : Header) → Whole s 0 h → length s ≤ light_limit
    → eqb h.tag light_tag && eqb h.len light_head_size && laid_from true s h.next ≡ is_light s
unfolding laid_from
light_field s h w p =
    let tag = w.tag ∙ sym (field_tag s 0) in
    let size = whole_length s 0 h w in
    sym (light_lit s ∙ rw (le-leb (length s) light_limit p, w.fields) (lit_field (field_at s 0) (fields_at s h.next) ∙ rw (size, ← tag)))

-- ---- what an accepted light has

-- its head stands at the front, and its steps behind it
pub record Accepted (s : List ℕ) : Type 0 where
  pub whole : complete (fields_at s 0) ≡ true
  pub room : first_step ≤ length s
  pub size : u16_at s (0 + 1) ≡ light_head_size
  pub head : light_head_of s ≡ field_at s 0
  pub laid : laid_from true s first_step ≡ true
  pub steps : steps_from s first_step ≡ (light_of s).steps

accepted_next : (s : List ℕ) (later : ℕ) → is_light s ≡ true → fields_at s 0 ≡ next (field_at s 0) (fields_at s later)
    → (complete (fields_at s later) ≡ true) × (is_light_head (field_at s 0) ≡ true) × (in_layout true (listed (fields_at s later)) ≡ true)
unfolding lit complete listed
accepted_next s later h e =
    let tests = sym (ap (lit (leb (length s) light_limit)) e) ∙ sym (light_lit s) ∙ h in
    (every_at _ tests 1, every_at _ tests 2, every_at _ tests 3)

accepted_field : (s : List ℕ) → is_light s ≡ true → 0 + 3 + u16_at s (0 + 1) ≤ length s → Accepted s
unfolding complete listed laid_from steps_from light_of
accepted_field s h r =
    let n = u16_at s (0 + 1) in
    let e = at_next s 0 n refl r in
    let (c, head_good, layout) = accepted_next s (0 + 3 + n) h e in
    let size : n ≡ light_head_size = sym (value_length s 0 n refl r) ∙ (head_tests (field_at s 0) head_good).1 in
    let place : 0 + 3 + n ≡ first_step = omega arith in
    let list : listed (fields s) ≡ field_at s 0 ∷ listed (fields_at s first_step) =
    ap listed (sym (whole_at s) ∙ e) ∙ ap (λ (k : ℕ). field_at s 0 ∷ listed (fields_at s k)) place in
    record {
      whole = ap complete e ∙ c;
      room = omega arith;
      size = size;
      head = ap (λ (fs : List Field). get_or fs 0 no_field) list;
      laid = rw (← place, c, layout);
      steps = sym (ap (λ (fs : List Field). map step_of (drop 1 fs)) list);
    }

pub accepted : (s : List ℕ) → is_light s ≡ true → Accepted s
unfolding listed
accepted s h =
    by_place s 0
    (λ p q. absurd (true≢false (sym h ∙ light_none s (ap listed (at_end s 0 p)))))
    (λ e q. absurd (true≢false (sym h ∙ light_none s (ap listed e))))
    (accepted_field s h)

-- ---- the head's numbers, by place

module _ (s : List ℕ) (h : is_light s ≡ true) where
  head_byte : (i : ℕ) → i < 15 → get_or (light_head_of s).value i 0 ≡ get_or s (3 + i) 0
  head_byte i p =
      let a = accepted s h in
      let e = a.size in
      ap (λ (f : Field). get_or f.value i 0) a.head ∙ value_byte s 0 i (omega arith)

  head_u16 : (i : ℕ) → i < 14 → u16_at (light_head_of s).value i ≡ u16_at s (3 + i)
  head_u16 i p =
      let e : 3 + (i + 1) ≡ 3 + i + 1 = omega arith in
      rw (head_byte i (omega arith), head_byte (i + 1) (omega arith), e)

  pub head_numbers : (at edition tug start tick goal arrival dwell : ℕ) → at ≡ 3 → edition ≡ u32_at s at
      → tug ≡ get_or s (at + 4) 0 → start ≡ u16_at s (at + 5) → tick ≡ u16_at s (at + 7) → goal ≡ u16_at s (at + 9) → arrival ≡ u16_at s (at + 11)
      → dwell ≡ u16_at s (at + 13)
      → record { edition = edition; tug = tug; start = start; tick = tick; goal = goal; arrival = arrival; dwell = dwell } ≡ head_of (light_of s)
  unfolding light_of
  head_numbers at edition tug start tick goal arrival dwell p e₀ e₁ e₂ e₃ e₄ e₅ e₆ =
      rw (e₀, e₁, e₂, e₃, e₄, e₅, e₆, p)
      (sym (rw (
        head_byte 4 (omega arith),
        head_u16 0 (omega arith),
        head_u16 2 (omega arith),
        head_u16 5 (omega arith),
        head_u16 7 (omega arith),
        head_u16 9 (omega arith),
        head_u16 11 (omega arith),
        head_u16 13 (omega arith),
      )))
