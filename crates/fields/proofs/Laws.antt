-- Laws of the fields of a file, by place, and of what the reader answers there.
-- Assumes nothing.
use Prim.Native.Nat.{ℕ, ◌+◌, ◌≤◌, ◌<◌}
use mathlib.Core.Path.{◌≡◌, refl, sym, ap, ◌∙◌}
use mathlib.Core.List.{List, [], ◌∷◌}
use mathlib.Core.Bool.{Bool, true, false, true≢false}
use native.Mathlib.Omega.{arith}
use lib.ListN.{length, get_or, drop, length-drop}
use lib.Seq.{drop-drop, get_or-drop, get_or-take, length-take-le}
use mathlib.Core.Logic.{inl, inr}
use denote.Enum.Declared.{tag_of}
use types.Run.{OneOf}
use lib.Dec.{leb}
use borrow.Author.Tests.{leb-true, leb-false}
use Rattle.meaning.specs.Basics.{u16_at, all}
use Rattle.meaning.specs.Fields.{Field, end, cut, next, fields, complete, listed}
use Rattle.meaning.proofs.FieldsLaws.{fields_end, fields_short, fields_cut, fields_next}
use Rattle.fields.specs.Places.{fields_at, field_at, Next, Whole}
use Rattle.fields.specs.Items.{first_item, item_of}
use Rattle.fields.specs.declared.Header.{Header}
use Rattle.fields.specs.declared.Item.{Item}
use Rattle.fields.specs.declared.Item.TheVariants.{Cut, End}
use Rattle.fields.specs.contracts.Item.{the_type}

-- ---- by place
u16_drop : (file : List ℕ) (at i : ℕ) → u16_at (drop at file) i ≡ u16_at file (at + i)
u16_drop file at i =
    let e : at + (i + 1) ≡ at + i + 1 = omega arith in
    rw (get_or-drop at file i 0, get_or-drop at file (i + 1) 0, e)

pub at_end : (file : List ℕ) (at : ℕ) → length file ≤ at → fields_at file at ≡ end
unfolding fields_at
at_end file at p = fields_end (drop at file) (omega (arith, length-drop at file))

at_short : (file : List ℕ) (at : ℕ) → at < length file → length file < at + 3 → fields_at file at ≡ cut
unfolding fields_at
at_short file at p q = let e = length-drop at file in fields_short (drop at file) (omega arith) (omega arith)

-- n is what the code read for the length
at_cut : (file : List ℕ) (at n : ℕ) → n ≡ u16_at file (at + 1) → at + 3 ≤ length file → length file < at + 3 + n → fields_at file at ≡ cut
unfolding fields_at
at_cut file at n h p q =
    let e = length-drop at file in
    let u = u16_drop file at 1 in
    fields_cut (drop at file) (omega arith) (omega arith)

pub at_next : (file : List ℕ) (at n : ℕ) → n ≡ u16_at file (at + 1) → at + 3 + n ≤ length file →
    fields_at file at ≡ next (field_at file at) (fields_at file (at + 3 + n))
unfolding fields_at field_at
at_next file at n h q =
    let e = length-drop at file in
    let u = u16_drop file at 1 in
    let z : at + 0 ≡ at = omega arith in
    let a : at + (3 + u16_at file (at + 1)) ≡ at + 3 + n = omega arith in
    fields_next (drop at file) (omega arith)
    ∙ rw (u, get_or-drop at file 0 0, z, drop-drop 3 at file, drop-drop (3 + u16_at file (at + 1)) at file, a)

-- whether a field is cut, by place
pub whole_at : (file : List ℕ) → fields_at file 0 ≡ fields file
unfolding fields_at
whole_at file = refl

pub complete_end : (file : List ℕ) (at : ℕ) → length file ≤ at → complete (fields_at file at) ≡ true
unfolding complete
complete_end file at p = rw (at_end file at p)

complete_short : (file : List ℕ) (at : ℕ) → at < length file → length file < at + 3 → complete (fields_at file at) ≡ false
unfolding complete
complete_short file at p q = rw (at_short file at p q)

complete_cut : (file : List ℕ) (at n : ℕ) → n ≡ u16_at file (at + 1) → at + 3 ≤ length file → length file < at + 3 + n → complete (fields_at file at) ≡ false
unfolding complete
complete_cut file at n h p q = rw (at_cut file at n h p q)

complete_next : (file : List ℕ) (at n : ℕ) → n ≡ u16_at file (at + 1) → at + 3 + n ≤ length file → complete (fields_at file at) ≡ complete (fields_at file (at + 3 + n))
unfolding complete
complete_next file at n h q = rw (at_next file at n h q)

-- a field that is not cut has room
pub room : (file : List ℕ) (at n : ℕ) → complete (fields_at file at) ≡ true → at < length file → n ≡ u16_at file (at + 1) → at + 3 + n ≤ length file
room file at n w p h = go (leb (at + 3) (length file)) refl (leb (at + 3 + n) (length file)) refl
  where
    never : complete (fields_at file at) ≡ false → ⊥
    never e = let z : true ≡ false = cc in true≢false z

    go : (a : Bool) → leb (at + 3) (length file) ≡ a → (b : Bool) → leb (at + 3 + n) (length file) ≡ b → at + 3 + n ≤ length file
    go a p₁ true p₂ = leb-true _ _ p₂
    go true p₁ false p₂ = absurd (never (complete_cut file at n h (leb-true _ _ p₁) (leb-false _ _ p₂)))
    go false p₁ false p₂ = absurd (never (complete_short file at p (leb-false _ _ p₁)))

pub listed_end : (file : List ℕ) (at : ℕ) → length file ≤ at → listed (fields_at file at) ≡ []
unfolding listed
listed_end file at p = rw (at_end file at p)

pub listed_next : (file : List ℕ) (at n : ℕ) → n ≡ u16_at file (at + 1) → at + 3 + n ≤ length file → listed (fields_at file at) ≡ field_at file at ∷ listed (fields_at file (at + 3 + n))
unfolding listed
listed_next file at n h q = rw (at_next file at n h q)

-- a byte and a number of a field's value, where they stand in the file
pub value_length : (file : List ℕ) (at n : ℕ) → n ≡ u16_at file (at + 1) → at + 3 + n ≤ length file → length (field_at file at).value ≡ n
unfolding field_at
value_length file at n h q = let e = length-drop (at + 3) file in length-take-le (u16_at file (at + 1)) (drop (at + 3) file) (omega arith) ∙ sym h

pub field_tag : (file : List ℕ) (at : ℕ) → (field_at file at).tag ≡ get_or file at 0
unfolding field_at
field_tag file at = refl

pub value_byte : (file : List ℕ) (at i : ℕ) → i < u16_at file (at + 1) → get_or (field_at file at).value i 0 ≡ get_or file (at + 3 + i) 0
unfolding field_at
value_byte file at i p = get_or-take (u16_at file (at + 1)) (drop (at + 3) file) i 0 p ∙ get_or-drop (at + 3) file i 0

pub value_u16 : (file : List ℕ) (at i : ℕ) → i + 1 < u16_at file (at + 1) → u16_at (field_at file at).value i ≡ u16_at file (at + 3 + i)
value_u16 file at i p =
    let e : at + 3 + (i + 1) ≡ at + 3 + i + 1 = omega arith in
    rw (value_byte file at i (omega arith), value_byte file at (i + 1) p, e)

-- ---- from field to field
pub next_is : (file : List ℕ) (at n r : ℕ) → complete (fields_at file at) ≡ true → at < length file → n ≡ u16_at file (at + 1) → r ≡ at + 3 + n → Next file at r
next_is file at n r w p h e =
    let q = room file at n w p h in
    record {
      place = omega arith;
      inside = omega arith;
      whole = ap (λ (k : ℕ). complete (fields_at file k)) e ∙ sym (complete_next file at n h q) ∙ w;
      list = listed_next file at n h q ∙ ap (λ (k : ℕ). field_at file at ∷ listed (fields_at file k)) (sym e);
    }

-- a test of all fields, and their count
module _ (p : Field → Bool) where
  pub fields_all_none : (file : List ℕ) (at : ℕ) → length file ≤ at → all p (listed (fields_at file at)) ≡ true
  unfolding all
  fields_all_none file at h = rw (listed_end file at h)

  pub fields_all_hit : (f : Field) (fs gs : List Field) → fs ≡ f ∷ gs → p f ≡ true → all p fs ≡ all p gs
  unfolding all
  fields_all_hit f fs gs h e = rw (h, e)

  pub fields_all_miss : (f : Field) (fs gs : List Field) → fs ≡ f ∷ gs → p f ≡ false → all p fs ≡ false
  unfolding all
  fields_all_miss f fs gs h e = rw (h, e)

-- ---- what the reader answers
item_at : (s : List ℕ) (at : ℕ) → item_of s at ≡ first_item at (fields_at s at)
unfolding item_of fields_at
item_at s at = refl

pub item_end : (s : List ℕ) (at : ℕ) → length s ≤ at → item_of s at ≡ End
unfolding first_item
item_end s at p = item_at s at ∙ ap (first_item at) (at_end s at p)

pub item_short : (s : List ℕ) (at : ℕ) → at < length s → length s < at + 3 → item_of s at ≡ Cut
unfolding first_item
item_short s at p q = item_at s at ∙ ap (first_item at) (at_short s at p q)

pub item_cut : (s : List ℕ) (at n : ℕ) → n ≡ u16_at s (at + 1) → at + 3 ≤ length s → length s < at + 3 + n → item_of s at ≡ Cut
unfolding first_item
item_cut s at n h p q = item_at s at ∙ ap (first_item at) (at_cut s at n h p q)

pub item_field : (s : List ℕ) (at n : ℕ) → n ≡ u16_at s (at + 1) → at + 3 + n ≤ length s → item_of s at ≡ Item.Field (record { tag = get_or s at 0; start = at + 3; len = n; next = at + 3 + n })
unfolding first_item
item_field s at n h q = item_at s at ∙ ap (first_item at) (at_next s at n h q) ∙ simp (value_length s at n h q, field_tag s at)

-- and back: what each answer says of the fields there
module _ (s : List ℕ) (at : ℕ) where
  pub by_place : {X : Type 0} → (length s ≤ at → item_of s at ≡ End → X) → (fields_at s at ≡ cut → item_of s at ≡ Cut → X)
      → (at + 3 + u16_at s (at + 1) ≤ length s → X) → X
  by_place {X} f g h = go (leb (length s) at) refl (leb (at + 3) (length s)) refl (leb (at + 3 + u16_at s (at + 1)) (length s)) refl
    where
      go : (a : Bool) → leb (length s) at ≡ a → (b : Bool) → leb (at + 3) (length s) ≡ b → (c : Bool) → leb (at + 3 + u16_at s (at + 1)) (length s) ≡ c → X
      go true p b q c r = let l = leb-true _ _ p in f l (item_end s at l)
      go false p false q c r = let l = leb-false _ _ p in let m = leb-false _ _ q in g (at_short s at l m) (item_short s at l m)
      go false p true q false r = let l = leb-true _ _ q in let m = leb-false _ _ r in g (at_cut s at _ refl l m) (item_cut s at _ refl l m)
      go false p true q true r = h (leb-true _ _ r)

  pub is_end : End ≡ item_of s at → length s ≤ at
  is_end e =
      by_place (λ p q. p)
      (λ p q. let z : ◌≡◌ {A = ℕ} 0 1 = cc in absurd (omega arith))
      (λ r. let i = item_field s at _ refl r in let z : ◌≡◌ {A = ℕ} 0 1 = cc in absurd (omega arith))

  pub is_cut : Cut ≡ item_of s at → fields_at s at ≡ cut
  is_cut e =
      by_place (λ p q. let z : ◌≡◌ {A = ℕ} 0 1 = cc in absurd (omega arith))
      (λ p q. p)
      (λ r. let i = item_field s at _ refl r in let z : ◌≡◌ {A = ℕ} 0 1 = cc in absurd (omega arith))

  -- where the answer is no field, none is listed from there on
  pub no_field : (k : Item) → OneOf (1 ∷ 2 ∷ []) (tag_of the_type k) → k ≡ item_of s at → listed (fields_at s at) ≡ []
  unfolding listed
  no_field (Item.Field h) (inl met) e = absurd (omega arith)
  no_field (Item.Field h) (inr met) e = absurd (omega arith)
  no_field Cut met e = ap listed (is_cut e)
  no_field End met e = ap listed (at_end s at (is_end e))

  pub not_field : (k : Item) → ((h : Header) → k ≡ Item.Field h → ⊥) → k ≡ item_of s at → listed (fields_at s at) ≡ []
  unfolding listed
  not_field (Item.Field h) met e = absurd (met h refl)
  not_field Cut met e = ap listed (is_cut e)
  not_field End met e = ap listed (at_end s at (is_end e))

  pub is_field : (h : Header) → Item.Field h ≡ item_of s at → Whole s at h
  is_field h e =
      by_place (λ p q. let z : ◌≡◌ {A = ℕ} 0 1 = cc in absurd (omega arith))
      (λ p q. let z : ◌≡◌ {A = ℕ} 0 1 = cc in absurd (omega arith))
      (λ r. found r (e ∙ item_field s at _ refl r))
    where
      found : at + 3 + u16_at s (at + 1) ≤ length s
          → Item.Field h ≡ Item.Field (record { tag = get_or s at 0; start = at + 3; len = u16_at s (at + 1); next = at + 3 + u16_at s (at + 1) }) → Whole s at h
      found r i =
          let x : h ≡ record { tag = get_or s at 0; start = at + 3; len = u16_at s (at + 1); next = at + 3 + u16_at s (at + 1) } = cc in
          let n = ap (λ (k : Header). k.next) x in
          let l = ap (λ (k : Header). k.len) x in
          record {
            tag = ap (λ (k : Header). k.tag) x;
            start = ap (λ (k : Header). k.start) x;
            len = l;
            next = omega arith;
            inside = omega arith;
            fields = at_next s at _ refl r ∙ ap (λ (k : ℕ). next (field_at s at) (fields_at s k)) (sym n);
          }

-- a whole field and those after it
module _ (s : List ℕ) (at : ℕ) (h : Header) (w : Whole s at h) where
  pub whole_complete : complete (fields_at s at) ≡ complete (fields_at s h.next)
  unfolding complete
  whole_complete = ap complete w.fields

  pub whole_listed : listed (fields_at s at) ≡ field_at s at ∷ listed (fields_at s h.next)
  unfolding listed
  whole_listed = ap listed w.fields

  pub whole_next : complete (fields_at s h.next) ≡ true → Next s at h.next
  whole_next c =
      let n = w.len in
      let a = w.next in
      record { place = omega arith; inside = w.inside; whole = c; list = whole_listed }

  pub whole_length : length (field_at s at).value ≡ h.len
  whole_length =
      let i = w.inside in
      let a = w.next in
      value_length s at h.len w.len (omega arith)

  -- a byte and a number of its value, where they stand in the file
  pub whole_byte : (i : ℕ) → i < h.len → get_or (field_at s at).value i 0 ≡ get_or s (h.start + i) 0
  whole_byte i p =
      let n = w.len in
      value_byte s at i (omega arith) ∙ ap (λ (k : ℕ). get_or s (k + i) 0) (sym w.start)

  pub whole_u16 : (i : ℕ) → i + 1 < h.len → u16_at (field_at s at).value i ≡ u16_at s (h.start + i)
  whole_u16 i p =
      let n = w.len in
      value_u16 s at i (omega arith) ∙ ap (λ (k : ℕ). u16_at s (k + i)) (sym w.start)

-- no fields are complete that are cut, and short of the end what is no field is one that is cut
cut_incomplete : (s : List ℕ) (at : ℕ) → fields_at s at ≡ cut → complete (fields_at s at) ≡ false
unfolding complete
cut_incomplete s at e = ap complete e

pub not_field_cut : (s : List ℕ) (at : ℕ) (k : Item) → ((h : Header) → k ≡ Item.Field h → ⊥) → k ≡ item_of s at → at < length s → complete (fields_at s at) ≡ false
not_field_cut s at (Item.Field h) met e p = absurd (met h refl)
not_field_cut s at Cut met e p = cut_incomplete s at (is_cut s at e)
not_field_cut s at End met e p = let q = is_end s at e in absurd (omega arith)

-- ---- the answer in the words of the definition: the fields of the bytes from the place on
module _ (s : List ℕ) (at : ℕ) where
  pub says_end : End ≡ item_of s at → fields (drop at s) ≡ end
  unfolding fields_at
  says_end e = at_end s at (is_end s at e)

  pub says_cut : Cut ≡ item_of s at → fields (drop at s) ≡ cut
  unfolding fields_at
  says_cut e = is_cut s at e
