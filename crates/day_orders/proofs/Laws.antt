-- Laws of the script's fields as calls.
-- Assumes nothing.
use Prim.Native.Nat.{ℕ, zero, suc, ◌+◌, ◌*◌, ◌≤◌, ◌<◌}
use native.Mathlib.Omega.{arith}
use mathlib.Core.Path.{◌≡◌, refl, sym, ap, ap₂, ◌∙◌}
use mathlib.Core.Bool.{true, false, ◌&&◌}
use mathlib.Core.Option.{Option, none, some}
use mathlib.Core.List.{List, [], ◌∷◌}
use lib.Dec.{eqb}
use lib.ListN.{length, get_or}
use borrow.Author.Tests.{eqb-true, eq-eqb, le-leb, lt-leb}
use Rattle.meaning.specs.Limits.{close_tag, withdraw_tag, route_tag, post_tag, close_size, withdraw_size, route_size}
use Rattle.meaning.specs.Basics.{u16_at}
use Rattle.meaning.specs.Fields.{Field}
use Rattle.meaning.specs.Calls as C
use Rattle.meaning.specs.Day.{is_field, call_of, wanted}
use Rattle.meaning.proofs.BasicsLaws.{decide, and_left, and_right}
use Rattle.fields.specs.Places.{field_at, Whole}
use Rattle.fields.specs.declared.Header.{Header}
use Rattle.fields.proofs.Laws.{whole_length, whole_byte, whole_u16}
use Rattle.day_orders.specs.declared.Order.TheVariants.{Close, Withdraw, Route, Post}
use Rattle.day_orders.specs.declared.Entry.{Entry}
use Rattle.day_orders.specs.declared.Entry.TheVariants.{Call, Bad, End}
use Rattle.day_orders.specs.Orders.{entry_for, entry_by, entry_call}

-- ---- how much is read

pub wanted_few : (s : List ℕ) (n : ℕ) → n ≡ u16_at s 1 → n ≤ route_size → n ≡ wanted s
unfolding wanted
wanted_few s n e h = let few = le-leb (u16_at s 1) route_size (omega arith) in e ∙ rw few refl

pub wanted_many : (s : List ℕ) (n : ℕ) → n ≡ u16_at s 1 → route_size < n → 0 ≡ wanted s
unfolding wanted
wanted_many s n e h = let many = lt-leb (u16_at s 1) route_size (omega arith) in rw many refl

-- the high byte alone is 0, or the length is too much
pub wanted_cut : (s : List ℕ) → length s < 3 → 0 ≡ wanted s
unfolding wanted
wanted_cut [] h = refl
wanted_cut (t ∷ []) h = refl
wanted_cut (t ∷ zero ∷ []) h = refl
wanted_cut (t ∷ suc n ∷ []) h = wanted_many (t ∷ suc n ∷ []) (suc n * 256) (omega arith) (omega arith)
wanted_cut (t ∷ n ∷ l ∷ s) h = absurd (omega arith)

-- ---- the call that is meant

pub entry_call_lem : (light : List ℕ) (f : Field) → entry_call light (entry_by f) ≡ call_of light f
unfolding entry_by call_of
entry_call_lem light f =
    decide (is_field f close_tag close_size) (λ e. rw e refl)
    (λ e. decide (is_field f withdraw_tag withdraw_size) (λ g. rw (e, g) refl)
    (λ g. decide (is_field f route_tag route_size) (λ h. rw (e, g, h) refl)
    (λ h. decide (is_field f post_tag 0) (λ k. rw (e, g, h, k) refl) (λ k. rw (e, g, h, k) refl))))

-- a field is not the script's end
abbrev is_end : Entry → ℕ
is_end (Call o) = 0
is_end Bad = 0
is_end End = 1

for_no_end : (o : Option C.Call) → is_end (entry_for o) ≡ 0
for_no_end (some (C.close h cell first last)) = refl
for_no_end (some (C.withdraw h)) = refl
for_no_end (some (C.route tug a goal dwell)) = refl
for_no_end (some (C.post light)) = refl
for_no_end (some (C.audit light)) = refl
for_no_end none = refl

pub not_end : (f : Field) → End ≡ entry_by f → ⊥
unfolding entry_by
not_end f e = let z = ap is_end e ∙ for_no_end (call_of [] f) in omega arith

-- ---- a whole field at the front

module _ (s : List ℕ) (h : Header) (w : Whole s 0 h) where
  abbrev f : Field
  f = field_at s 0

  -- the test of tag and length is the field's
  pub told : (tag size : ℕ) → is_field f tag size ≡ (eqb h.tag tag && eqb h.len size)
  unfolding field_at
  told tag size = ap₂ (λ (m n : ℕ). eqb m tag && eqb n size) (sym w.tag) (whole_length s 0 h w)

  is : (tag size : ℕ) → h.tag ≡ tag → h.len ≡ size → is_field f tag size ≡ true
  is tag size t n = rw (told tag size, eq-eqb h.tag tag t, eq-eqb h.len size n) refl

  other : (tag size : ℕ) → (h.tag ≡ tag → h.len ≡ size → ⊥) → is_field f tag size ≡ false
  other tag size apart =
      decide (is_field f tag size)
      (λ e.
      let both : (eqb h.tag tag && eqb h.len size) ≡ true = sym (told tag size) ∙ e in
      absurd (apart (eqb-true _ _ (and_left (eqb h.tag tag) (eqb h.len size) both)) (eqb-true _ _ (and_right (eqb h.tag tag) (eqb h.len size) both))))
      (λ e. e)

  first_byte : 0 < h.len → get_or f.value 0 0 ≡ get_or s h.start 0
  first_byte p = let z : h.start + 0 ≡ h.start = omega arith in whole_byte s 0 h w 0 p ∙ ap (λ (k : ℕ). get_or s k 0) z

  -- what the code returns for each call
  pub close_entry : h.tag ≡ close_tag → h.len ≡ close_size → (cell first last : ℕ)
      → cell ≡ u16_at s (h.start + 1) → first ≡ u16_at s (h.start + 3) → last ≡ u16_at s (h.start + 5)
      → Call (Close (get_or s h.start 0) cell first last) ≡ entry_by f
  unfolding entry_by call_of
  close_entry t n cell first last x a b =
      rw (
        is close_tag close_size t n,
        first_byte (omega arith),
        whole_u16 s 0 h w 1 (omega arith),
        whole_u16 s 0 h w 3 (omega arith),
        whole_u16 s 0 h w 5 (omega arith),
        x,
        a,
        b,
      ) refl

  pub withdraw_entry : h.tag ≡ withdraw_tag → h.len ≡ withdraw_size → Call (Withdraw (get_or s h.start 0)) ≡ entry_by f
  unfolding entry_by call_of
  withdraw_entry t n =
      rw (other close_tag close_size (λ a b. omega arith), is withdraw_tag withdraw_size t n, first_byte (omega arith)) refl

  pub route_entry : h.tag ≡ route_tag → h.len ≡ route_size → (start tick goal dwell : ℕ)
      → start ≡ u16_at s (h.start + 1) → tick ≡ u16_at s (h.start + 3) → goal ≡ u16_at s (h.start + 5) → dwell ≡ u16_at s (h.start + 7)
      → Call (Route (get_or s h.start 0) start tick goal dwell) ≡ entry_by f
  unfolding entry_by call_of
  route_entry t n start tick goal dwell a b g x =
      rw (
        other close_tag close_size (λ k l. omega arith),
        other withdraw_tag withdraw_size (λ k l. omega arith),
        is route_tag route_size t n,
        first_byte (omega arith),
        whole_u16 s 0 h w 1 (omega arith),
        whole_u16 s 0 h w 3 (omega arith),
        whole_u16 s 0 h w 5 (omega arith),
        whole_u16 s 0 h w 7 (omega arith),
        a,
        b,
        g,
        x,
      ) refl

  pub post_entry : h.tag ≡ post_tag → h.len ≡ 0 → Call Post ≡ entry_by f
  unfolding entry_by call_of
  post_entry t n =
      rw (
        other close_tag close_size (λ a b. omega arith),
        other withdraw_tag withdraw_size (λ a b. omega arith),
        other route_tag route_size (λ a b. omega arith),
        is post_tag 0 t n,
      ) refl

  pub bad_entry : (h.tag ≡ close_tag → h.len ≡ close_size → ⊥)
      → (h.tag ≡ withdraw_tag → h.len ≡ withdraw_size → ⊥)
      → (h.tag ≡ route_tag → h.len ≡ route_size → ⊥)
      → (h.tag ≡ post_tag → h.len ≡ 0 → ⊥)
      → Bad ≡ entry_by f
  unfolding entry_by call_of
  bad_entry c d r p = rw (other close_tag close_size c, other withdraw_tag withdraw_size d, other route_tag route_size r, other post_tag 0 p) refl
