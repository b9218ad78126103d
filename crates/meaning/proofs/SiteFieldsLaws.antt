-- The fields of a site file, one by one: what is read from each is written back, and what is written is read back.
-- Assumes nothing.
use Prim.Native.Nat.{ℕ, zero, suc, ◌+◌, ◌*◌, ◌-◌, ◌/◌, ◌%◌, ◌≤◌, ◌<◌, suc-le-suc}
use native.Mathlib.Omega.{arith}
use mathlib.Core.Path.{◌≡◌, refl, sym, ap, ap₂, ◌∙◌}
use mathlib.Core.Logic.{◌⊎◌, inl, inr}
use mathlib.Core.Bool.{Bool, true, false, ◌&&◌, ◌||◌, false≢true}
use mathlib.Core.List.{List, [], ◌∷◌, ◌++◌, map}
use lib.ListN.{length, get_or, take, drop, length-drop}
use lib.Dec.{leb, eqb}
use borrow.Author.Tests.{leb-true, le-leb, eqb-true, eq-eqb}
use Rattle.meaning.specs.Limits.{horizon_limit, cell_limit, state_limit, margin_limit, motion_limit, sweep_limit}
use Rattle.meaning.specs.Limits.{head_tag, state_tag, motion_tag, centre_tag, head_size, state_size, motion_size, sweep_size, centre_size}
use Rattle.meaning.specs.Basics.{all, within, Each, Bytes, u16_at}
use Rattle.meaning.specs.Fields.{Field, no_field}
use Rattle.meaning.specs.Site.{State, Sweep, Motion, Centre, Site, sweeps_of, state_of, motion_of, centre_of, before_centres, from_centres}
use Rattle.meaning.specs.Site.{head_good, is_state, sweep_count, is_motion, motions_laid, is_centre, centres_laid, layout_good}
use Rattle.meaning.specs.Refusals.{HeadField}
use Rattle.meaning.specs.WellFormed.{WellFormed, state_field, sweep_bytes, motion_field, centre_field, head_field}
use Rattle.meaning.proofs.BasicsLaws.{and_left, and_right, all_each, each_all, within_range, range_within, u16_back, u16_bytes}
use Rattle.meaning.proofs.FieldsLaws.{bytes_drop, field_is, list_of, byte_at_lem, put16_at}
use Rattle.meaning.proofs.MotionLaws.{and_three}

-- ---- a property of every element of a list

-- a list that is mapped and mapped back
pub map_back : {A B : Type 0} (P : A → Type 0) (f : A → B) (g : B → A) → ((x : A) → P x → g (f x) ≡ x)
    → (xs : List A) → Each P xs → map g (map f xs) ≡ xs
map_back P f g back [] h = refl
map_back {A} P f g back (x ∷ xs) (h, hs) = ap₂ {C = List A} (λ y ys. y ∷ ys) (back x h) (map_back P f g back xs hs)

pub each_mapped : {A B : Type 0} (P : A → Type 0) (Q : B → Type 0) (f : A → B) → ((x : A) → P x → Q (f x))
    → (xs : List A) → Each P xs → Each Q (map f xs)
each_mapped P Q f to [] h = tt
each_mapped P Q f to (x ∷ xs) (h, hs) = (to x h, each_mapped P Q f to xs hs)

pub each_joined : {A : Type 0} (P : A → Type 0) (xs ys : List A) → Each P xs → Each P ys → Each P (xs ++ ys)
each_joined P [] ys h k = k
each_joined P (x ∷ xs) ys (h, hs) k = (h, each_joined P xs ys hs k)

pub each_apart : {A : Type 0} (P : A → Type 0) (xs ys : List A) → Each P (xs ++ ys) → Each P xs × Each P ys
each_apart P [] ys h = (tt, h)
each_apart P (x ∷ xs) ys (h, hs) = let (k, l) = each_apart P xs ys hs in ((h, k), l)

pub each_drop : {A : Type 0} (P : A → Type 0) (n : ℕ) (xs : List A) → Each P xs → Each P (drop n xs)
each_drop P zero xs h = h
each_drop P (suc n) [] h = tt
each_drop P (suc n) (x ∷ xs) (h, hs) = each_drop P n xs hs

pub each_take : {A : Type 0} (P : A → Type 0) (n : ℕ) (xs : List A) → Each P xs → Each P (take n xs)
each_take P zero xs h = tt
each_take P (suc n) [] h = tt
each_take P (suc n) (x ∷ xs) (h, hs) = (h, each_take P n xs hs)

pub each_both : {A : Type 0} (P Q : A → Type 0) (xs : List A) → Each P xs → Each Q xs → Each (λ (x : A). P x × Q x) xs
each_both P Q [] h k = tt
each_both P Q (x ∷ xs) (h, hs) (k, ks) = ((h, k), each_both P Q xs hs ks)

-- ---- bytes by place

first_five : (v : List ℕ) → 5 ≤ length v → v ≡ get_or v 0 0 ∷ get_or v 1 0 ∷ get_or v 2 0 ∷ get_or v 3 0 ∷ get_or v 4 0 ∷ drop 5 v
first_five [] h = absurd (omega arith)
first_five (a ∷ []) h = absurd (omega arith)
first_five (a ∷ b ∷ []) h = absurd (omega arith)
first_five (a ∷ b ∷ c ∷ []) h = absurd (omega arith)
first_five (a ∷ b ∷ c ∷ d ∷ []) h = absurd (omega arith)
first_five (a ∷ b ∷ c ∷ d ∷ e ∷ v) h = refl

-- two bytes of a list are those of the number that they make
two_bytes : (v : List ℕ) → Bytes v → (i : ℕ) → (u16_at v i / 256 % 256 ≡ get_or v i 0) × (u16_at v i % 256 ≡ get_or v (i + 1) 0)
two_bytes v h i = u16_bytes (get_or v i 0) (get_or v (i + 1) 0) (byte_at_lem v h i) (byte_at_lem v h (i + 1))

-- ---- sweeps

sweeps_count : (n : ℕ) (s : List ℕ) → length s ≡ sweep_size * n → length (sweeps_of s) ≡ n
unfolding sweeps_of
sweeps_count zero [] h = refl
sweeps_count zero (c ∷ s) h = absurd (omega arith)
sweeps_count (suc n) [] h = absurd (omega arith)
sweeps_count (suc n) (c ∷ []) h = absurd (omega arith)
sweeps_count (suc n) (c ∷ d ∷ []) h = absurd (omega arith)
sweeps_count (suc n) (c ∷ d ∷ a ∷ []) h = absurd (omega arith)
sweeps_count (suc n) (c ∷ d ∷ a ∷ b ∷ s) h = ap suc (sweeps_count n s (omega arith))

sweeps_written : (n : ℕ) (s : List ℕ) → Bytes s → length s ≡ sweep_size * n → sweep_bytes (sweeps_of s) ≡ s
unfolding sweeps_of
sweeps_written zero [] bytes h = refl
sweeps_written zero (c ∷ s) bytes h = absurd (omega arith)
sweeps_written (suc n) [] bytes h = absurd (omega arith)
sweeps_written (suc n) (c ∷ []) bytes h = absurd (omega arith)
sweeps_written (suc n) (c ∷ d ∷ []) bytes h = absurd (omega arith)
sweeps_written (suc n) (c ∷ d ∷ a ∷ []) bytes h = absurd (omega arith)
sweeps_written (suc n) (c ∷ d ∷ a ∷ b ∷ s) (bc, (bd, (ba, (bb, bytes)))) h =
    let (high, low) = u16_bytes c d bc bd in
    rw (high, low, sweeps_written n s bytes (omega arith))

-- a cell that two bytes can name
abbrev pub CellFits : Sweep → Type 0
CellFits w = w.cell < 65536

sweeps_read : (ws : List Sweep) → Each CellFits ws → sweeps_of (sweep_bytes ws) ≡ ws
unfolding sweeps_of
sweeps_read [] h = refl
sweeps_read (w ∷ ws) (h, hs) = rw (u16_back w.cell h, sweeps_read ws hs)

sweep_bytes_length : (ws : List Sweep) → length (sweep_bytes ws) ≡ sweep_size * length ws
sweep_bytes_length [] = refl
sweep_bytes_length (w ∷ ws) = let e = sweep_bytes_length ws in omega arith

-- ---- one state

abbrev pub IsState : Field → Type 0
IsState f = is_state f ≡ true

pub state_parts : (f : Field) → IsState f → (f.tag ≡ state_tag) × (length f.value ≡ state_size)
unfolding is_state
state_parts f h = (
  eqb-true f.tag state_tag (and_left (eqb f.tag state_tag) (eqb (length f.value) state_size) h),
  eqb-true (length f.value) state_size (and_right (eqb f.tag state_tag) (eqb (length f.value) state_size) h),
)

pub state_written : (f : Field) → IsState f → Bytes f.value → state_field (state_of f) ≡ f
unfolding state_of
state_written f h bytes =
    let (t, l) = state_parts f h in
    let v = f.value in
    field_is f _ _ t (list_of v state_size l ∙ sym (ap (λ (cell : List ℕ). cell ++ (get_or v 2 0 ∷ [])) (put16_at v bytes 0)))

pub state_read : (s : State) → s.cell < 65536 → state_of (state_field s) ≡ s
unfolding state_of
state_read s p = let back = u16_back s.cell p in λ i. record { cell = back i; speed = s.speed }

pub state_made : (s : State) → is_state (state_field s) ≡ true
unfolding is_state
state_made s = refl

-- ---- one motion

abbrev pub IsMotion : Field → Type 0
IsMotion f = is_motion f ≡ true

pub motion_parts : (f : Field) → IsMotion f
    → (f.tag ≡ motion_tag) × (1 ≤ sweep_count (length f.value)) × (sweep_count (length f.value) ≤ sweep_limit)
    × (length f.value ≡ motion_size + sweep_size * sweep_count (length f.value))
unfolding is_motion
motion_parts f h =
    let n = sweep_count (length f.value) in
    let (x, y, z) = and_three (eqb f.tag motion_tag) (within 1 sweep_limit n) (eqb (length f.value) (motion_size + sweep_size * n)) h in
    let (least, most) = within_range 1 sweep_limit n y in
    (eqb-true f.tag motion_tag x, least, most, eqb-true (length f.value) (motion_size + sweep_size * n) z)

pub motion_written : (f : Field) → IsMotion f → Bytes f.value → motion_field (motion_of f) ≡ f
unfolding motion_of
motion_written f h bytes =
    let v = f.value in
    let n = sweep_count (length v) in
    let (t, _, _, l) = motion_parts f h in
    let rest = length-drop 5 v in
    let (a, b) = two_bytes v bytes 0 in
    let (c, d) = two_bytes v bytes 2 in
    let ws : sweep_bytes (sweeps_of (drop 5 v)) ≡ drop 5 v = sweeps_written n (drop 5 v) (bytes_drop 5 v bytes) (omega arith) in
    field_is f _ _ t (rw (a, b, c, d, ws) (first_five v (omega arith)))

pub motion_sweeps : (f : Field) → IsMotion f → length (motion_of f).sweeps ≡ sweep_count (length f.value)
unfolding motion_of
motion_sweeps f h =
    let (_, _, _, l) = motion_parts f h in
    let rest = length-drop 5 f.value in
    sweeps_count (sweep_count (length f.value)) (drop 5 f.value) (omega arith)

pub motion_read : (m : Motion) → m.from < 65536 → m.to < 65536 → Each CellFits m.sweeps → motion_of (motion_field m) ≡ m
unfolding motion_of
motion_read m p q narrow =
    let from_back = u16_back m.from p in
    let to_back = u16_back m.to q in
    let sweeps_back = sweeps_read m.sweeps narrow in
    λ i. record { from = from_back i; to = to_back i; span = m.span; sweeps = sweeps_back i }

pub motion_size_lem : (m : Motion) → length (motion_field m).value ≡ motion_size + sweep_size * length m.sweeps
motion_size_lem m = let e = sweep_bytes_length m.sweeps in omega arith

pub motion_made : (m : Motion) → 1 ≤ length m.sweeps → length m.sweeps ≤ sweep_limit → is_motion (motion_field m) ≡ true
unfolding is_motion sweep_count
motion_made m p q =
    let e = motion_size_lem m in
    let n = length m.sweeps in
    let count : (motion_size + sweep_size * n - motion_size) / sweep_size ≡ n = omega arith in
    rw (e, count, range_within 1 sweep_limit n p q) (eq-eqb (motion_size + sweep_size * n) (motion_size + sweep_size * n) refl)

-- ---- one centre

abbrev pub IsCentre : Field → Type 0
IsCentre f = is_centre f ≡ true

pub centre_parts : (f : Field) → IsCentre f → (f.tag ≡ centre_tag) × (length f.value ≡ centre_size)
unfolding is_centre
centre_parts f h = (
  eqb-true f.tag centre_tag (and_left (eqb f.tag centre_tag) (eqb (length f.value) centre_size) h),
  eqb-true (length f.value) centre_size (and_right (eqb f.tag centre_tag) (eqb (length f.value) centre_size) h),
)

pub centre_written : (f : Field) → IsCentre f → Bytes f.value → centre_field (centre_of f) ≡ f
unfolding centre_of
centre_written f h bytes =
    let (t, l) = centre_parts f h in
    let v = f.value in
    field_is f _ _ t (list_of v centre_size l ∙ sym (ap₂ {C = List ℕ} (λ x y. x ++ y) (put16_at v bytes 0) (put16_at v bytes 2)))

pub centre_fits : (f : Field) → Bytes f.value → ((centre_of f).x < 65536) × ((centre_of f).y < 65536)
unfolding centre_of
centre_fits f bytes =
    let v = f.value in
    let a = byte_at_lem v bytes 0 in
    let b = byte_at_lem v bytes 1 in
    let c = byte_at_lem v bytes 2 in
    let d = byte_at_lem v bytes 3 in
    (omega arith, omega arith)

pub centre_read_lem : (c : Centre) → c.x < 65536 → c.y < 65536 → centre_of (centre_field c) ≡ c
unfolding centre_of
centre_read_lem c p q =
    let x_back = u16_back c.x p in
    let y_back = u16_back c.y q in
    λ i. record { x = x_back i; y = y_back i }

pub centre_made : (c : Centre) → is_centre (centre_field c) ≡ true
unfolding is_centre
centre_made c = refl

-- ---- what stands before the centres, and what from them on

module _ (f : Field) (fs : List Field) where
  pub before_other : eqb f.tag centre_tag ≡ false → before_centres (f ∷ fs) ≡ f ∷ before_centres fs
  unfolding before_centres
  before_other e = rw e

  pub from_other : eqb f.tag centre_tag ≡ false → from_centres (f ∷ fs) ≡ from_centres fs
  unfolding from_centres
  from_other e = rw e

  pub before_centre : eqb f.tag centre_tag ≡ true → before_centres (f ∷ fs) ≡ []
  unfolding before_centres
  before_centre e = rw e

  pub from_centre : eqb f.tag centre_tag ≡ true → from_centres (f ∷ fs) ≡ f ∷ fs
  unfolding from_centres
  from_centre e = rw e

  cut_here : before_centres fs ++ from_centres fs ≡ fs → (b : Bool) → eqb f.tag centre_tag ≡ b → before_centres (f ∷ fs) ++ from_centres (f ∷ fs) ≡ f ∷ fs
  cut_here later true e = rw (before_centre e, from_centre e)
  cut_here later false e = rw (before_other e, from_other e) (ap (λ (gs : List Field). f ∷ gs) later)

pub cut_joined : (fs : List Field) → before_centres fs ++ from_centres fs ≡ fs
unfolding before_centres from_centres
cut_joined [] = refl
cut_joined (f ∷ fs) = cut_here f fs (cut_joined fs) (eqb f.tag centre_tag) refl

-- where no field of the first list has a centre's tag and every one of the second has
abbrev Moving : List Field → Type 0
Moving ms = Each (λ (f : Field). f.tag ≡ 3) ms

abbrev Placed : List Field → Type 0
Placed cs = Each (λ (f : Field). f.tag ≡ 4) cs

pub joined_before : (ms cs : List Field) → Moving ms → Placed cs → before_centres (ms ++ cs) ≡ ms
unfolding before_centres
joined_before [] [] h k = refl
joined_before [] (f ∷ cs) h (k, ks) = before_centre f cs (ap (λ (t : ℕ). eqb t centre_tag) k)
joined_before (f ∷ ms) cs (h, hs) ks =
    before_other f (ms ++ cs) (ap (λ (t : ℕ). eqb t centre_tag) h) ∙ ap (λ (gs : List Field). f ∷ gs) (joined_before ms cs hs ks)

pub joined_from : (ms cs : List Field) → Moving ms → Placed cs → from_centres (ms ++ cs) ≡ cs
unfolding from_centres
joined_from [] [] h k = refl
joined_from [] (f ∷ cs) h (k, ks) = from_centre f cs (ap (λ (t : ℕ). eqb t centre_tag) k)
joined_from (f ∷ ms) cs (h, hs) ks = from_other f (ms ++ cs) (ap (λ (t : ℕ). eqb t centre_tag) h) ∙ joined_from ms cs hs ks

-- ---- the layout

or_right : (b : Bool) → (b || true) ≡ true
or_right true = refl
or_right false = refl

module _ (cells : ℕ) where
  pub layout_states : (n : ℕ) (fs : List Field) → layout_good cells n fs ≡ true → Each IsState (take n fs)
  unfolding layout_good
  layout_states zero fs h = tt
  layout_states (suc n) [] h = absurd (false≢true h)
  layout_states (suc n) (f ∷ fs) h = (and_left (is_state f) (layout_good cells n fs) h, layout_states n fs (and_right (is_state f) (layout_good cells n fs) h))

  pub layout_enough : (n : ℕ) (fs : List Field) → layout_good cells n fs ≡ true → n ≤ length fs
  unfolding layout_good
  layout_enough zero fs h = omega arith
  layout_enough (suc n) [] h = absurd (false≢true h)
  layout_enough (suc n) (f ∷ fs) h = suc-le-suc (layout_enough n fs (and_right (is_state f) (layout_good cells n fs) h))

  layout_rest : (n : ℕ) (fs : List Field) → layout_good cells n fs ≡ true
      → (motions_laid (before_centres (drop n fs)) && centres_laid cells (from_centres (drop n fs))) ≡ true
  unfolding layout_good
  layout_rest zero fs h = h
  layout_rest (suc n) [] h = absurd (false≢true h)
  layout_rest (suc n) (f ∷ fs) h = layout_rest n fs (and_right (is_state f) (layout_good cells n fs) h)

  pub layout_motions : (n : ℕ) (fs : List Field) → layout_good cells n fs ≡ true → motions_laid (before_centres (drop n fs)) ≡ true
  layout_motions n fs h = and_left (motions_laid (before_centres (drop n fs))) (centres_laid cells (from_centres (drop n fs))) (layout_rest n fs h)

  pub layout_centres : (n : ℕ) (fs : List Field) → layout_good cells n fs ≡ true → centres_laid cells (from_centres (drop n fs)) ≡ true
  layout_centres n fs h = and_right (motions_laid (before_centres (drop n fs))) (centres_laid cells (from_centres (drop n fs))) (layout_rest n fs h)

  pub laid_out : (ss fs : List Field) → Each IsState ss → motions_laid (before_centres fs) ≡ true → centres_laid cells (from_centres fs) ≡ true
      → layout_good cells (length ss) (ss ++ fs) ≡ true
  unfolding layout_good
  laid_out [] fs h k l = simp (k, l)
  laid_out (s ∷ ss) fs (h, hs) k l = simp (h, laid_out ss fs hs k l)

  pub centres_laid_lem : (cs : List Field) → centres_laid cells cs ≡ true → ((length cs ≡ cells) ⊎ (length cs ≡ 0)) × Each IsCentre cs
  unfolding centres_laid
  centres_laid_lem cs h = (
    number (eqb (length cs) cells) refl,
    all_each IsCentre is_centre (λ f e. e) cs (and_left (all is_centre cs) (eqb (length cs) cells || eqb (length cs) 0) h),
  )
    where
      number : (b : Bool) → eqb (length cs) cells ≡ b → (length cs ≡ cells) ⊎ (length cs ≡ 0)
      number true e = inl (eqb-true (length cs) cells e)
      number false e = inr (eqb-true (length cs) 0 (rw e at (and_right (all is_centre cs) (eqb (length cs) cells || eqb (length cs) 0) h)))

  pub laid_centres : (cs : List Field) → (length cs ≡ cells) ⊎ (length cs ≡ 0) → Each IsCentre cs → centres_laid cells cs ≡ true
  unfolding centres_laid
  laid_centres cs (inl e) h = simp (each_all IsCentre is_centre (λ f e. e) cs h, eq-eqb (length cs) cells e)
  laid_centres cs (inr e) h = simp (each_all IsCentre is_centre (λ f e. e) cs h, eq-eqb (length cs) 0 e, or_right (eqb (length cs) cells))

pub motions_laid_lem : (ms : List Field) → motions_laid ms ≡ true → Each IsMotion ms × (length ms ≤ motion_limit)
unfolding motions_laid
motions_laid_lem ms h = (
  all_each IsMotion is_motion (λ f e. e) ms (and_left (all is_motion ms) (leb (length ms) motion_limit) h),
  leb-true (length ms) motion_limit (and_right (all is_motion ms) (leb (length ms) motion_limit) h),
)

pub laid_motions : (ms : List Field) → Each IsMotion ms → length ms ≤ motion_limit → motions_laid ms ≡ true
unfolding motions_laid
laid_motions ms h k = simp (each_all IsMotion is_motion (λ f e. e) ms h, le-leb (length ms) motion_limit k)

-- ---- the head

pub head_good_lem : (f : Field) → head_good f ≡ true → HeadField f
unfolding head_good
head_good_lem f h =
    let v = f.value in
    let a = eqb f.tag head_tag in
    let b = eqb (length v) head_size in
    let c = within 1 horizon_limit (u16_at v 0) in
    let d = within 1 cell_limit (u16_at v 2) in
    let e = within 1 state_limit (u16_at v 4) in
    let g = leb (get_or v 6 0) margin_limit in
    let k = and_left (a && b && c && d && e) g h in
    let (x, y, z) = and_three a b c (and_left (a && b && c) d (and_left (a && b && c && d) e k)) in
    record {
      tag_right = eqb-true f.tag head_tag x;
      size_right = eqb-true (length v) head_size y;
      horizon_range = within_range 1 horizon_limit (u16_at v 0) z;
      cells_range = within_range 1 cell_limit (u16_at v 2) (and_right (a && b && c) d (and_left (a && b && c && d) e k));
      states_range = within_range 1 state_limit (u16_at v 4) (and_right (a && b && c && d) e k);
      margin_range = leb-true _ _ (and_right (a && b && c && d && e) g h);
    }

pub good_head : (f : Field) → HeadField f → head_good f ≡ true
unfolding head_good
good_head f h =
    let v = f.value in
    simp (
      eq-eqb f.tag head_tag h.tag_right,
      eq-eqb (length v) head_size h.size_right,
      range_within 1 horizon_limit (u16_at v 0) h.horizon_range.0 h.horizon_range.1,
      range_within 1 cell_limit (u16_at v 2) h.cells_range.0 h.cells_range.1,
      range_within 1 state_limit (u16_at v 4) h.states_range.0 h.states_range.1,
      le-leb (get_or v 6 0) margin_limit h.margin_range,
    )

pub head_written : (f : Field) (site : Site) → HeadField f → Bytes f.value
    → site.horizon ≡ u16_at f.value 0 → site.cells ≡ u16_at f.value 2 → site.margin ≡ get_or f.value 6 0 → length site.states ≡ u16_at f.value 4
    → head_field site ≡ f
head_written f site h bytes horizon cells margin states =
    let v = f.value in
    let (a, b) = two_bytes v bytes 0 in
    let (c, d) = two_bytes v bytes 2 in
    let (g, k) = two_bytes v bytes 4 in
    field_is f _ _ h.tag_right (rw (horizon, cells, margin, states, a, b, c, d, g, k) (list_of v head_size h.size_right))

pub head_made : (site : Site) → WellFormed site → HeadField (head_field site)
head_made site well =
    let horizon = u16_back site.horizon (omega arith) in
    let cells = u16_back site.cells (omega arith) in
    let states = u16_back (length site.states) (omega arith) in
    record {
      tag_right = refl;
      size_right = refl;
      horizon_range = rw horizon well.horizon_range;
      cells_range = rw cells well.cells_range;
      states_range = rw states well.states_range;
      margin_range = well.margin_range;
    }

-- a good head is there, so it and the fields after it are all fields
pub head_first : (fs : List Field) → (get_or fs 0 no_field).tag ≡ head_tag → get_or fs 0 no_field ∷ drop 1 fs ≡ fs
head_first [] h = absurd (omega arith)
head_first (f ∷ fs) h = refl
