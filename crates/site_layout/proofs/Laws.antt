-- Laws of a site file's head, states and motions, by place.
-- Assumes nothing.
use Prim.Native.Nat.{ℕ, zero, suc, ◌+◌, ◌*◌, ◌-◌, ◌≤◌, ◌<◌}
use mathlib.Core.Path.{◌≡◌, refl, sym, ap, ◌∙◌, subst}
use mathlib.Core.List.{List, [], ◌∷◌, map}
use mathlib.Core.Bool.{Bool, true, false, ◌&&◌, true≢false, and-false}
use native.Mathlib.Omega.{arith}
use lib.ListN.{length, get_or, take, drop}
use lib.Dec.{leb, eqb}
use borrow.Author.Tests.{eqb-true, eqb-false, leb-true, leb-false, le-leb, lt-leb, ne_eqb}
use Rattle.std.specs.Prelude.{Option, Some, None}
use Rattle.std.specs.Bool.{then_some}
use Rattle.std.specs.Option.{option_eq, MatchOption}
use Rattle.meaning.specs.Limits.{state_limit, motion_limit, centre_tag, head_size, state_size}
use Rattle.meaning.specs.Basics.{all, u16_at}
use Rattle.meaning.specs.Fields.{Field, no_field, Fields, fields, complete, listed}
use Rattle.meaning.specs.Site.{no_state, head_of, later_of, state_count, head_good, is_state, is_motion, is_centre, motions_laid, centres_laid, layout_good, before_centres, from_centres, state_of, motion_of, centre_of, site_of}
use Rattle.meaning.proofs.BasicsLaws.{decide, and_left, and_right, all_head, all_tail}
use Rattle.meaning.proofs.SiteFieldsLaws.{head_good_lem, state_parts, motion_parts, before_other, from_other, before_centre, from_centre}
use Rattle.meaning.proofs.SiteLaws.{state_number}
use Rattle.fields.specs.declared.Header.{Header}
use Rattle.fields.specs.Places.{fields_at, field_at, Next, Whole}
use Rattle.fields.proofs.Laws.{by_place, whole_at, at_next, room, listed_end, listed_next, value_length, field_tag, value_byte, value_u16, next_is, whole_listed, whole_length, fields_all_hit, fields_all_miss}
use Rattle.site_layout.specs.Laid.{first_is, tagged, head_values, motion_length, leading, head_field, state_field, state_place, Laid, StateValue}

-- ---- the first field from a place on

pub first_of : (p : Field → Bool) (f : Field) (fs gs : List Field) → fs ≡ f ∷ gs → first_is p fs ≡ p f
unfolding first_is
first_of p f fs gs h = rw h

pub first_none : (p : Field → Bool) (file : List ℕ) (at : ℕ) → listed (fields_at file at) ≡ [] → first_is p (listed (fields_at file at)) ≡ false
unfolding first_is
first_none p file at none = rw none

-- the header of a whole field
header_there : (file : List ℕ) (at : ℕ) → at + 3 + u16_at file (at + 1) ≤ length file → (h : Header) × Whole file at h
header_there file at r = (
  record { tag = get_or file at 0; start = at + 3; len = u16_at file (at + 1); next = at + 3 + u16_at file (at + 1) },
  record { tag = refl; start = refl; len = refl; next = refl; inside = r; fields = at_next file at _ refl r },
)

-- ---- the head

headed : (file : List ℕ) (fs : List Field) → listed (fields_at file 0) ≡ fs → head_of file ≡ get_or fs 0 no_field
unfolding head_of
headed file fs e = ap (λ (x : Fields). get_or (listed x) 0 no_field) (sym (whole_at file)) ∙ ap (λ (x : List Field). get_or x 0 no_field) e

head_none : (file : List ℕ) → listed (fields_at file 0) ≡ [] → head_good (head_of file) ≡ false
unfolding head_good
head_none file none = rw (headed file _ none)

module _ (file : List ℕ) (h : Header) (w : Whole file 0 h) where
  head_is : head_of file ≡ field_at file 0
  head_is = headed file _ (whole_listed file 0 h w)

  tag_here : (head_of file).tag ≡ h.tag
  tag_here = ap (λ (f : Field). f.tag) head_is ∙ field_tag file 0 ∙ sym w.tag

  length_here : length (head_of file).value ≡ h.len
  length_here = ap (λ (f : Field). length f.value) head_is ∙ whole_length file 0 h w

  head_tag_lem : (h.tag ≡ 1 → ⊥) → head_good (head_of file) ≡ false
  unfolding head_good
  head_tag_lem d = simp (tag_here, ne_eqb h.tag 1 d)

  head_length : (h.len ≡ head_size → ⊥) → head_good (head_of file) ≡ false
  unfolding head_good
  head_length d = simp (length_here, ne_eqb h.len head_size d, and-false)

  head_values_lem : h.tag ≡ 1 → h.len ≡ head_size → head_good (head_of file) ≡ head_values file h.start
  unfolding head_good head_values
  head_values_lem p q =
      let n = w.len in
      let t : (field_at file 0).tag ≡ 1 = field_tag file 0 ∙ sym w.tag ∙ p in
      let l : length (field_at file 0).value ≡ head_size = whole_length file 0 h w ∙ q in
      simp (head_is, t, l, w.start, value_u16 file 0 0 (omega arith), value_u16 file 0 2 (omega arith), value_u16 file 0 4 (omega arith), value_byte file 0 6 (omega arith))

  pub head_by : head_good (head_of file) ≡ ((eqb h.tag 1 && eqb h.len 7) && head_values file h.start)
  head_by =
      decide (eqb h.tag 1)
      (λ t.
      decide (eqb h.len 7)
      (λ l. head_values_lem (eqb-true h.tag 1 t) (eqb-true h.len 7 l) ∙ sym (simp (t, l)))
      (λ l. head_length (eqb-false h.len 7 l) ∙ sym (simp (t, l))))
      (λ t. head_tag_lem (eqb-false h.tag 1 t) ∙ sym (simp t))

-- a head that is good
pub record HeadHere (file : List ℕ) : Type 0 where
  pub long : head_field ≤ length file
  pub size : u16_at file 1 ≡ head_size
  pub whole : complete (fields_at file head_field) ≡ true
  pub later : later_of file ≡ listed (fields_at file head_field)
  pub horizon : (site_of file).horizon ≡ u16_at file 3
  pub cells : (site_of file).cells ≡ u16_at file 5
  pub count : state_count file ≡ u16_at file 7
  pub margin : (site_of file).margin ≡ get_or file 9 0

pub head_here : (file : List ℕ) → complete (fields file) ≡ true → head_good (head_of file) ≡ true → HeadHere file
unfolding listed later_of state_count site_of
head_here file w g =
    by_place file 0
    (λ p i. absurd (true≢false (sym g ∙ head_none file (listed_end file 0 p))))
    (λ p i. absurd (true≢false (sym g ∙ head_none file (ap listed p))))
    (λ r. go r (eqb (u16_at file 1) head_size) refl)
  where
    go : 0 + 3 + u16_at file 1 ≤ length file → (b : Bool) → eqb (u16_at file 1) head_size ≡ b → HeadHere file
    go r false q =
        let h : Header = record { tag = get_or file 0 0; start = 3; len = u16_at file 1; next = 3 + u16_at file 1 } in
        let x : Whole file 0 h = record { tag = refl; start = refl; len = refl; next = refl; inside = r; fields = at_next file 0 _ refl r } in
        absurd (true≢false (sym g ∙ head_length file h x (eqb-false (u16_at file 1) head_size q)))
    go r true q =
        let e = eqb-true (u16_at file 1) head_size q in
        let k : 0 < length file = omega arith in
        let x = next_is file 0 _ head_field (ap complete (whole_at file) ∙ w) k refl (omega arith) in
        let z = ap listed (sym (whole_at file)) ∙ x.list in
        let h = headed file _ x.list in
        record {
          long = omega arith;
          size = e;
          whole = x.whole;
          later = ap (drop 1) z;
          horizon = rw h (value_u16 file 0 0 (omega arith));
          cells = rw h (value_u16 file 0 2 (omega arith));
          count = rw h (value_u16 file 0 4 (omega arith));
          margin = rw h (value_byte file 0 6 (omega arith));
        }

-- its values, where the reader says that they start
pub record HeadRead (file : List ℕ) (h : Header) : Type 0 where
  pub inside : h.start + head_size ≤ length file
  pub next : h.next ≡ head_field
  pub horizon : u16_at file h.start ≡ (site_of file).horizon
  pub cells : u16_at file (h.start + 2) ≡ (site_of file).cells
  pub count : u16_at file (h.start + 4) ≡ state_count file
  pub margin : get_or file (h.start + 6) 0 ≡ (site_of file).margin

pub head_read : (file : List ℕ) → HeadHere file → (h : Header) → Whole file 0 h → HeadRead file h
head_read file x h w =
    let s : h.start ≡ 3 = w.start in
    record {
      inside = omega (arith, x.long);
      next = omega (arith, x.size, w.len, w.next);
      horizon = ap (u16_at file) s ∙ sym x.horizon;
      cells = ap (λ (k : ℕ). u16_at file (k + 2)) s ∙ sym x.cells;
      count = ap (λ (k : ℕ). u16_at file (k + 4)) s ∙ sym x.count;
      margin = ap (λ (k : ℕ). get_or file (k + 6) 0) s ∙ sym x.margin;
    }

-- ---- a field's test, by what the reader says of it

module _ (file : List ℕ) (at : ℕ) (h : Header) (w : Whole file at h) where
  tag_there : (field_at file at).tag ≡ h.tag
  tag_there = field_tag file at ∙ sym w.tag

  pub tagged_is : (tag : ℕ) → tagged tag (listed (fields_at file at)) ≡ then_some (eqb h.tag tag) h.len
  unfolding tagged
  tagged_is tag = rw (whole_listed file at h w, tag_there, whole_length file at h w)

pub tagged_none : (tag : ℕ) (file : List ℕ) (at : ℕ) → listed (fields_at file at) ≡ [] → tagged tag (listed (fields_at file at)) ≡ None
unfolding tagged
tagged_none tag file at none = rw none

-- ---- a field's test, by its tag and length

some_is : (b : Bool) (n m : ℕ) → option_eq eqb (then_some b n) (Some m) ≡ (b && eqb n m)
some_is true n m = refl
some_is false n m = refl

-- where the tag is found, the value is there
pub tagged_inside : (tag : ℕ) (file : List ℕ) (at m : ℕ) → option_eq eqb (tagged tag (listed (fields_at file at))) (Some m) ≡ true → at + 3 + m ≤ length file
unfolding listed
tagged_inside tag file at m e =
    by_place file at
    (λ p i. absurd (true≢false (sym e ∙ none (listed_end file at p))))
    (λ p i. absurd (true≢false (sym e ∙ none (ap listed p))))
    here
  where
    none : listed (fields_at file at) ≡ [] → option_eq eqb (tagged tag (listed (fields_at file at))) (Some m) ≡ false
    none q = rw (tagged_none tag file at q)

    here : at + 3 + u16_at file (at + 1) ≤ length file → at + 3 + m ≤ length file
    here r =
        let (h, w) = header_there file at r in
        let t = rw (tagged_is file at h w tag, some_is (eqb h.tag tag) h.len m) at e in
        let l = eqb-true h.len m (and_right (eqb h.tag tag) (eqb h.len m) t) in
        let i = w.inside in
        let n = w.next in
        let s = w.start in
        omega arith

pub head_tests : (file : List ℕ) → head_good (head_of file) ≡ (option_eq eqb (tagged 1 (listed (fields_at file 0))) (Some 7) && head_values file 3)
unfolding listed
head_tests file =
    by_place file 0
    (λ p i. none (listed_end file 0 p))
    (λ p i. none (ap listed p))
    here
  where
    none : listed (fields_at file 0) ≡ [] → head_good (head_of file) ≡ (option_eq eqb (tagged 1 (listed (fields_at file 0))) (Some 7) && head_values file 3)
    none q = head_none file q ∙ sym (rw (tagged_none 1 file 0 q))

    here : 0 + 3 + u16_at file 1 ≤ length file → head_good (head_of file) ≡ (option_eq eqb (tagged 1 (listed (fields_at file 0))) (Some 7) && head_values file 3)
    here r =
        let (h, w) = header_there file 0 r in
        head_by file h w ∙ sym (rw (tagged_is file 0 h w 1, some_is (eqb h.tag 1) h.len 7, sym w.start))

pub state_tagged : (fs : List Field) → option_eq eqb (tagged 2 fs) (Some state_size) ≡ first_is is_state fs
unfolding tagged first_is is_state
state_tagged [] = refl
state_tagged (f ∷ fs) = decide (eqb f.tag 2) (λ e. simp e) (λ e. simp e)

pub motion_tagged : (fs : List Field) (o : Option ℕ) (r : Bool) → o ≡ tagged 3 fs → MatchOption o (r ≡ false) (λ n. r ≡ motion_length n) → r ≡ first_is is_motion fs
unfolding tagged first_is is_motion motion_length
motion_tagged fs o r e m = go fs (subst (λ (k : Option ℕ). MatchOption k (r ≡ false) (λ n. r ≡ motion_length n)) e m)
  where
    by : (f : Field) (b : Bool) → eqb f.tag 3 ≡ b → MatchOption (then_some b (length f.value)) (r ≡ false) (λ n. r ≡ motion_length n) → r ≡ is_motion f
    by f true t k = simp t k
    by f false t k = simp t k

    go : (fs : List Field) → MatchOption (tagged 3 fs) (r ≡ false) (λ n. r ≡ motion_length n) → r ≡ first_is is_motion fs
    go [] k = k
    go (f ∷ fs) k = by f (eqb f.tag 3) refl k

pub centre_tagged : (fs : List Field) → option_eq eqb (tagged 4 fs) (Some 4) ≡ first_is is_centre fs
unfolding tagged first_is is_centre
centre_tagged [] = refl
centre_tagged (f ∷ fs) = decide (eqb f.tag 4) (λ e. simp e) (λ e. simp e)

-- ---- 4: the motions that come first, and the centres

leading_hit : (f : Field) (fs : List Field) → is_motion f ≡ true → leading (f ∷ fs) ≡ suc (leading fs)
unfolding leading
leading_hit f fs e = rw e

leading_miss : (f : Field) (fs : List Field) → is_motion f ≡ false → leading (f ∷ fs) ≡ 0
unfolding leading
leading_miss f fs e = rw e

-- by whether a motion comes first
pub leading_none : (fs : List Field) → first_is is_motion fs ≡ false → leading fs ≡ 0
unfolding leading first_is
leading_none [] e = refl
leading_none (f ∷ fs) e = leading_miss f fs e

pub leading_next : (f : Field) (fs gs : List Field) → fs ≡ f ∷ gs → first_is is_motion fs ≡ true → leading fs ≡ suc (leading gs)
leading_next f fs gs h e = ap leading h ∙ leading_hit f gs (sym (first_of is_motion f fs gs h) ∙ e)

-- a motion is no centre
motion_other : (f : Field) → is_motion f ≡ true → eqb f.tag centre_tag ≡ false
motion_other f e = ap (λ (t : ℕ). eqb t centre_tag) (motion_parts f e).0

centre_no_motion : (f : Field) → eqb f.tag centre_tag ≡ true → is_motion f ≡ false
centre_no_motion f t = decide (is_motion f) (λ e. absurd (true≢false (sym t ∙ motion_other f e))) (λ e. e)

other_no_centre : (f : Field) → eqb f.tag centre_tag ≡ false → is_centre f ≡ false
unfolding is_centre
other_no_centre f t = simp t

-- where all fields before the centres are motions, these are the motions that come first
pub record Cut (fs : List Field) : Type 0 where
  pub motions : before_centres fs ≡ take (leading fs) fs
  pub count : length (before_centres fs) ≡ leading fs
  pub centres : from_centres fs ≡ drop (leading fs) fs

pub cut_there : (fs : List Field) → all is_motion (before_centres fs) ≡ true → Cut fs
unfolding before_centres from_centres leading
cut_there [] h = record { motions = refl; count = refl; centres = refl }
cut_there (f ∷ fs) h = by (eqb f.tag centre_tag) refl (cut_there fs)
  where
    by : (b : Bool) → eqb f.tag centre_tag ≡ b → (all is_motion (before_centres fs) ≡ true → Cut fs) → Cut (f ∷ fs)
    by true t later =
        let none = leading_miss f fs (centre_no_motion f t) in
        record {
          motions = before_centre f fs t ∙ sym (ap (λ (n : ℕ). take n (f ∷ fs)) none);
          count = ap length (before_centre f fs t) ∙ sym none;
          centres = from_centre f fs t ∙ sym (ap (λ (n : ℕ). drop n (f ∷ fs)) none);
        }
    by false t later =
        let moving : all is_motion (f ∷ before_centres fs) ≡ true = ap (all is_motion) (sym (before_other f fs t)) ∙ h in
        let some = leading_hit f fs (all_head is_motion f (before_centres fs) moving) in
        let c = later (all_tail is_motion f (before_centres fs) moving) in
        record {
          motions = before_other f fs t ∙ ap (λ (gs : List Field). f ∷ gs) c.motions ∙ sym (ap (λ (n : ℕ). take n (f ∷ fs)) some);
          count = ap length (before_other f fs t) ∙ ap suc c.count ∙ sym some;
          centres = from_other f fs t ∙ c.centres ∙ sym (ap (λ (n : ℕ). drop n (f ∷ fs)) some);
        }

-- and where one is not, what follows the first motions is not all centres
no_cut : (fs : List Field) → all is_motion (before_centres fs) ≡ false → all is_centre (drop (leading fs) fs) ≡ false
unfolding before_centres leading all
no_cut [] h = absurd (true≢false h)
no_cut (f ∷ fs) h = by (eqb f.tag centre_tag) refl (is_motion f) refl (no_cut fs)
  where
    by : (b : Bool) → eqb f.tag centre_tag ≡ b → (m : Bool) → is_motion f ≡ m
        → (all is_motion (before_centres fs) ≡ false → all is_centre (drop (leading fs) fs) ≡ false) → all is_centre (drop (leading (f ∷ fs)) (f ∷ fs)) ≡ false
    by true t m e later = absurd (true≢false (ap (all is_motion) (sym (before_centre f fs t)) ∙ h))
    by false t true e later =
        ap (λ (n : ℕ). all is_centre (drop n (f ∷ fs))) (leading_hit f fs e) ∙ later (sym (all_here e) ∙ ap (all is_motion) (sym (before_other f fs t)) ∙ h)
      where
        all_here : is_motion f ≡ true → all is_motion (f ∷ before_centres fs) ≡ all is_motion (before_centres fs)
        all_here e = fields_all_hit is_motion f (f ∷ before_centres fs) (before_centres fs) refl e
    by false t false e later =
        ap (λ (n : ℕ). all is_centre (drop n (f ∷ fs))) (leading_miss f fs e) ∙ fields_all_miss is_centre f (f ∷ fs) fs refl (other_no_centre f t)

-- so the rest of a file is laid out well exactly if few motions come first and what follows them are the centres
pub rest_few : (cells : ℕ) (fs : List Field) → motion_limit < leading fs → layout_good cells 0 fs ≡ false
unfolding layout_good motions_laid
rest_few cells fs many =
    decide (all is_motion (before_centres fs))
    (λ h. let long = lt-leb (length (before_centres fs)) motion_limit (subst (λ (n : ℕ). motion_limit < n) (sym (cut_there fs h).count) many) in simp (h, long))
    (λ h. simp h)

pub rest_is : (cells : ℕ) (fs : List Field) → leading fs ≤ motion_limit → layout_good cells 0 fs ≡ centres_laid cells (drop (leading fs) fs)
unfolding layout_good motions_laid centres_laid
rest_is cells fs few =
    decide (all is_motion (before_centres fs))
    (λ h.
    let c = cut_there fs h in
    let short = le-leb (length (before_centres fs)) motion_limit (subst (λ (n : ℕ). n ≤ motion_limit) (sym c.count) few) in
    simp (h, short) (ap (centres_laid cells) c.centres))
    (λ h. simp (h, no_cut fs h))

-- ---- the states of the layout

module _ (cells : ℕ) where
  pub layout_none : (fs : List Field) (n : ℕ) → n ≡ 0 → layout_good cells n fs ≡ layout_good cells 0 fs
  layout_none fs n e = rw e

  pub layout_miss : (fs : List Field) (n : ℕ) → 0 < n → first_is is_state fs ≡ false → layout_good cells n fs ≡ false
  unfolding layout_good first_is
  layout_miss fs zero p e = absurd (omega arith)
  layout_miss [] (suc n) p e = refl
  layout_miss (f ∷ fs) (suc n) p e = rw e

  layout_hit : (f : Field) (fs : List Field) (n : ℕ) → 0 < n → is_state f ≡ true → layout_good cells n (f ∷ fs) ≡ layout_good cells (n - 1) fs
  unfolding layout_good
  layout_hit f fs zero p e = absurd (omega arith)
  layout_hit f fs (suc n) p e = let m : suc n - 1 ≡ n = omega arith in rw (e, m)

  layout_first : (fs : List Field) (n : ℕ) → 0 < n → layout_good cells n fs ≡ true → first_is is_state fs ≡ true
  unfolding layout_good first_is
  layout_first fs zero p e = absurd (omega arith)
  layout_first [] (suc n) p e = absurd (true≢false (sym e))
  layout_first (f ∷ fs) (suc n) p e = and_left (is_state f) (layout_good cells n fs) e

-- where a field comes first, the file goes on
pub first_inside : (p : Field → Bool) (file : List ℕ) (at : ℕ) → first_is p (listed (fields_at file at)) ≡ true → at < length file
first_inside p file at e = go (leb (suc at) (length file)) refl
  where
    go : (b : Bool) → leb (suc at) (length file) ≡ b → at < length file
    go true q = leb-true (suc at) (length file) q
    go false q = absurd (true≢false (sym e ∙ first_none p file at (listed_end file at (ended q))))
      where
        ended : leb (suc at) (length file) ≡ false → length file ≤ at
        ended q = let l = leb-false (suc at) (length file) q in omega arith

-- a state comes first, where n states are to come
pub layout_next : (cells : ℕ) (file : List ℕ) (at r n : ℕ) → 0 < n → first_is is_state (listed (fields_at file at)) ≡ true → Next file at r
    → layout_good cells n (listed (fields_at file at)) ≡ layout_good cells (n - 1) (listed (fields_at file r))
layout_next cells file at r n p e x = ap (layout_good cells n) x.list ∙ layout_hit cells _ _ n p (sym (first_of is_state _ _ _ x.list) ∙ e)

-- ---- the states

-- a state whose field starts at the place at
pub record StateHere (cells : ℕ) (file : List ℕ) (at n : ℕ) : Type 0 where
  pub inside : at + state_field ≤ length file
  pub whole : complete (fields_at file (at + state_field)) ≡ true
  pub list : listed (fields_at file at) ≡ field_at file at ∷ listed (fields_at file (at + state_field))
  pub layout : layout_good cells n (listed (fields_at file at)) ≡ layout_good cells (n - 1) (listed (fields_at file (at + state_field)))
  pub cell : (state_of (field_at file at)).cell ≡ u16_at file (at + 3)
  pub speed : (state_of (field_at file at)).speed ≡ get_or file (at + 5) 0

-- where n states are to come and the layout is good, the next is there
state_here : (cells : ℕ) (file : List ℕ) (at n : ℕ) → 0 < n → complete (fields_at file at) ≡ true → layout_good cells n (listed (fields_at file at)) ≡ true → StateHere cells file at n
unfolding state_of
state_here cells file at n l w e =
    let f = layout_first cells _ n l e in
    let p = first_inside is_state file at f in
    let r = room file at _ w p refl in
    let i = sym (first_of is_state _ _ _ (listed_next file at _ refl r)) ∙ f in
    let z = sym (value_length file at _ refl r) ∙ (state_parts (field_at file at) i).1 in
    let x = next_is file at _ (at + state_field) w p refl (omega arith) in
    let a : at + 3 + 0 ≡ at + 3 = omega arith in
    let b : at + 3 + 2 ≡ at + 5 = omega arith in
    record {
      inside = x.inside;
      whole = x.whole;
      list = x.list;
      layout = layout_next cells file at (at + state_field) n l f x;
      cell = value_u16 file at 0 (omega arith) ∙ ap (u16_at file) a;
      speed = value_byte file at 2 (omega arith) ∙ ap (λ (k : ℕ). get_or file k 0) b;
    }

-- the state i of n from the place at on
pub record StateAt (file : List ℕ) (at n i : ℕ) : Type 0 where
  pub inside : at + state_field * i + state_field ≤ length file
  pub cell : (get_or (map state_of (take n (listed (fields_at file at)))) i no_state).cell ≡ u16_at file (at + state_field * i + 3)
  pub speed : (get_or (map state_of (take n (listed (fields_at file at)))) i no_state).speed ≡ get_or file (at + state_field * i + 5) 0

state_at_lem : (cells : ℕ) (file : List ℕ) (i at n : ℕ) → i < n → complete (fields_at file at) ≡ true → layout_good cells n (listed (fields_at file at)) ≡ true → StateAt file at n i
state_at_lem cells file i at zero p w e = absurd (omega arith)
state_at_lem cells file zero at (suc n) p w e =
    let x = state_here cells file at (suc n) (omega arith) w e in
    let a : at + state_field * 0 + 3 ≡ at + 3 = omega arith in
    let b : at + state_field * 0 + 5 ≡ at + 5 = omega arith in
    record {
      inside = let y = x.inside in omega arith;
      cell = rw (x.list, a) x.cell;
      speed = rw (x.list, b) x.speed;
    }
state_at_lem cells file (suc i) at (suc n) p w e =
    let x = state_here cells file at (suc n) (omega arith) w e in
    let m : suc n - 1 ≡ n = omega arith in
    let l : layout_good cells n (listed (fields_at file (at + state_field))) ≡ true = rw (← m) (sym x.layout ∙ e) in
    let y = state_at_lem cells file i (at + state_field) n (omega arith) x.whole l in
    let a : at + state_field * suc i + 3 ≡ at + state_field + state_field * i + 3 = omega arith in
    let b : at + state_field * suc i + 5 ≡ at + state_field + state_field * i + 5 = omega arith in
    record {
      inside = let z = y.inside in omega arith;
      cell = rw (x.list, a) y.cell;
      speed = rw (x.list, b) y.speed;
    }

-- what follows n states
pub record AfterStates (cells : ℕ) (file : List ℕ) (at n : ℕ) : Type 0 where
  pub inside : at + state_field * n ≤ length file
  pub whole : complete (fields_at file (at + state_field * n)) ≡ true
  pub list : drop n (listed (fields_at file at)) ≡ listed (fields_at file (at + state_field * n))
  pub layout : layout_good cells 0 (listed (fields_at file (at + state_field * n))) ≡ true

after_states : (cells : ℕ) (file : List ℕ) (n at : ℕ) → at ≤ length file → complete (fields_at file at) ≡ true → layout_good cells n (listed (fields_at file at)) ≡ true
    → AfterStates cells file at n
after_states cells file zero at i w e =
    let a : at + state_field * 0 ≡ at = omega arith in
    record {
      inside = omega arith;
      whole = rw a w;
      list = rw a;
      layout = rw a e;
    }
after_states cells file (suc n) at i w e =
    let x = state_here cells file at (suc n) (omega arith) w e in
    let m : suc n - 1 ≡ n = omega arith in
    let l : layout_good cells n (listed (fields_at file (at + state_field))) ≡ true = rw (← m) (sym x.layout ∙ e) in
    let y = after_states cells file n (at + state_field) x.inside x.whole l in
    let a : at + state_field * suc n ≡ at + state_field + state_field * n = omega arith in
    record {
      inside = let z = y.inside in omega arith;
      whole = rw a y.whole;
      list = rw (x.list, a) y.list;
      layout = rw a y.layout;
    }

-- ---- a file that is laid out well
module _ (file : List ℕ) (laid : Laid file) where
  laid_head : HeadHere file
  laid_head = head_here file laid.whole laid.head

  pub states_few : state_count file ≤ state_limit
  unfolding state_count
  states_few = (head_good_lem (head_of file) laid.head).states_range.1

  laid_layout : layout_good (site_of file).cells (state_count file) (listed (fields_at file head_field)) ≡ true
  laid_layout = rw laid_head.later at laid.layout

  pub laid_after : AfterStates (site_of file).cells file head_field (state_count file)
  laid_after = after_states (site_of file).cells file (state_count file) head_field laid_head.long laid_head.whole laid_layout

  laid_states : (site_of file).states ≡ map state_of (take (state_count file) (listed (fields_at file head_field)))
  unfolding site_of
  laid_states = rw laid_head.later

  -- the fields behind the states: the motions that come first, and the centres
  abbrev rest : List Field
  rest = listed (fields_at file (state_place (state_count file)))

  laid_moving : motions_laid (before_centres rest) ≡ true
  unfolding layout_good
  laid_moving = and_left (motions_laid (before_centres rest)) (centres_laid (site_of file).cells (from_centres rest)) laid_after.layout

  pub laid_all : all is_motion (before_centres rest) ≡ true
  unfolding motions_laid
  laid_all = and_left (all is_motion (before_centres rest)) (leb (length (before_centres rest)) motion_limit) laid_moving

  pub laid_few : length (before_centres rest) ≤ motion_limit
  unfolding motions_laid
  laid_few = leb-true (length (before_centres rest)) motion_limit (and_right (all is_motion (before_centres rest)) (leb (length (before_centres rest)) motion_limit) laid_moving)

  pub laid_cut : Cut rest
  laid_cut = cut_there rest laid_all

  pub laid_placed : centres_laid (site_of file).cells (from_centres rest) ≡ true
  unfolding layout_good
  laid_placed = and_right (motions_laid (before_centres rest)) (centres_laid (site_of file).cells (from_centres rest)) laid_after.layout

  pub laid_motions : (site_of file).motions ≡ map motion_of (before_centres rest)
  unfolding site_of
  laid_motions = rw (laid_head.later, laid_after.list)

  pub laid_centres : (site_of file).centres ≡ map centre_of (from_centres rest)
  unfolding site_of
  laid_centres = rw (laid_head.later, laid_after.list)

  pub laid_count : length (site_of file).states ≡ state_count file
  laid_count = state_number file laid.layout

  laid_state : (i : ℕ) → i < length (site_of file).states → StateAt file head_field (state_count file) i
  laid_state i p = let e = laid_count in state_at_lem (site_of file).cells file i head_field (state_count file) (omega arith) laid_head.whole laid_layout

  pub laid_small : (i : ℕ) → i < length (site_of file).states → i < 65536
  laid_small i p = omega (arith, laid_count, states_few)

  pub laid_value : (i r : ℕ) → i < length (site_of file).states → r ≡ state_place i → StateValue file i (r + 3)
  laid_value i r p e =
      let x = laid_state i p in
      let b : state_place i + 5 ≡ state_place i + 3 + 2 = omega arith in
      rw e (record { inside = omega (arith, x.inside); cell = rw laid_states x.cell; speed = rw laid_states (x.speed ∙ ap (λ (k : ℕ). get_or file k 0) b) })
