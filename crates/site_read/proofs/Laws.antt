-- Laws of the states and the motions of a site file that is laid out well.
-- Assumes nothing.
use Prim.Native.Nat.{ℕ, ◌+◌, ◌*◌, ◌≤◌, ◌<◌}
use mathlib.Core.Path.{◌≡◌, refl, sym, ap, ◌∙◌}
use mathlib.Core.List.{List, ◌∷◌, map}
use mathlib.Core.Bool.{Bool, true, false}
use native.Mathlib.Omega.{arith}
use lib.ListN.{length, get_or, take, drop, set, length-drop, length-map}
use lib.Seq.{drop-drop, get_or-drop, drop_at, take-add, length-take-le, get_or-set_same, get_or-set_other}
use lib.Dec.{ltb, eqb}
use borrow.Author.Tests.{eqb-true, eqb-false, ltb-true, ltb-false}
use Rattle.meaning.specs.Limits.{motion_limit, sweep_limit, centre_tag, motion_size, sweep_size}
use Rattle.meaning.specs.Basics.{all, u16_at}
use Rattle.meaning.specs.Answers.{accepted}
use Rattle.meaning.specs.Fields.{Field, listed}
use Rattle.meaning.specs.Site.{Motion, Site, no_motion, site_of, state_count, before_centres, from_centres, is_motion, sweep_count, motion_of, sweeps_of, read_site}
use Rattle.meaning.proofs.BasicsLaws.{decide, all_head, all_tail}
use Rattle.meaning.proofs.SiteFieldsLaws.{motion_parts, before_other, from_other, before_centre}
use Rattle.meaning.proofs.SiteLaws.{read_passes}
use Rattle.fields.specs.declared.Header.{Header}
use Rattle.fields.specs.Places.{fields_at, field_at, Next, Whole}
use Rattle.fields.proofs.Laws.{listed_end, next_is, value_length, value_byte, value_u16}
use Rattle.site_sweeps.specs.Places.{sweeps_at}
use Rattle.site_layout.specs.Laid.{state_place, Laid}
use Rattle.site_layout.proofs.Laws.{laid_count, laid_after, laid_all, laid_motions}
use Rattle.site_layout.proofs.Laws as Layout
use Rattle.site_read.specs.Motions.{Motions, MotionPlace}

-- a file that is read is laid out well
pub read_laid : (file : List ℕ) (site : Site) → read_site file ≡ accepted site → Laid file
read_laid file site e = let p = read_passes file site e in record { whole = p.whole; head = p.head; layout = p.layout }

-- ---- a motion by place

-- n is the length of its value
pub record MotionHere (file : List ℕ) (at n : ℕ) : Type 0 where
  pub some_sweeps : 1 ≤ sweep_count n
  pub few_sweeps : sweep_count n ≤ sweep_limit
  pub size : n ≡ motion_size + sweep_size * sweep_count n
  pub from : (motion_of (field_at file at)).from ≡ u16_at file (at + 3)
  pub to : (motion_of (field_at file at)).to ≡ u16_at file (at + 3 + 2)
  pub span : (motion_of (field_at file at)).span ≡ get_or file (at + 3 + 4) 0
  pub sweeps : (motion_of (field_at file at)).sweeps ≡ sweeps_at file (at + 3 + motion_size) (sweep_count n)

drop_take : (i m : ℕ) (l : List ℕ) → i ≤ length l → drop i (take (i + m) l) ≡ take m (drop i l)
drop_take i m l p = ap (drop i) (take-add i m l) ∙ drop_at (take i l) _ i (length-take-le i l p)

value_is : (file : List ℕ) (at n : ℕ) → n ≡ u16_at file (at + 1) → (field_at file at).value ≡ take n (drop (at + 3) file)
unfolding field_at
value_is file at n h = rw h

motion_sweeps : (file : List ℕ) (at n k : ℕ) → n ≡ u16_at file (at + 1) → at + 3 + n ≤ length file → n ≡ motion_size + sweep_size * k
    → (motion_of (field_at file at)).sweeps ≡ sweeps_at file (at + 3 + motion_size) k
unfolding motion_of sweeps_at
motion_sweeps file at n k h q e =
    let d = length-drop (at + 3) file in
    ap sweeps_of (ap (drop motion_size) (value_is file at n h ∙ ap (λ (j : ℕ). take j (drop (at + 3) file)) e)
    ∙ drop_take motion_size (sweep_size * k) (drop (at + 3) file) (omega arith)
    ∙ rw (drop-drop motion_size (at + 3) file))

motion_here : (file : List ℕ) (at n : ℕ) → n ≡ u16_at file (at + 1) → at + 3 + n ≤ length file → is_motion (field_at file at) ≡ true → MotionHere file at n
unfolding motion_of
motion_here file at n h q e =
    let (_, lo, hi, s) = rw (value_length file at n h q) at (motion_parts (field_at file at) e) in
    let a : at + 3 + 0 ≡ at + 3 = omega arith in
    record {
      some_sweeps = lo;
      few_sweeps = hi;
      size = s;
      from = value_u16 file at 0 (omega arith) ∙ ap (u16_at file) a;
      to = value_u16 file at 2 (omega arith);
      span = value_byte file at 4 (omega arith);
      sweeps = motion_sweeps file at n (sweep_count n) h q s;
    }

-- the same, by what the reader says of its field
pub record MotionRead (file : List ℕ) (at : ℕ) (h : Header) : Type 0 where
  pub inside : h.start + motion_size + sweep_size * sweep_count h.len ≤ length file
  pub from : (motion_of (field_at file at)).from ≡ u16_at file h.start
  pub to : (motion_of (field_at file at)).to ≡ u16_at file (h.start + 2)
  pub span : (motion_of (field_at file at)).span ≡ get_or file (h.start + 4) 0
  pub sweeps : (motion_of (field_at file at)).sweeps ≡ sweeps_at file (h.start + motion_size) (sweep_count h.len)

pub motion_read : (file : List ℕ) (at : ℕ) (h : Header) → Whole file at h → is_motion (field_at file at) ≡ true → MotionRead file at h
motion_read file at h w e =
    let s = sym w.start in
    let n = w.next in
    let i = w.inside in
    let x = motion_here file at h.len w.len (omega arith) e in
    let z = x.size in
    record {
      inside = omega arith;
      from = x.from ∙ ap (u16_at file) s;
      to = x.to ∙ ap (λ (k : ℕ). u16_at file (k + 2)) s;
      span = x.span ∙ ap (λ (k : ℕ). get_or file (k + 4) 0) s;
      sweeps = x.sweeps ∙ ap (λ (k : ℕ). sweeps_at file (k + motion_size) (sweep_count h.len)) s;
    }

-- ---- the motions from a place on

-- the fields before the centres, from a place on
abbrev pub motions_at : List ℕ → ℕ → List Field
motions_at file at = before_centres (listed (fields_at file at))

-- where one is left, it is the field at the place
pub motions_here : (file : List ℕ) (at r : ℕ) → Next file at r → 0 < length (motions_at file at) → motions_at file at ≡ field_at file at ∷ motions_at file r
motions_here file at r x more =
    decide (eqb (field_at file at).tag centre_tag)
    (λ t. absurd (let none = ap length (ap before_centres x.list ∙ before_centre _ _ t) in omega arith))
    (λ t. ap before_centres x.list ∙ before_other _ _ t)

pub centres_later : (file : List ℕ) (at r : ℕ) → Next file at r → 0 < length (motions_at file at)
    → from_centres (listed (fields_at file at)) ≡ from_centres (listed (fields_at file r))
centres_later file at r x more =
    decide (eqb (field_at file at).tag centre_tag)
    (λ t. absurd (let none = ap length (ap before_centres x.list ∙ before_centre _ _ t) in omega arith))
    (λ t. ap from_centres x.list ∙ from_other _ _ t)

-- and the file goes on
pub motions_inside : (file : List ℕ) (at : ℕ) → 0 < length (motions_at file at) → at < length file
unfolding before_centres
motions_inside file at more =
    decide (ltb at (length file)) (λ e. ltb-true at (length file) e)
    (λ e. absurd (let none = ap (λ (fs : List Field). length (before_centres fs)) (listed_end file at (ltb-false at (length file) e)) in omega arith))

-- where the motions of a file start
pub laid_start : (file : List ℕ) (start : ℕ) → Laid file → start ≡ state_place (length (site_of file).states)
    → Motions file start × ((site_of file).motions ≡ map motion_of (motions_at file start))
laid_start file start d e =
    let c = laid_count file d in
    let s : start ≡ state_place (state_count file) = omega arith in
    let y = laid_after file d in
    (rw s (record { inside = y.inside; whole = y.whole; motions = laid_all file d }), rw s (laid_motions file d))

pub laid_few : (file : List ℕ) → Laid file → length (site_of file).motions ≤ motion_limit
laid_few file d =
    let few = Layout.laid_few file d in
    let m : length (site_of file).motions ≡ length (motions_at file (state_place (state_count file))) = ap length (laid_motions file d) ∙ simp length-map in
    omega arith

-- ---- the index

-- the motions from the place at on, where n motions lie before it
pub record Reached (file : List ℕ) (at n : ℕ) : Type 0 where
  pub motions : Motions file at
  pub list : map motion_of (motions_at file at) ≡ drop n (site_of file).motions
  pub count : n + length (motions_at file at) ≡ length (site_of file).motions

pub reached_first : (file : List ℕ) (start : ℕ) → Laid file → start ≡ state_place (length (site_of file).states) → Reached file start 0
reached_first file start d e =
    let x = laid_start file start d e in
    let c : length (site_of file).motions ≡ length (motions_at file start) = ap length x.1 ∙ simp length-map in
    record { motions = x.0; list = sym x.1; count = omega arith }

module _ (file : List ℕ) (at n : ℕ) (m : Reached file at n) (more : n < length (site_of file).motions) where
  left : 0 < length (motions_at file at)
  left = let c = m.count in omega arith

  -- where a motion is left, the file goes on
  pub reached_inside : at < length file
  reached_inside = motions_inside file at left

  pub reached_next : (r : ℕ) → Next file at r → Reached file r (n + 1)
  reached_next r x =
      let here = motions_here file at r x left in
      let size = ap length here in
      let c = m.count in
      record {
        motions = record { inside = x.inside; whole = x.whole; motions = all_tail is_motion _ _ (ap (all is_motion) (sym here) ∙ m.motions.motions) };
        list = ap (drop 1) (sym (ap (map motion_of) here) ∙ m.list) ∙ drop-drop 1 n (site_of file).motions;
        count = omega arith;
      }

  pub reached_place : MotionPlace file n at
  reached_place =
      let x = next_is file at _ _ m.motions.whole reached_inside refl refl in
      let here = motions_here file at _ x left in
      let z : n + 0 ≡ n = omega arith in
      record {
        inside = reached_inside;
        whole = m.motions.whole;
        laid = all_head is_motion _ _ (ap (all is_motion) (sym here) ∙ m.motions.motions);
        motion =
            ap (λ (ms : List Motion). get_or ms 0 no_motion) (sym (ap (map motion_of) here) ∙ m.list)
            ∙ get_or-drop n (site_of file).motions 0 no_motion ∙ ap (λ (k : ℕ). get_or (site_of file).motions k no_motion) z;
      }

-- a list that is filled from the front
pub filled : (P : ℕ → ℕ → Type 0) (xs : List ℕ) (n v : ℕ) → n < length xs → ((k : ℕ) → k < n → P k (get_or xs k 0)) → P n v
    → (k : ℕ) → k < n + 1 → P k (get_or (set xs n v) k 0)
filled P xs n v l f p k q = go (eqb k n) refl
  where
    go : (b : Bool) → eqb k n ≡ b → P k (get_or (set xs n v) k 0)
    go true e = rw (eqb-true k n e, get_or-set_same xs n v 0 l) p
    go false e = let d = eqb-false k n e in rw (get_or-set_other xs n k v 0 d) (f k (omega arith))
