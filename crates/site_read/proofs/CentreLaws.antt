-- Laws of the centres of a site file that is laid out well: they end the file.
-- Assumes nothing.
use Prim.Native.Nat.{ℕ, zero, suc, ◌+◌, ◌*◌, ◌-◌, ◌≤◌, ◌<◌}
use mathlib.Core.Path.{◌≡◌, refl, sym, ap, ◌∙◌}
use mathlib.Core.List.{List, [], ◌∷◌, ◌++◌, map}
use mathlib.Core.Bool.{true}
use native.Mathlib.Omega.{arith}
use lib.ListN.{length, get_or, length-map}
use lib.Dec.{ltb}
use borrow.Author.Tests.{ltb-true, ltb-false}
use Rattle.meaning.specs.Basics.{all, u16_at}
use Rattle.meaning.specs.Fields.{Field, complete, listed}
use Rattle.meaning.specs.Site.{Centre, no_centre, site_of, state_count, from_centres, is_centre, centre_of, centre_at}
use Rattle.meaning.proofs.BasicsLaws.{decide, all_head, all_tail, each_all}
use Rattle.meaning.proofs.SiteFieldsLaws.{IsCentre, centre_parts, cut_joined, centres_laid_lem}
use Rattle.fields.specs.Places.{fields_at, field_at, Next}
use Rattle.fields.proofs.Laws.{listed_end, next_is, value_length, value_u16, room}
use Rattle.site_layout.specs.Laid.{centre_field, state_place, Laid}
use Rattle.site_layout.proofs.Laws.{laid_after, laid_placed, laid_centres}
use Rattle.site_read.proofs.Laws.{motions_at, motions_here, centres_later, motions_inside}

-- ---- where the centres start

pub record CentresFrom (file : List ℕ) (fs : List Field) (p : ℕ) : Type 0 where
  pub inside : p ≤ length file
  pub whole : complete (fields_at file p) ≡ true
  pub list : listed (fields_at file p) ≡ fs

-- behind the n fields before them
centres_from : (file : List ℕ) (n at : ℕ) → at ≤ length file → complete (fields_at file at) ≡ true → length (motions_at file at) ≡ n
    → (p : ℕ) × CentresFrom file (from_centres (listed (fields_at file at))) p
centres_from file zero at i w e = (at, record { inside = i; whole = w; list = sym (here (motions_at file at) e (cut_joined (listed (fields_at file at)))) })
  where
    here : (ms : List Field) → length ms ≡ 0 → ms ++ from_centres (listed (fields_at file at)) ≡ listed (fields_at file at)
        → from_centres (listed (fields_at file at)) ≡ listed (fields_at file at)
    here [] e same = same
    here (m ∷ ms) e same = absurd (omega arith)
centres_from file (suc n) at i w e =
    let more : 0 < length (motions_at file at) = omega arith in
    let x = next_is file at _ _ w (motions_inside file at more) refl refl in
    let size = ap length (motions_here file at _ x more) in
    let (p, later) = centres_from file n _ x.inside x.whole (omega arith) in
    (p, record { inside = later.inside; whole = later.whole; list = later.list ∙ sym (centres_later file at _ x more) })

-- ---- centres up to the end of a file

-- the centre i of those from the place at on
pub record CentreHere (file : List ℕ) (at i : ℕ) : Type 0 where
  pub x : (get_or (map centre_of (listed (fields_at file at))) i no_centre).x ≡ u16_at file (at + centre_field * i + 3)
  pub y : (get_or (map centre_of (listed (fields_at file at))) i no_centre).y ≡ u16_at file (at + centre_field * i + 5)

-- nothing is listed only at the end
nothing_left : (file : List ℕ) (at : ℕ) → at ≤ length file → complete (fields_at file at) ≡ true → length (listed (fields_at file at)) ≡ 0 → at ≡ length file
nothing_left file at i w e =
    decide (ltb at (length file))
    (λ l. absurd (let x = next_is file at _ _ w (ltb-true at (length file) l) refl refl in let some = ap length x.list in omega arith))
    (λ l. let end = ltb-false at (length file) l in omega arith)

something_left : (file : List ℕ) (at n : ℕ) → length (listed (fields_at file at)) ≡ suc n → at < length file
something_left file at n e =
    decide (ltb at (length file)) (λ l. ltb-true at (length file) l)
    (λ l. absurd (let none = ap length (listed_end file at (ltb-false at (length file) l)) in omega arith))

-- a centre that comes first
pub record FirstCentre (file : List ℕ) (at : ℕ) : Type 0 where
  pub next : Next file at (at + centre_field)
  pub x : (centre_of (field_at file at)).x ≡ u16_at file (at + 3)
  pub y : (centre_of (field_at file at)).y ≡ u16_at file (at + 5)

first_centre : (file : List ℕ) (at : ℕ) → complete (fields_at file at) ≡ true → at < length file → all is_centre (listed (fields_at file at)) ≡ true → FirstCentre file at
unfolding centre_of
first_centre file at w l placed =
    let n = u16_at file (at + 1) in
    let r = room file at n w l refl in
    let y = next_is file at n _ w l refl refl in
    let is = all_head is_centre _ _ (ap (all is_centre) (sym y.list) ∙ placed) in
    let size : n ≡ 4 = sym (value_length file at n refl r) ∙ (centre_parts (field_at file at) is).1 in
    let a : at + 3 + 0 ≡ at + 3 = omega arith in
    let b : at + 3 + 2 ≡ at + 5 = omega arith in
    record {
      next = next_is file at n (at + centre_field) w l refl (omega arith);
      x = value_u16 file at 0 (omega arith) ∙ ap (u16_at file) a;
      y = value_u16 file at 2 (omega arith) ∙ ap (u16_at file) b;
    }

pub record CentresEnd (file : List ℕ) (at n : ℕ) : Type 0 where
  pub ends : at + centre_field * n ≡ length file
  pub each : (i : ℕ) → i < n → CentreHere file at i

centres_end : (file : List ℕ) (n at : ℕ) → at ≤ length file → complete (fields_at file at) ≡ true → all is_centre (listed (fields_at file at)) ≡ true
    → length (listed (fields_at file at)) ≡ n → CentresEnd file at n
centres_end file zero at i w placed e = record { ends = let end = nothing_left file at i w e in omega arith; each = λ j l. absurd (omega arith) }
centres_end file (suc n) at i w placed e =
    let f = first_centre file at w (something_left file at n e) placed in
    let x = f.next in
    let size = ap length x.list in
    let later = centres_end file n (at + centre_field) x.inside x.whole (all_tail is_centre _ _ (ap (all is_centre) (sym x.list) ∙ placed)) (omega arith) in
    record { ends = let end = later.ends in omega arith; each = λ j l. each_centre f later j l }
  where
    each_centre : FirstCentre file at → CentresEnd file (at + centre_field) n → (j : ℕ) → j < suc n → CentreHere file at j
    each_centre f later zero l =
        let a : at + centre_field * 0 + 3 ≡ at + 3 = omega arith in
        let b : at + centre_field * 0 + 5 ≡ at + 5 = omega arith in
        record { x = rw (f.next.list, a) f.x; y = rw (f.next.list, b) f.y }
    each_centre f later (suc j) l =
        let c = later.each j (omega arith) in
        let a : at + centre_field * suc j + 3 ≡ at + centre_field + centre_field * j + 3 = omega arith in
        let b : at + centre_field * suc j + 5 ≡ at + centre_field + centre_field * j + 5 = omega arith in
        record { x = rw (f.next.list, a) c.x; y = rw (f.next.list, b) c.y }

-- ---- the centre of a cell

-- where its field starts
pub record CentrePlace (file : List ℕ) (cell at : ℕ) : Type 0 where
  pub inside : at + centre_field ≤ length file
  pub x : u16_at file (at + 3) ≡ (centre_at (site_of file) cell).x
  pub y : u16_at file (at + 5) ≡ (centre_at (site_of file) cell).y

module _ (file : List ℕ) (laid : Laid file) where
  abbrev start : ℕ
  start = state_place (state_count file)

  abbrev cs : List Field
  cs = from_centres (listed (fields_at file start))

  centres_start : (p : ℕ) × CentresFrom file cs p
  centres_start = centres_from file (length (motions_at file start)) start (laid_after file laid).inside (laid_after file laid).whole refl

  all_centres : all is_centre cs ≡ true
  all_centres = each_all IsCentre is_centre (λ f e. e) cs (centres_laid_lem (site_of file).cells cs (laid_placed file laid)).1

  count_same : length (site_of file).centres ≡ length cs
  count_same = ap length (laid_centres file laid) ∙ length-map cs centre_of

  pub centre_there : (n cell at : ℕ) → n ≡ length (site_of file).centres → cell < n → at ≡ length file - centre_field * (n - cell)
      → (centre_field * (n - cell) ≤ length file) × CentrePlace file cell at
  centre_there n cell at many known place =
      let (p, c) = centres_start in
      let size : length (listed (fields_at file p)) ≡ n = ap length c.list ∙ sym count_same ∙ sym many in
      let ended = centres_end file n p c.inside c.whole (ap (all is_centre) c.list ∙ all_centres) size in
      let ends = ended.ends in
      let here = ended.each cell known in
      let same : (site_of file).centres ≡ map centre_of (listed (fields_at file p)) = laid_centres file laid ∙ ap (map centre_of) (sym c.list) in
      let later : at ≡ p + centre_field * cell = omega arith in
      let a : p + centre_field * cell + 3 ≡ at + 3 = omega arith in
      let b : p + centre_field * cell + 5 ≡ at + 5 = omega arith in (
        omega arith,
        record {
          inside = omega arith;
          x = sym (ap (λ (xs : List Centre). (get_or xs cell no_centre).x) same ∙ here.x ∙ ap (u16_at file) a);
          y = sym (ap (λ (xs : List Centre). (get_or xs cell no_centre).y) same ∙ here.y ∙ ap (u16_at file) b);
        },
      )
