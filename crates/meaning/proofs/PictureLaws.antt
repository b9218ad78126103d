-- The picture of a step is the one that the words say, and no other.
-- Assumes nothing.
use Prim.Native.Nat.{ℕ, zero, suc, ◌+◌, ◌*◌, ◌-◌, ◌≤◌, ◌<◌}
use native.Mathlib.Omega.{arith}
use native.Mathlib.Nat.{mul-add, add-mul}
use mathlib.Core.Path.{◌≡◌, refl, sym, ap, ap₂, ◌∙◌, subst}
use mathlib.Core.Logic.{◌⊎◌, inl, inr}
use mathlib.Core.Bool.{Bool, true, false, ◌||◌, true≢false}
use mathlib.Core.List.{List, [], ◌∷◌, ◌++◌, append_assoc}
use lib.Dec.{leb, ltb, eqb}
use lib.ListN.{length, length-append}
use borrow.Author.Tests.{leb-true, leb-false, ltb-false, eqb-false, not-false}
use Rattle.meaning.specs.Limits.{last_frame}
use Rattle.meaning.specs.Answers.{lowest, accepted, refused, answer}
use Rattle.meaning.specs.Site.{Site, Centre, motion_at, site_of, site_refusals, read_site}
use Rattle.meaning.specs.Plan.{Step, wait, move}
use Rattle.meaning.specs.Light.{Light, light_of, is_light}
use Rattle.meaning.specs.Calls.{light_named}
use Rattle.meaning.specs.WellFormed.{InLayout}
use Rattle.meaning.specs.Pictures.{Place, Picture, off_floor, standing_at, rolling_at, state_centre, place_on, between, place_between, picture_from, picture_of, picture_refusals, draw_refusals, draw_meant}
use Rattle.meaning.specs.DrawnPictures.{Drawn, DrawnBetween, OnCentre, Shown, past_last, first_wait, later_wait, motion}
use Rattle.meaning.specs.Laws.{PicturesRight}
use Rattle.meaning.proofs.BasicsLaws.{decide}
use Rattle.meaning.proofs.AnswersLaws.{accepted_answer, lowest_none, lowest_append, lowest_front, rise_none, site_rise}
use Rattle.meaning.proofs.SiteLaws.{read_site_lem, read_well}

-- ---- coordinates

-- a sixteenth of the way for each frame
pub ahead_is : (k old new : ℕ) → k ≤ 16 → old ≤ new → between k old new ≡ 16 * old + k * (new - old)
ahead_is k old new hk h =
    let j = 16 - k in
    let d = new - old in
    let whole : (j + k) * old ≡ 16 * old = let e : j + k ≡ 16 = omega arith in ap (λ (n : ℕ). n * old) e in
    let there : k * new ≡ k * (old + d) = let e : new ≡ old + d = omega arith in ap (λ (n : ℕ). k * n) e in
    omega (arith, add-mul j k old, mul-add k old d)

pub back_is : (k old new : ℕ) → k ≤ 16 → new ≤ old → between k old new + k * (old - new) ≡ 16 * old
back_is k old new hk h =
    let j = 16 - k in
    let d = old - new in
    let whole : (j + k) * old ≡ 16 * old = let e : j + k ≡ 16 = omega arith in ap (λ (n : ℕ). n * old) e in
    let there : k * old ≡ k * (new + d) = let e : old ≡ new + d = omega arith in ap (λ (n : ℕ). k * n) e in
    omega (arith, add-mul j k old, mul-add k new d)

drawn_between : (k old new : ℕ) → k ≤ 16 → Drawn k old new (between k old new)
drawn_between k old new hk = record { ahead = ahead_is k old new hk; back = back_is k old new hk }

only_between : (k old new n : ℕ) → k ≤ 16 → Drawn k old new n → n ≡ between k old new
only_between k old new n hk d =
    decide (leb old new)
    (λ q. let h = leb-true old new q in d.ahead h ∙ sym (ahead_is k old new hk h))
    (λ q.
    let h : new ≤ old = let l = leb-false old new q in omega arith in
    let e = d.back h in
    let f = back_is k old new hk h in
    omega arith)

module _ (a b : Centre) where
  place_between_lem : (k : ℕ) → k ≤ 16 → DrawnBetween k a b (place_between k a b)
  place_between_lem k hk = record { across = drawn_between k a.x b.x hk; down = drawn_between k a.y b.y hk }

  only_place : (k : ℕ) (p : Place) → k ≤ 16 → DrawnBetween k a b p → p ≡ place_between k a b
  only_place k p hk d =
      ap₂ {C = Place} (λ x y. record { x = x; y = y }) (only_between k a.x b.x p.x hk d.across) (only_between k a.y b.y p.y hk d.down)

  first_frame : OnCentre a (place_between 0 a b)
  first_frame = (omega arith, omega arith)

  last_frame_lem : OnCentre b (place_between 16 a b)
  last_frame_lem = (omega arith, omega arith)

only_on : (c : Centre) (p : Place) → OnCentre c p → p ≡ place_on c
only_on c p (x, y) = ap₂ {C = Place} (λ x y. record { x = x; y = y }) x y

-- ---- steps

module _ (site : Site) where
  past : (s : ℕ) (ps : List Step) (i k : ℕ) → length ps ≤ i → picture_from site s ps i k ≡ off_floor
  past s [] i k h = refl
  past s (wait n ∷ ps) zero k h = absurd (omega arith)
  past s (wait n ∷ ps) (suc i) k h = past s ps i k (omega arith)
  past s (move m ∷ ps) zero k h = absurd (omega arith)
  past s (move m ∷ ps) (suc i) k h = past (motion_at site m).to ps i k (omega arith)

  -- the state behind some steps
  abbrev pub state_behind : ℕ → List Step → ℕ
  state_behind s [] = s
  state_behind s (wait n ∷ ps) = state_behind s ps
  state_behind s (move m ∷ ps) = state_behind (motion_at site m).to ps

  pub skip : (s : ℕ) (before later : List Step) (k : ℕ)
      → picture_from site s (before ++ later) (length before) k ≡ picture_from site (state_behind s before) later 0 k
  skip s [] later k = refl
  skip s (wait n ∷ ps) later k = skip s ps later k
  skip s (move m ∷ ps) later k = skip (motion_at site m).to ps later k

  pub behind_motion : (s m : ℕ) (ps : List Step) → state_behind s (ps ++ move m ∷ []) ≡ (motion_at site m).to
  behind_motion s m [] = refl
  behind_motion s m (wait j ∷ ps) = behind_motion s m ps
  behind_motion s m (move j ∷ ps) = behind_motion (motion_at site j).to m ps

  -- step `length before + 1`, behind a motion
  skip_motion : (s m : ℕ) (before later : List Step) (k : ℕ)
      → picture_from site s (before ++ move m ∷ later) (length before + 1) k ≡ picture_from site (motion_at site m).to later 0 k
  skip_motion s m before later k =
      let all : before ++ move m ∷ later ≡ (before ++ move m ∷ []) ++ later = sym (append_assoc before (move m ∷ []) later) in
      let size : length before + 1 ≡ length (before ++ move m ∷ []) = sym (length-append before (move m ∷ [])) in
      ap₂ (λ (ps : List Step) (i : ℕ). picture_from site s ps i k) all size
      ∙ skip s (before ++ move m ∷ []) later k
      ∙ ap (λ (x : ℕ). picture_from site x later 0 k) (behind_motion s m before)

  module _ (l : Light) (k : ℕ) (hk : k ≤ 16) where
    abbrev drawn : List Step → ℕ → Picture
    drawn ps i = picture_from site l.start ps i k

    only_shown : (i : ℕ) (p : Picture) → Shown site l k i p → p ≡ picture_of site l i k
    unfolding picture_of
    only_shown i _ (past_last h) = sym (past l.start l.steps i k h)
    only_shown i _ (first_wait {p = p} n later z e on) =
        ap standing_at (only_on _ p on) ∙ sym (ap₂ drawn e z)
    only_shown i _ (later_wait {p = p} before m n later z e on) =
        ap standing_at (only_on _ p on) ∙ sym (ap₂ drawn e z ∙ skip_motion l.start m before (wait n ∷ later) k)
    only_shown i _ (motion {p = p} before m later z e d) =
        ap (λ (q : Place). rolling_at q k) (only_place _ _ k p hk d) ∙ sym (ap₂ drawn e z ∙ skip l.start before (move m ∷ later) k)

    -- ---- what stands before a step, by which a wait may come

    -- some steps, the state behind them, and whether a wait may come
    data Behind : Bool → List Step → ℕ → Type 0 where
      nothing : {qs : List Step} {s : ℕ} → qs ≡ [] → s ≡ l.start → Behind true qs s
      a_motion : {qs : List Step} {s : ℕ} (ps : List Step) (m : ℕ) → qs ≡ ps ++ move m ∷ [] → s ≡ (motion_at site m).to → Behind true qs s
      a_wait : {qs : List Step} {s : ℕ} → Behind false qs s

    shows_wait : (before later : List Step) (s n : ℕ) → l.steps ≡ before ++ wait n ∷ later → Behind true before s
        → Shown site l k (length before) (standing_at (place_on (state_centre site s)))
    shows_wait before later s n e (nothing q z) =
        first_wait n later (ap length q) (e ∙ ap (λ (ps : List Step). ps ++ wait n ∷ later) q)
        (subst (λ (x : ℕ). OnCentre (state_centre site x) (place_on (state_centre site s))) z (refl, refl))
    shows_wait before later s n e (a_motion ps m q z) =
        later_wait ps m n later (ap length q ∙ length-append ps (move m ∷ []))
        (e ∙ ap (λ (xs : List Step). xs ++ wait n ∷ later) q ∙ append_assoc ps (move m ∷ []) (wait n ∷ later))
        (subst (λ (x : ℕ). OnCentre (state_centre site x) (place_on (state_centre site s))) z (refl, refl))

    shows : (before rest : List Step) (may : Bool) (s : ℕ) → l.steps ≡ before ++ rest → Behind may before s → InLayout may rest
        → (i : ℕ) → Shown site l k (length before + i) (picture_from site s rest i k)
    shows before [] may s e b laid i = past_last {i = length before + i} (let n = ap length e ∙ length-append before [] in omega arith)
    shows before (wait n ∷ ps) may s e b (can, least, most, laid) zero =
        let z : length before + 0 ≡ length before = omega arith in
        subst (λ (j : ℕ). Shown site l k j (standing_at (place_on (state_centre site s)))) (sym z)
        (shows_wait before ps s n e (subst (λ (x : Bool). Behind x before s) can b))
    shows before (move m ∷ ps) may s e b (most, laid) zero = motion {i = length before + 0} before m ps (omega arith) e (place_between_lem _ _ k hk)
    shows before (wait n ∷ ps) may s e b (can, least, most, laid) (suc i) =
        let size : length (before ++ wait n ∷ []) + i ≡ length before + suc i = let z = length-append before (wait n ∷ []) in omega arith in
        subst (λ (j : ℕ). Shown site l k j (picture_from site s ps i k)) size
        (shows (before ++ wait n ∷ []) ps false s (e ∙ sym (append_assoc before (wait n ∷ []) ps)) a_wait laid i)
    shows before (move m ∷ ps) may s e b (most, laid) (suc i) =
        let size : length (before ++ move m ∷ []) + i ≡ length before + suc i = let z = length-append before (move m ∷ []) in omega arith in
        subst (λ (j : ℕ). Shown site l k j (picture_from site (motion_at site m).to ps i k)) size
        (shows (before ++ move m ∷ []) ps true (motion_at site m).to (e ∙ sym (append_assoc before (move m ∷ []) ps)) (a_motion before m refl refl) laid i)

    all_shown : InLayout true l.steps → (i : ℕ) → Shown site l k i (picture_of site l i k)
    unfolding picture_of
    all_shown laid i =
        let z : 0 + i ≡ i = omega arith in
        subst (λ (j : ℕ). Shown site l k j (picture_from site l.start l.steps i k)) z (shows [] l.steps true l.start refl (nothing refl refl) laid i)

-- ---- the call

pub draw_accepted : (file light : List ℕ) (i k : ℕ) → lowest (draw_refusals file light k) ≡ 0
    → draw_meant file light i k ≡ accepted (picture_of (site_of file) (light_of light) i k)
unfolding draw_meant
draw_accepted file light i k e = accepted_answer _ _ e

pub draw_refused : (file light : List ℕ) (i k n : ℕ) → lowest (draw_refusals file light k) ≡ suc n → draw_meant file light i k ≡ refused (suc n)
unfolding draw_meant answer
draw_refused file light i k n e = ap (answer (picture_of (site_of file) (light_of light) i k)) e

-- a refused site is refused with its own number, and an accepted one leaves the others
pub site_refused : (file light : List ℕ) (i k n : ℕ) → read_site file ≡ refused n → draw_meant file light i k ≡ refused n
unfolding read_site draw_refusals answer
site_refused file light i k n e = by (lowest (site_refusals file)) refl e
  where
    by : (m : ℕ) → lowest (site_refusals file) ≡ m → answer (site_of file) m ≡ refused n → draw_meant file light i k ≡ refused n
    by zero q same = absurd (let z : ◌≡◌ {A = ℕ} 0 1 = cc in omega arith)
    by (suc m) q same = draw_refused file light i k m (lowest_front (site_refusals file) _ (suc m) q (omega arith)) ∙ (let number : suc m ≡ n = cc in ap refused number)

pub site_passed : (file light : List ℕ) (k : ℕ) → read_site file ≡ accepted (site_of file)
    → lowest (draw_refusals file light k) ≡ lowest (picture_refusals (site_of file) light k)
unfolding draw_refusals
site_passed file light k e =
    lowest_append (site_refusals file) _ (lowest_none (site_refusals file) (site_rise file) (read_site_lem file _ e).0)

-- what no refusal leaves to draw
pub record CanDraw (file light : List ℕ) (k : ℕ) : Type 0 where
  pub lit : is_light light ≡ true
  pub named : light_named (site_of file) (light_of light) ≡ true
  pub frame : k ≤ 16
  pub centres : length (site_of file).centres ≡ (site_of file).cells

pub can_draw : (file light : List ℕ) (k : ℕ) → read_site file ≡ accepted (site_of file) → lowest (draw_refusals file light k) ≡ 0 → CanDraw file light k
unfolding picture_refusals
can_draw file light k read e =
    let site = site_of file in
    let (a, (b, (c, _))) = rise_none 7 (picture_refusals site light k) (omega arith, (omega arith, (omega arith, tt))) (sym (site_passed file light k read) ∙ e) in
    record {
      lit = not-false _ a;
      named = not-false _ b;
      frame = ltb-false last_frame k (or_left (ltb last_frame k) _ c);
      centres = elim (read_well file site read).centres_number [
        | inl all ↦ all
        | inr none ↦ absurd (eqb-false (length site.centres) 0 (or_right (ltb last_frame k) _ c) none)
      ];
    }
  where
    or_left : (a b : Bool) → (a || b) ≡ false → a ≡ false
    or_left true b h = h
    or_left false b h = refl

    or_right : (a b : Bool) → (a || b) ≡ false → b ≡ false
    or_right true b h = absurd (true≢false h)
    or_right false b h = h

pub pictures_right : PicturesRight
pictures_right = record {
  shown = λ site l laid i k hk. all_shown site l k hk laid i;
  only_shown = λ site l i k p hk s. only_shown site l k hk i p s;
  first_frame = first_frame;
  last_frame = last_frame_lem;
  drawn = draw_accepted;
  refused_by = draw_refused;
}
