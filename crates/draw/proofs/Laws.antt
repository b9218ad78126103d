-- Laws of a light's steps by their number, and of what a site that can be drawn has.
-- Assumes nothing.
use Prim.Native.Nat.{ℕ, zero, suc, ◌+◌, ◌*◌, ◌≤◌, ◌<◌}
use native.Mathlib.Omega.{arith}
use mathlib.Core.Path.{◌≡◌, refl, sym, ap, ◌∙◌}
use mathlib.Core.Logic.{inl, inr}
use mathlib.Core.Bool.{Bool, true, ◌&&◌, ◌||◌, false≢true}
use mathlib.Core.List.{List, [], ◌∷◌, map}
use lib.Dec.{ltb}
use lib.ListN.{length, drop}
use borrow.Author.Tests.{ltb-true, ltb-false}
use denote.Enum.Declared.{tag_of}
use types.Run.{OneOf}
use Rattle.meaning.specs.Limits.{step_size}
use Rattle.meaning.specs.Basics.{all, u16_at}
use Rattle.meaning.specs.Fields.{Field, complete, listed}
use Rattle.meaning.specs.Site.{Site, site_of, cell_of, motion_at}
use Rattle.meaning.specs.Plan.{Step, wait, move}
use Rattle.meaning.specs.Light.{start_of, is_move, is_wait, in_layout, step_of, light_of}
use Rattle.meaning.specs.Calls.{step_named, light_named}
use Rattle.meaning.specs.WellFormed.{WellFormed}
use Rattle.meaning.specs.Pictures.{picture_from}
use Rattle.meaning.proofs.BasicsLaws.{decide, and_left, and_right, all_head, all_tail, every_at}
use Rattle.meaning.proofs.LightLaws.{move_tests, wait_tests}
use Rattle.meaning.proofs.MotionLaws.{cell_known, good_at}
use Rattle.meaning.proofs.CallLaws.{named_start}
use Rattle.meaning.proofs.SiteLaws.{read_well}
use Rattle.fields.specs.Places.{fields_at, field_at}
use Rattle.fields.proofs.Laws.{listed_end, complete_end, next_is, room, value_length}
use Rattle.light.specs.Sizes.{first_step, step_length, light_length}
use Rattle.light_steps.specs.Steps.{steps_from, laid_from, step_at}
use Rattle.light_steps.specs.declared.Step.{Step as LightStep}
use Rattle.light_steps.specs.declared.Step.TheVariants.{Wait, Move, End, Wrong}
use Rattle.light_steps.specs.contracts.Step.{the_type}
use Rattle.light_steps.proofs.StepLaws.{wait_on, end_on, wrong_laid}
use Rattle.light_read.proofs.HeadLaws.{accepted as accepted_light}
use Rattle.site_layout.specs.Laid.{state_place}
use Rattle.site.specs.declared.Sizes.{Sizes}
use Rattle.draw.specs.Drawable.{Drawable, LightDrawable}
use Rattle.draw.specs.Steps.{stands_in}

-- ---- the picture of a step, by the state in which it begins

module _ (site : Site) where
  pub at_step : (s : ℕ) (ps : List Step) (i k : ℕ) → picture_from site s ps i k ≡ picture_from site (stands_in site s ps i) (drop i ps) 0 k
  at_step s ps zero k = refl
  at_step s [] (suc i) k = refl
  at_step s (wait n ∷ ps) (suc i) k = at_step s ps i k
  at_step s (move m ∷ ps) (suc i) k = at_step (motion_at site m).to ps i k

  -- behind a motion it is that motion's to state
  pub behind_motion : (s : ℕ) (ps : List Step) (j m : ℕ) (qs : List Step) → drop j ps ≡ move m ∷ qs → stands_in site s ps (suc j) ≡ (motion_at site m).to
  behind_motion s ps zero m qs e = ap (λ (xs : List Step). stands_in site s xs 1) e
  behind_motion s [] (suc j) m qs e = absurd (let z = ap length e in omega arith)
  behind_motion s (wait n ∷ ps) (suc j) m qs e = behind_motion s ps j m qs e
  behind_motion s (move n ∷ ps) (suc j) m qs e = behind_motion (motion_at site n).to ps j m qs e

-- ---- the steps of a light by place: each has as many bytes

-- a field that the layout has is a step's
step_size_lem : (may : Bool) (f : Field) → (is_move f || (may && is_wait f)) ≡ true → length f.value ≡ step_size
step_size_lem may f h =
    decide (is_move f)
    (λ e. (move_tests f e).1)
    (λ e. (wait_tests f (and_right may (is_wait f) (rw e at h))).1)

layout_apart : (may : Bool) (f : Field) (fs : List Field) → in_layout may (f ∷ fs) ≡ true → ((is_move f || (may && is_wait f)) ≡ true) × (in_layout (is_move f) fs ≡ true)
unfolding in_layout
layout_apart may f fs h = (and_left _ (in_layout (is_move f) fs) h, and_right (is_move f || (may && is_wait f)) _ h)

-- the steps from the place at on, of which i are left behind
pub record StepsAt (s : List ℕ) (at i : ℕ) : Type 0 where
  pub may_wait : Bool
  pub laid : laid_from may_wait s (at + step_length * i) ≡ true
  pub steps : steps_from s (at + step_length * i) ≡ drop i (steps_from s at)

drop_none : (i : ℕ) → drop i (map step_of []) ≡ []
drop_none zero = refl
drop_none (suc i) = refl

-- behind the end there are none
at_end : (s : List ℕ) (at i : ℕ) → length s ≤ at → StepsAt s at i
unfolding laid_from steps_from in_layout
at_end s at i ended =
    let none = listed_end s at ended in
    let later = listed_end s (at + step_length * i) (omega arith) in
    record {
      may_wait = true;
      laid = rw (complete_end s (at + step_length * i) (omega arith), later);
      steps = rw (later, none) (sym (drop_none i));
    }

steps_at : (s : List ℕ) (i : ℕ) (may : Bool) (at : ℕ) → laid_from may s at ≡ true → StepsAt s at i
unfolding laid_from steps_from
steps_at s zero may at h =
    let z : at + step_length * 0 ≡ at = omega arith in
    record { may_wait = may; laid = rw z h; steps = rw z }
steps_at s (suc i) may at h =
    decide (ltb at (length s))
    (λ l.
    let whole = and_left (complete (fields_at s at)) (in_layout may (listed (fields_at s at))) h in
    let inside = ltb-true at (length s) l in
    let n = u16_at s (at + 1) in
    let x = next_is s at n _ whole inside refl refl in
    let (is, later) = layout_apart may (field_at s at) _ (ap (in_layout may) (sym x.list) ∙ and_right (complete (fields_at s at)) _ h) in
    let size : n ≡ step_size = sym (value_length s at n refl (room s at n whole inside refl)) ∙ step_size_lem may (field_at s at) is in
    let place : at + 3 + n ≡ at + step_length = omega arith in
    let rest = steps_at s i (is_move (field_at s at)) (at + step_length) (rw (← place) (simp (x.whole, later))) in
    let same : at + step_length * suc i ≡ at + step_length + step_length * i = omega arith in
    record {
      may_wait = rest.may_wait;
      laid = rw same rest.laid;
      steps = rw same (rest.steps ∙ ap (λ (ps : List Step). drop (suc i) ps) (sym (ap (map step_of) x.list ∙ ap (λ (k : ℕ). step_of (field_at s at) ∷ map step_of (listed (fields_at s k))) place)));
    })
    (λ l. at_end s at (suc i) (ltb-false at (length s) l))

-- ---- two steps, one after the other

is_motion_lem : (f : Field) → is_move f ≡ true → step_of f ≡ move (u16_at f.value 0)
is_motion_lem f e = rw (move_tests f e).0

first : {p q : Step} {ps qs : List Step} → p ∷ ps ≡ q ∷ qs → p ≡ q
first e = cc

not_both : {p : Step} {m n : ℕ} → move m ≡ p → p ≡ wait n → ⊥
not_both e f = let z : ◌≡◌ {A = ℕ} 0 1 = cc in omega arith

-- after a wait comes no wait
no_two_waits : (may : Bool) (fs : List Field) (j : ℕ) → in_layout may fs ≡ true → {m n : ℕ} {qs rs : List Step}
    → drop j (map step_of fs) ≡ wait m ∷ qs → drop (suc j) (map step_of fs) ≡ wait n ∷ rs → ⊥
no_two_waits may [] zero h e f = let z = ap length e in omega arith
no_two_waits may [] (suc j) h e f = let z = ap length e in omega arith
no_two_waits may (f ∷ []) zero h e g = let z = ap length g in omega arith
no_two_waits may (f ∷ g ∷ fs) zero h e k =
    decide (is_move f)
    (λ a. not_both (sym (is_motion_lem f a)) (first e))
    (λ a.
    let (is, _) = layout_apart (is_move f) g fs (layout_apart may f (g ∷ fs) h).1 in
    decide (is_move g) (λ b. not_both (sym (is_motion_lem g b)) (first k)) (λ b. false≢true (rw (a, b) at is)))
no_two_waits may (f ∷ fs) (suc j) h e k = no_two_waits (is_move f) fs j (layout_apart may f fs h).1 e k

none_later : (j : ℕ) (ps : List Step) {p : Step} {qs : List Step} → drop j ps ≡ [] → drop (suc j) ps ≡ p ∷ qs → ⊥
none_later zero [] e f = let z = ap length f in omega arith
none_later zero (p ∷ ps) e f = let z = ap length e in omega arith
none_later (suc j) [] e f = let z = ap length f in omega arith
none_later (suc j) (p ∷ ps) e f = none_later j ps e f

-- ---- the numbers that are left after an arm took its steps

pub rest_of_move : (r : LightStep) → ((m later : ℕ) → r ≡ Move m later → ⊥) → OneOf (0 ∷ 2 ∷ 3 ∷ []) (tag_of the_type r)
rest_of_move (Wait n later) _ = inl refl
rest_of_move (Move m later) other = absurd (other m later refl)
rest_of_move End _ = inr (inl refl)
rest_of_move Wrong _ = inr (inr refl)

pub rest_of_steps : (r : LightStep) → ((n later : ℕ) → r ≡ Wait n later → ⊥) → ((m later : ℕ) → r ≡ Move m later → ⊥) → OneOf (2 ∷ 3 ∷ []) (tag_of the_type r)
rest_of_steps (Wait n later) other _ = absurd (other n later refl)
rest_of_steps (Move m later) _ other = absurd (other m later refl)
rest_of_steps End _ _ = inl refl
rest_of_steps Wrong _ _ = inr refl

-- ---- a light that can be drawn

module _ (site : Site) (light : List ℕ) (d : LightDrawable site light) where
  abbrev steps : List Step
  steps = (light_of light).steps

  pub step_there : (i : ℕ) → StepsAt light first_step i
  step_there i = steps_at light i true first_step (accepted_light light d.lit).laid

  fields_laid : complete (fields_at light first_step) && in_layout true (listed (fields_at light first_step)) ≡ true
  unfolding laid_from
  fields_laid = (accepted_light light d.lit).laid

  steps_here : (i : ℕ) → steps_from light (light_length i) ≡ drop i (map step_of (listed (fields_at light first_step)))
  unfolding steps_from
  steps_here i = (step_there i).steps

  pub steps_there : (i : ℕ) → steps_from light (light_length i) ≡ drop i steps
  steps_there i = (step_there i).steps ∙ ap (drop i) (accepted_light light d.lit).steps

  -- a wait has a motion before it, where it is not the first step
  pub motion_before : (j n later : ℕ) (r : LightStep) → r ≡ step_at light (light_length j) → OneOf (0 ∷ 2 ∷ 3 ∷ []) (tag_of the_type r)
      → Wait n later ≡ step_at light (light_length (suc j)) → ⊥
  motion_before j n later (Wait m after) e met f =
      no_two_waits true (listed (fields_at light first_step)) j (and_right (complete (fields_at light first_step)) _ fields_laid)
      (sym (steps_here j) ∙ (wait_on light (light_length j) m after e).steps) (sym (steps_here (suc j)) ∙ (wait_on light (light_length (suc j)) n later f).steps)
  motion_before j n later (Move m after) e (inl met) f = absurd (omega arith)
  motion_before j n later (Move m after) e (inr (inl met)) f = absurd (omega arith)
  motion_before j n later (Move m after) e (inr (inr met)) f = absurd (omega arith)
  motion_before j n later End e met f =
      none_later j (map step_of (listed (fields_at light first_step))) (sym (steps_here j) ∙ end_on light (light_length j) e)
      (sym (steps_here (suc j)) ∙ (wait_on light (light_length (suc j)) n later f).steps)
  motion_before j n later Wrong e met f = false≢true (sym (wrong_laid (step_there j).may_wait light (light_length j) e) ∙ (step_there j).laid)

  pub start_known : (light_of light).start < length site.states
  unfolding light_named
  start_known = named_start site (start_of (light_of light)) _ _ (every_at _ d.named 0)

  all_named : all (step_named site) steps ≡ true
  unfolding light_named
  all_named = every_at _ d.named 2

  named_later : (ps : List Step) (i : ℕ) → all (step_named site) ps ≡ true → all (step_named site) (drop i ps) ≡ true
  named_later ps zero h = h
  named_later [] (suc i) h = h
  named_later (p ∷ ps) (suc i) h = named_later ps i (all_tail (step_named site) p ps h)

  pub motion_known : (i m : ℕ) (qs : List Step) → drop i steps ≡ move m ∷ qs → m < length site.motions
  motion_known i m qs e = ltb-true m _ (all_head (step_named site) (move m) qs (ap (all (step_named site)) (sym e) ∙ named_later steps i all_named))

  -- where no step stands, none is left
  pub no_step : (i : ℕ) (r : LightStep) → r ≡ step_at light (light_length i) → OneOf (2 ∷ 3 ∷ []) (tag_of the_type r) → drop i steps ≡ []
  no_step i (Wait n later) e (inl met) = absurd (omega arith)
  no_step i (Wait n later) e (inr met) = absurd (omega arith)
  no_step i (Move m later) e (inl met) = absurd (omega arith)
  no_step i (Move m later) e (inr met) = absurd (omega arith)
  no_step i End e met = sym (steps_there i) ∙ end_on light (light_length i) e
  no_step i Wrong e met = absurd (false≢true (sym (wrong_laid (step_there i).may_wait light (light_length i) e) ∙ (step_there i).laid))

-- ---- a site that can be drawn

module _ {file : List ℕ} {l : Sizes} (d : Drawable file l) where
  well : WellFormed (site_of file)
  well = read_well file _ d.read

  pub drawn_start : l.start ≡ state_place (length (site_of file).states)
  drawn_start = ap (λ (k : Sizes). k.start) d.sizes

  pub drawn_centres : l.centres ≡ length (site_of file).centres
  drawn_centres = ap (λ (k : Sizes). k.centres) d.sizes

  pub drawn_cell : (s : ℕ) → s < length (site_of file).states → cell_of (site_of file) s < l.centres
  drawn_cell s h = let c = drawn_centres in let e = d.centres in let k = cell_known (site_of file) well s h in omega arith

  pub drawn_from : (m : ℕ) → m < length (site_of file).motions → (motion_at (site_of file) m).from < length (site_of file).states
  drawn_from m h = (good_at (site_of file) well m h).from_below

  pub drawn_to : (m : ℕ) → m < length (site_of file).motions → (motion_at (site_of file) m).to < length (site_of file).states
  drawn_to m h = (good_at (site_of file) well m h).to_below
