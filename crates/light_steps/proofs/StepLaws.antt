-- Laws of a light's steps by place: what the step at a place says of the fields from there on.
-- Assumes nothing.
use Prim.Native.Nat.{ℕ, ◌+◌, ◌≤◌, ◌<◌}
use native.Mathlib.Omega.{arith}
use mathlib.Core.Path.{◌≡◌, refl, sym, ap, ◌∙◌}
use mathlib.Core.Bool.{Bool, true, false, not, ◌&&◌, ◌||◌, false≢true, and-false}
use mathlib.Core.List.{List, [], ◌∷◌}
use lib.Dec.{eqb}
use lib.ListN.{length}
use borrow.Author.Tests.{ne_eqb, eqb-true, eqb-false}
use Rattle.meaning.specs.Limits.{move_tag, wait_tag, step_size}
use Rattle.meaning.specs.Basics.{is_zero, u16_at}
use Rattle.meaning.specs.Fields.{Field, Fields, end, cut, next, complete, listed}
use Rattle.meaning.specs.Light.{is_move, is_wait, in_layout, step_of}
use Rattle.meaning.specs.Plan as Plan
use Rattle.meaning.proofs.BasicsLaws.{decide, not_zero}
use Rattle.meaning.proofs.LightLaws.{move_tests, wait_tests}
use Rattle.fields.specs.declared.Header.{Header}
use Rattle.fields.specs.Places.{fields_at, field_at, Whole}
use Rattle.fields.proofs.Laws.{at_end, at_next, by_place, value_length, value_u16, field_tag, whole_length}
use Rattle.light_steps.specs.Steps.{steps_from, laid_from, step_by, step_in, step_of_first, step_at}
use Rattle.light_steps.specs.declared.Step.TheVariants.{Wait, Move, End, Wrong}

-- ---- the step in a field, from the numbers of its header

pub in_size : (tag len n later : ℕ) → (len ≡ step_size → ⊥) → step_in tag len n later ≡ Wrong
unfolding step_in
in_size tag len n later h = rw (ne_eqb len step_size h) (go (eqb tag move_tag) (eqb tag wait_tag))
  where
    go : (a b : Bool) → step_by (a && false) ((b && false) && not (is_zero n)) n later ≡ Wrong
    go true true = refl
    go true false = refl
    go false true = refl
    go false false = refl

module _ (tag len n later : ℕ) (size : len ≡ step_size) where
  pub in_move : tag ≡ move_tag → step_in tag len n later ≡ Move n later
  unfolding step_in
  in_move e = rw (e, size)

  pub in_other : (tag ≡ move_tag → ⊥) → (tag ≡ wait_tag → ⊥) → step_in tag len n later ≡ Wrong
  unfolding step_in
  in_other e f = rw (ne_eqb tag move_tag e, ne_eqb tag wait_tag f)

  pub in_zero : (tag ≡ move_tag → ⊥) → n ≡ 0 → step_in tag len n later ≡ Wrong
  unfolding step_in
  in_zero e z = rw (ne_eqb tag move_tag e, size, z) (go (eqb tag wait_tag))
    where
      go : (b : Bool) → step_by false ((b && true) && false) 0 later ≡ Wrong
      go true = refl
      go false = refl

  pub in_wait : tag ≡ wait_tag → 1 ≤ n → step_in tag len n later ≡ Wait n later
  unfolding step_in
  in_wait e p = rw (e, size, not_zero n p)

-- these laws together, by which the code that reads a field is proved
pub ruleset in_field = (in_size, in_move, in_other, in_zero, in_wait)

-- only a field of the right size is looked into
in_same : (tag len n m later : ℕ) → (len ≡ step_size → n ≡ m) → step_in tag len n later ≡ step_in tag len m later
in_same tag len n m later h =
    decide (eqb len step_size)
    (λ e. ap (λ (k : ℕ). step_in tag len k later) (h (eqb-true len step_size e)))
    (λ e. in_size tag len n later (eqb-false len step_size e) ∙ sym (in_size tag len m later (eqb-false len step_size e)))

-- ---- the fields at a place give the step there

field_step : (at : ℕ) (f : Field) (fs : Fields)
    → step_of_first at (next f fs) ≡ step_in f.tag (length f.value) (u16_at f.value 0) (at + 3 + length f.value)
unfolding step_in step_of_first is_move is_wait
field_step at f fs = refl

module _ (s : List ℕ) (at : ℕ) where
  pub at_end_step : length s ≤ at → step_at s at ≡ End
  unfolding step_at step_of_first
  at_end_step p = ap (step_of_first at) (at_end s at p)

  pub at_cut_step : fields_at s at ≡ cut → step_at s at ≡ Wrong
  unfolding step_at step_of_first
  at_cut_step e = ap (step_of_first at) e

  pub at_field_step : (h : Header) → Whole s at h → step_in h.tag h.len (u16_at s h.start) h.next ≡ step_at s at
  unfolding step_at
  at_field_step h w =
      let f = field_at s at in
      let place : h.next ≡ at + 3 + h.len = w.next in
      let size : length f.value ≡ h.len = whole_length s at h w in
      let start : h.start ≡ at + 3 + 0 = omega (arith, w.start) in
      let tag : f.tag ≡ h.tag = field_tag s at ∙ sym w.tag in
      let number : h.len ≡ step_size → u16_at s (at + 3 + 0) ≡ u16_at f.value 0 = λ e. sym (value_u16 s at 0 (omega (arith, w.len))) in
      rw (place, start) (in_same h.tag h.len _ _ _ number
      ∙ sym (ap (step_of_first at) w.fields ∙ field_step at f (fields_at s h.next) ∙ rw (size, tag)))

-- ---- and back: what each answer says of the fields there

by_move : (m w : Bool) (a b n later : ℕ) → Move n later ≡ step_by m w a b → (m ≡ true) × (n ≡ a) × (later ≡ b)
by_move true w a b n later e = (refl, cc, cc)
by_move false true a b n later e = let z : ◌≡◌ {A = ℕ} 0 1 = cc in absurd (omega arith)
by_move false false a b n later e = let z : ◌≡◌ {A = ℕ} 0 1 = cc in absurd (omega arith)

by_wait_lem : (m w : Bool) (a b n later : ℕ) → Wait n later ≡ step_by m w a b → (m ≡ false) × (w ≡ true) × (n ≡ a) × (later ≡ b)
by_wait_lem true w a b n later e = let z : ◌≡◌ {A = ℕ} 0 1 = cc in absurd (omega arith)
by_wait_lem false true a b n later e = (refl, refl, cc, cc)
by_wait_lem false false a b n later e = let z : ◌≡◌ {A = ℕ} 0 1 = cc in absurd (omega arith)

by_wrong : (m w : Bool) (a b : ℕ) → Wrong ≡ step_by m w a b → (m ≡ false) × (w ≡ false)
by_wrong true w a b e = let z : ◌≡◌ {A = ℕ} 0 1 = cc in absurd (omega arith)
by_wrong false true a b e = let z : ◌≡◌ {A = ℕ} 0 1 = cc in absurd (omega arith)
by_wrong false false a b e = (refl, refl)

by_end : (m w : Bool) (a b : ℕ) → End ≡ step_by m w a b → ⊥
by_end true w a b e = let z : ◌≡◌ {A = ℕ} 0 1 = cc in omega arith
by_end false true a b e = let z : ◌≡◌ {A = ℕ} 0 1 = cc in omega arith
by_end false false a b e = let z : ◌≡◌ {A = ℕ} 0 1 = cc in omega arith

-- a field stands at a place: its number, and where the next starts
pub record Found (s : List ℕ) (at n later : ℕ) : Type 0 where
  pub ahead : at < later
  pub inside : later ≤ length s
  pub number : n ≡ u16_at (field_at s at).value 0
  pub fields : fields_at s at ≡ next (field_at s at) (fields_at s later)

module _ (s : List ℕ) (at : ℕ) where
  -- the three things that can stand at a place
  places : {X : Type 0} → (fields_at s at ≡ end → step_at s at ≡ End → X) → (fields_at s at ≡ cut → step_at s at ≡ Wrong → X)
      → ((later : ℕ) → Found s at (u16_at (field_at s at).value 0) later
      → step_at s at ≡ step_by (is_move (field_at s at)) (is_wait (field_at s at)) (u16_at (field_at s at).value 0) later → X) → X
  unfolding step_at step_of_first
  places f g h =
      by_place s at
      (λ p q. let e = at_end s at p in f e (ap (step_of_first at) e))
      (λ e q. g e (ap (step_of_first at) e))
      (λ r.
      let e = at_next s at _ refl r in
      let size = value_length s at _ refl r in
      h (at + 3 + u16_at s (at + 1))
      (record { ahead = omega arith; inside = r; number = refl; fields = e })
      (ap (step_of_first at) e ∙ ap (λ (k : ℕ). step_by (is_move (field_at s at)) (is_wait (field_at s at)) (u16_at (field_at s at).value 0) (at + 3 + k)) size))

  pub is_move_lem : (n later : ℕ) → Move n later ≡ step_at s at → Found s at n later × (is_move (field_at s at) ≡ true)
  is_move_lem n later e =
      places
      (λ p q. let z : ◌≡◌ {A = ℕ} 0 1 = cc in absurd (omega arith))
      (λ p q. let z : ◌≡◌ {A = ℕ} 0 1 = cc in absurd (omega arith))
      (λ l w q.
      let (m, a, b) = by_move _ _ _ _ _ _ (e ∙ q) in
      (rw (a, b) w, m))

  pub is_wait_lem : (n later : ℕ) → Wait n later ≡ step_at s at → Found s at n later × (is_move (field_at s at) ≡ false) × (is_wait (field_at s at) ≡ true)
  is_wait_lem n later e =
      places
      (λ p q. let z : ◌≡◌ {A = ℕ} 0 1 = cc in absurd (omega arith))
      (λ p q. let z : ◌≡◌ {A = ℕ} 0 1 = cc in absurd (omega arith))
      (λ l w q.
      let (m, k, a, b) = by_wait_lem _ _ _ _ _ _ (e ∙ q) in
      (rw (a, b) w, m, k))

  pub is_end : End ≡ step_at s at → fields_at s at ≡ end
  is_end e =
      places (λ p q. p)
      (λ p q. let z : ◌≡◌ {A = ℕ} 0 1 = cc in absurd (omega arith))
      (λ l w q. absurd (by_end (is_move (field_at s at)) (is_wait (field_at s at)) (u16_at (field_at s at).value 0) l (e ∙ q)))

  is_wrong : {X : Type 0} → Wrong ≡ step_at s at → (fields_at s at ≡ cut → X)
      → ((later : ℕ) → fields_at s at ≡ next (field_at s at) (fields_at s later)
      → is_move (field_at s at) ≡ false → is_wait (field_at s at) ≡ false → X) → X
  is_wrong e f g =
      places
      (λ p q. let z : ◌≡◌ {A = ℕ} 0 1 = cc in absurd (omega arith))
      (λ p q. f p)
      (λ l w q. let (m, k) = by_wrong _ _ _ _ (e ∙ q) in g l w.fields m k)

-- ---- the layout from a place on, by the step there

laid_next : (may_wait : Bool) (s : List ℕ) (at later : ℕ) → fields_at s at ≡ next (field_at s at) (fields_at s later)
    → laid_from may_wait s at
    ≡ complete (fields_at s later)
    && ((is_move (field_at s at) || (may_wait && is_wait (field_at s at))) && in_layout (is_move (field_at s at)) (listed (fields_at s later)))
unfolding laid_from complete listed in_layout
laid_next may_wait s at later e = rw e

module _ (may_wait : Bool) (s : List ℕ) (at : ℕ) where
  pub move_laid : (n later : ℕ) → Move n later ≡ step_at s at → laid_from may_wait s at ≡ laid_from true s later
  unfolding laid_from
  move_laid n later e = let (w, m) = is_move_lem s at n later e in laid_next may_wait s at later w.fields ∙ rw m

  pub wait_laid : (n later : ℕ) → Wait n later ≡ step_at s at → laid_from may_wait s at ≡ may_wait && laid_from false s later
  unfolding laid_from
  wait_laid n later e = let (w, m, k) = is_wait_lem s at n later e in laid_next may_wait s at later w.fields ∙ rw (m, k) (go may_wait (complete (fields_at s later)))
    where
      go : (a b : Bool) → b && (a && true && in_layout false (listed (fields_at s later))) ≡ a && (b && in_layout false (listed (fields_at s later)))
      go true b = refl
      go false b = and-false b

  pub end_laid : End ≡ step_at s at → laid_from may_wait s at ≡ true
  unfolding laid_from complete listed in_layout
  end_laid e = rw (is_end s at e)

  pub wrong_laid : Wrong ≡ step_at s at → laid_from may_wait s at ≡ false
  unfolding laid_from complete
  wrong_laid e =
      is_wrong s at e (λ p. rw p)
      (λ l p m k. laid_next may_wait s at l p ∙ rw (m, k) (go may_wait (complete (fields_at s l)) (in_layout false (listed (fields_at s l)))))
    where
      go : (a b c : Bool) → b && (a && false && c) ≡ false
      go true b c = and-false b
      go false b c = and-false b

-- ---- walking the steps of a light, from place to place

-- the step p stands at a place, and the others from later on
pub record On (s : List ℕ) (at later : ℕ) (p : Plan.Step) : Type 0 where
  pub ahead : at < later
  pub inside : later ≤ length s
  pub steps : steps_from s at ≡ p ∷ steps_from s later
  pub laid : laid_from true s at ≡ true → laid_from true s later ≡ true

steps_next : (s : List ℕ) (at later : ℕ) → fields_at s at ≡ next (field_at s at) (fields_at s later)
    → steps_from s at ≡ step_of (field_at s at) ∷ steps_from s later
unfolding steps_from listed
steps_next s at later e = rw e

-- where no wait may come first, the layout holds also where one may
laid_more : (s : List ℕ) (at : ℕ) → laid_from false s at ≡ true → laid_from true s at ≡ true
unfolding laid_from in_layout
laid_more s at h = go (complete (fields_at s at)) (listed (fields_at s at)) h
  where
    go : (c : Bool) (fs : List Field) → c && in_layout false fs ≡ true → c && in_layout true fs ≡ true
    go c [] h = h
    go c (f ∷ fs) h =
        decide (is_move f)
        (λ e. rw e (rw e at h))
        (λ e. absurd (false≢true (sym (and-false c) ∙ rw e at h)))

module _ (s : List ℕ) (at : ℕ) where
  pub move_on : (n later : ℕ) → Move n later ≡ step_at s at → On s at later (Plan.move n)
  move_on n later e =
      let (w, m) = is_move_lem s at n later e in
      record {
        ahead = w.ahead;
        inside = w.inside;
        steps = steps_next s at later w.fields ∙ rw ((move_tests _ m).0, w.number);
        laid = λ h. sym (move_laid true s at n later e) ∙ h;
      }

  pub wait_on : (n later : ℕ) → Wait n later ≡ step_at s at → On s at later (Plan.wait n)
  wait_on n later e =
      let (w, m, k) = is_wait_lem s at n later e in
      record {
        ahead = w.ahead;
        inside = w.inside;
        steps = steps_next s at later w.fields ∙ rw ((wait_tests _ k).0, w.number);
        laid = λ h. laid_more s later (sym (wait_laid true s at n later e) ∙ h);
      }

  pub end_on : End ≡ step_at s at → steps_from s at ≡ []
  unfolding steps_from listed
  end_on e = rw (is_end s at e)

  pub never_wrong : laid_from true s at ≡ true → Wrong ≡ step_at s at → ⊥
  never_wrong h e = false≢true (sym (wrong_laid true s at e) ∙ h)
