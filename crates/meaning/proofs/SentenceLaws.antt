-- A test and the sentence that it decides, and how tests of several sentences are put together.
-- Assumes nothing.
use Prim.Native.Nat.{ℕ, ◌≤◌, ◌<◌}
use mathlib.Core.Path.{◌≡◌, refl, sym, ap, ◌∙◌}
use mathlib.Core.Logic.{◌⊎◌, inl, inr}
use mathlib.Core.Bool.{Bool, true, false, not, ◌||◌, false≢true, true≢false}
use mathlib.Core.List.{[], ◌∷◌}
use lib.Dec.{leb, ltb, eqb}
use borrow.Author.Tests.{leb-true, le-leb, ltb-true, lt-ltb, eqb-true, eq-eqb, not-true, not-false}
use Rattle.meaning.specs.Basics.{every}
use Rattle.meaning.specs.Answers.{◌if◌}
use Rattle.meaning.specs.Refusals.{◌says◌, Told, Not}
use Rattle.meaning.proofs.BasicsLaws.{decide, every_at, every_nil, every_cons}

-- a test that holds exactly where a sentence does
pub record Tells (b : Bool) (P : Type 0) : Type 0 where
  pub then : b ≡ true → P
  pub back : P → b ≡ true

-- the same sentence in other words
pub tells_as : {b : Bool} {P Q : Type 0} → Tells b P → (P → Q) → (Q → P) → Tells b Q
tells_as e to from = record { then = λ h. to (e.then h); back = λ q. e.back (from q) }

-- its negation
pub tells_not : {b : Bool} {P : Type 0} → Tells b P → Tells (not b) (Not P)
tells_not {b} e = record {
  then = λ n p. false≢true (sym (not-true b n) ∙ e.back p);
  back = λ n. decide b (λ h. absurd (n (e.then h))) (λ h. ap not h);
}

-- a test that did not apply, and one that did not apply negated
pub misses : {b : Bool} {P : Type 0} → Tells b P → b ≡ false → Not P
misses e h p = true≢false (sym (e.back p) ∙ h)

pub holds : {b : Bool} {P : Type 0} → Tells b P → not b ≡ false → P
holds {b} e h = e.then (not-false b h)

pub fails : {b : Bool} {P : Type 0} → Tells b P → Not P → b ≡ false
fails {b} e n = decide b (λ h. absurd (n (e.then h))) (λ h. h)

-- one entry
pub told : (n : ℕ) {b : Bool} {P : Type 0} → Tells b P → Told (n if b) (n says P)
told n e = record { same_number = refl; only_there = e.then; there = e.back }

pub tells_le : (a b : ℕ) → Tells (leb a b) (a ≤ b)
tells_le a b = record { then = leb-true a b; back = le-leb a b }

pub tells_lt : (a b : ℕ) → Tells (ltb a b) (a < b)
tells_lt a b = record { then = ltb-true a b; back = lt-ltb a b }

pub tells_eq : (a b : ℕ) → Tells (eqb a b) (a ≡ b)
tells_eq a b = record { then = eqb-true a b; back = eq-eqb a b }

-- one of two
pub tells_or : {a b : Bool} {P Q : Type 0} → Tells a P → Tells b Q → Tells (a || b) (P ⊎ Q)
tells_or {a} {b} {P} {Q} p q = by a refl
  where
    by : (x : Bool) → a ≡ x → Tells (a || b) (P ⊎ Q)
    by true e = record { then = λ h. inl (p.then e); back = λ s. rw e }
    by false e = record {
      then = λ h. inr (q.then (rw e at h));
      back = λ s. rw e (elim s [ inl y ↦ absurd (true≢false (sym (p.back y) ∙ e)) | inr y ↦ q.back y ]);
    }

pub tells_two : {a b : Bool} {P Q : Type 0} → Tells a P → Tells b Q → Tells (every (a ∷ b ∷ [])) (P × Q)
tells_two p q = record {
  then = λ h. (p.then (every_at _ h 0), q.then (every_at _ h 1));
  back = λ (x, y). every_cons _ _ (p.back x) (every_cons _ _ (q.back y) every_nil);
}

pub tells_three : {a b c : Bool} {P Q R : Type 0} → Tells a P → Tells b Q → Tells c R → Tells (every (a ∷ b ∷ c ∷ [])) (P × Q × R)
tells_three p q r = record {
  then = λ h. (p.then (every_at _ h 0), q.then (every_at _ h 1), r.then (every_at _ h 2));
  back = λ (x, y, z). every_cons _ _ (p.back x) (every_cons _ _ (q.back y) (every_cons _ _ (r.back z) every_nil));
}

pub tells_four : {a b c d : Bool} {P Q R S : Type 0} → Tells a P → Tells b Q → Tells c R → Tells d S → Tells (every (a ∷ b ∷ c ∷ d ∷ [])) (P × Q × R × S)
tells_four p q r s = record {
  then = λ h. (p.then (every_at _ h 0), q.then (every_at _ h 1), r.then (every_at _ h 2), s.then (every_at _ h 3));
  back = λ (x, y, z, w). every_cons _ _ (p.back x) (every_cons _ _ (q.back y) (every_cons _ _ (r.back z) (every_cons _ _ (s.back w) every_nil)));
}
