-- Laws of what one sweep hands over, of the offsets that single sweeps link, and of a test of all offsets below a span.
-- Assumes nothing.
use Prim.Native.Nat.{ℕ, zero, suc, ◌+◌, ◌≤◌, ◌<◌}
use mathlib.Core.Path.{◌≡◌, refl, sym, ap, ◌∙◌}
use mathlib.Core.List.{List, [], ◌∷◌}
use mathlib.Core.Bool.{Bool, true, false, ◌&&◌, and-false, or-true}
use native.Mathlib.Omega.{arith}
use native.Mathlib.Numerals.{add-one}
use lib.ListN.{length, get_or}
use lib.Dec.{eqb, ltb}
use borrow.Author.Tests.{eqb-true, eqb-false, ltb-true, ltb-false}
use Rattle.meaning.specs.Basics.{any, all_below}
use Rattle.meaning.specs.Runs.{meets}
use Rattle.meaning.specs.Site.{Sweep, covers, uses, handover}
use Rattle.meaning.proofs.BasicsLaws.{decide, and_left, and_right, any_at, any_from_lem, any_some, some_any, same_test, below_at, below_all}
use Rattle.meaning.proofs.RunLaws.{lies_in, in_meets, covered, all_covered}
use Rattle.meaning.proofs.MotionLaws.{uses_true, true_uses, handover_true, true_handover}
use Rattle.site_sweeps.specs.Places.{sweep_at, sweeps_in, sweep_of, SweepIs}
use Rattle.site_sweeps.specs.declared.Sweep as ReadSweep
use Rattle.site_handover.specs.Links.{hands_over, last_from, Linked}

-- ---- the last offset of a sweep that uses j

-- a sweep that does not end after j
pub last_early : (w : Sweep) (j : ℕ) → w.last ≤ j → j ≡ last_from w j
unfolding last_from
last_early w j h =
    decide (meets w.first w.last j j)
    (λ t. let (lo, hi) = lies_in w.first w.last j t in let same : j ≡ w.last = omega arith in rw t same)
    (λ t. rw t)

module _ (w : Sweep) (j : ℕ) {b : Bool} (e : b ≡ meets w.first w.last j j) where
  pub last_used : b ≡ true → w.last ≡ last_from w j
  unfolding last_from
  last_used t = rw (sym e ∙ t)

  pub last_unused : b ≡ false → j ≡ last_from w j
  unfolding last_from
  last_unused t = rw (sym e ∙ t)

-- ---- a handover at j, by a sweep that uses j

pub hands_over_lem : (ws : List Sweep) (j : ℕ) → any (hands_over ws j) ws ≡ handover ws j
hands_over_lem ws j = same_test (any (hands_over ws j) ws) (handover ws j) there back
  where
    there : any (hands_over ws j) ws ≡ true → handover ws j ≡ true
    there h =
        let none : Sweep = record { cell = 0; first = 0; last = 0 } in
        let (i, lt, e) = any_at (hands_over ws j) ws none h in
        let w : Sweep = get_or ws i none in
        let now = and_left (meets w.first w.last j j) (uses ws w.cell (j + 1)) e in
        let next : uses ws w.cell (suc j) ≡ true = rw add-one at (and_right (meets w.first w.last j j) (uses ws w.cell (j + 1)) e) in
        let (lo, hi) = lies_in w.first w.last j now in
        let used : any (covers w.cell j) ws ≡ true = any_from_lem (covers w.cell j) ws none i lt (all_covered w.cell j w (refl, lo, hi)) in
        true_handover ws j w.cell (any_some _ _ (covered w.cell j) ws used) (uses_true ws w.cell (suc j) next)

    back : handover ws j ≡ true → any (hands_over ws j) ws ≡ true
    back h =
        let (c, now, next) = handover_true ws j h in
        some_any (λ (w : Sweep). (w.cell ≡ c) × (w.first ≤ j) × (j ≤ w.last)) (hands_over ws j)
        (λ w (same, lo, hi). simp (in_meets w.first w.last j (lo, hi), same, add-one, true_uses ws c (suc j) next)) now

-- ---- handovers by one sweep

-- w is one of the sweeps
abbrev pub Among : List Sweep → Sweep → Type 0
Among ws w = (p : Sweep → Bool) → p w ≡ true → any p ws ≡ true

-- those that are read one after the other are
any_here : (q : Sweep → Bool) (bs : List (List ℕ)) (i : ℕ) → i < length bs → q (sweep_at (get_or bs i []) 0) ≡ true → any q (sweeps_in bs) ≡ true
unfolding any
any_here q [] i p h = absurd (omega arith)
any_here q (b ∷ bs) zero p h = rw h
any_here q (b ∷ bs) (suc i) p h = rw (any_here q bs i (omega arith) h, or-true)

pub among_read : (bs : List (List ℕ)) (i : ℕ) (r : ReadSweep.Sweep) → i < length bs → SweepIs (sweep_at (get_or bs i []) 0) r → Among (sweeps_in bs) (sweep_of r)
among_read bs i r p s q h = any_here q bs i p (ap q (sym s.same) ∙ h)

by_one : (ws : List Sweep) (w : Sweep) → Among ws w → (i : ℕ) → w.first ≤ i → i + 1 ≤ w.last → handover ws i ≡ true
unfolding uses
by_one ws w m i lo hi =
    let next : uses ws w.cell (i + 1) ≡ true = m (covers w.cell (i + 1)) (all_covered w.cell (i + 1) w (refl, omega arith, hi)) in
    sym (hands_over_lem ws i) ∙ m (hands_over ws i) (simp (in_meets w.first w.last i (lo, omega arith), next))

-- a sweep that uses the offset r lengthens what is linked up to r
longer : (ws : List Sweep) (w : Sweep) → Among ws w → (j r : ℕ) → w.first ≤ r → r ≤ w.last → Linked ws j r → Linked ws j w.last
longer ws w m j r lo hi l =
    record {
      on = let a = l.on in omega arith;
      each = λ i h k. decide (ltb i r) (λ e. l.each i h (ltb-true i r e)) (λ e. let low = ltb-false i r e in by_one ws w m i (omega arith) (omega arith));
    }

pub linked_on : (ws : List Sweep) (w : Sweep) → Among ws w → (j r q : ℕ) → Linked ws j r → q ≡ last_from w r → Linked ws j q
unfolding last_from
linked_on ws w m j r q l e =
    decide (meets w.first w.last r r)
    (λ t. let (lo, hi) = lies_in w.first w.last r t in rw (e, t) (longer ws w m j r lo hi l))
    (λ t. rw (e, t) l)

pub linked_below : (ws : List Sweep) (j r : ℕ) → all_below (handover ws) j ≡ true → Linked ws j r → all_below (handover ws) r ≡ true
linked_below ws j r h l =
    below_all (handover ws) r (λ i k. decide (ltb i j) (λ e. below_at (handover ws) j h i (ltb-true i j e)) (λ e. l.each i (ltb-false i j e) k))

pub below_less : (p : ℕ → Bool) (n m : ℕ) → n ≤ m → all_below p m ≡ true → all_below p n ≡ true
below_less p n m h e = below_all p n (λ j k. below_at p m e j (omega arith))

-- a test of every number below n
module _ (p : ℕ → Bool) where
  pub below_zero : all_below p 0 ≡ true
  unfolding all_below
  below_zero = refl

  pub below_miss : (n j : ℕ) → j < n → p j ≡ false → all_below p n ≡ false
  unfolding all_below
  below_miss zero j h e = absurd (omega arith)
  below_miss (suc n) j h e = go (eqb j n) refl (λ q. below_miss n j q e)
    where
      go : (b : Bool) → eqb j n ≡ b → (j < n → all_below p n ≡ false) → (all_below p n && p n) ≡ false
      go true q f = rw (← eqb-true j n q, e, and-false)
      go false q f = let d = eqb-false j n q in rw (f (omega arith))
