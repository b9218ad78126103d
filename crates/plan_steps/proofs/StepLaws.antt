-- When a step or the unloading is allowed, by the tests in the order that the code has them.
-- Assumes nothing.
use Prim.Native.Nat.{ℕ, ◌+◌, ◌≤◌, ◌<◌}
use native.Mathlib.Omega.{arith}
use mathlib.Core.Path.{◌≡◌, refl}
use mathlib.Core.Bool.{Bool, true, false, and-true}
use mathlib.Core.List.{[], ◌∷◌}
use lib.Dec.{leb}
use lib.ListN.{length}
use borrow.Author.Tests.{le-leb, lt-leb, lt-ltb, le-ltb, eq-eqb, ne_eqb}
use Rattle.meaning.specs.Basics.{every}
use Rattle.meaning.specs.Site.{Site, cell_of, state_at, motion_at}
use Rattle.meaning.specs.Board.{Free}
use Rattle.meaning.specs.Plan.{Node, wait, move, free_from_to, sweeps_free, allowed, can_unload}
use Rattle.meaning.proofs.BasicsLaws.{every_fails}

-- ---- tests in a row

every_third : (w x y z : Bool) → w ≡ true → x ≡ true → z ≡ true → every (w ∷ x ∷ y ∷ z ∷ []) ≡ y
unfolding every
every_third w x y z p q r = rw (p, q, r) (and-true y)

every_first : (y z : Bool) → z ≡ true → every (y ∷ z ∷ []) ≡ y
unfolding every
every_first y z r = rw r (and-true y)

every_behind : (w x y z : Bool) → w ≡ true → x ≡ true → every (w ∷ x ∷ y ∷ z ∷ []) ≡ every (y ∷ z ∷ [])
unfolding every
every_behind w x y z p q = rw (p, q) refl

-- a test of a number against the horizon, as the code has the two
same_leb : (t u h k : ℕ) (b : Bool) → u ≡ t → h ≡ k → leb u k ≡ b → leb t h ≡ b
same_leb t u h k b p q e = rw (← p, q) e

module _ (site : Site) (f : Free) (a : Node) where
  -- ---- a wait

  module _ (n : ℕ) where
    pub wait_none : n ≡ 0 → allowed site f (wait n) a ≡ false
    unfolding allowed
    wait_none h = every_fails _ 0 (lt-leb 1 n (omega arith))

    pub wait_rolling : ((state_at site a.state).speed ≡ 0 → ⊥) → allowed site f (wait n) a ≡ false
    unfolding allowed
    wait_rolling h = every_fails _ 1 (ne_eqb _ _ h)

    pub wait_stays : (n ≡ 0 → ⊥) → (state_at site a.state).speed ≡ 0 → allowed site f (wait n) a ≡ can_unload site f a n
    unfolding allowed can_unload
    wait_stays pos stand = every_behind _ _ _ _ (le-leb 1 n (omega arith)) (eq-eqb _ _ stand)

    -- ---- staying

    pub stay_late : (u h : ℕ) → u ≡ a.tick + n → site.horizon ≡ h → leb u h ≡ false → can_unload site f a n ≡ false
    unfolding can_unload
    stay_late u h p q e = every_fails _ 1 (same_leb _ u _ h false p q e)

    pub stay_is : (u h : ℕ) → u ≡ a.tick + n → site.horizon ≡ h → leb u h ≡ true
        → can_unload site f a n ≡ free_from_to f (cell_of site a.state) a.tick (a.tick + n)
    unfolding can_unload
    stay_is u h p q e = every_first _ _ (same_leb _ u _ h true p q e)

  -- ---- a motion

  module _ (k : ℕ) where
    pub move_unknown : length site.motions ≤ k → allowed site f (move k) a ≡ false
    unfolding allowed
    move_unknown h = every_fails _ 0 (le-ltb _ _ h)

    pub move_other : ((motion_at site k).from ≡ a.state → ⊥) → allowed site f (move k) a ≡ false
    unfolding allowed
    move_other h = every_fails _ 1 (ne_eqb _ _ h)

    pub move_late : (u h : ℕ) → u ≡ a.tick + (motion_at site k).span → site.horizon ≡ h → leb u h ≡ false → allowed site f (move k) a ≡ false
    unfolding allowed
    move_late u h p q e = every_fails _ 3 (same_leb _ u _ h false p q e)

    pub move_is : (u h : ℕ) → k < length site.motions → (motion_at site k).from ≡ a.state → u ≡ a.tick + (motion_at site k).span
        → site.horizon ≡ h → leb u h ≡ true → allowed site f (move k) a ≡ sweeps_free f (motion_at site k).sweeps a.tick
    unfolding allowed
    move_is u h named from p q e = every_third _ _ _ _ (lt-ltb _ _ named) (eq-eqb _ _ from) (same_leb _ u _ h true p q e)
