-- Runs of ticks: the comparison decides whether two of them meet, and whether a sweep uses its cell at an offset.
-- Assumes nothing.
use Prim.Native.Nat.{ℕ, ◌≤◌}
use native.Mathlib.Omega.{arith}
use native.Mathlib.Nat.{le_refl, le_trans}
use mathlib.Core.Path.{◌≡◌}
use mathlib.Core.Bool.{true}
use lib.Dec.{eqb}
use borrow.Author.Tests.{leb-true, le-leb, eqb-true, eq-eqb}
use Rattle.meaning.specs.Runs.{later_start, earlier_end, meets, LiesIn, Meet}
use Rattle.meaning.specs.Site.{Sweep, covers}
use Rattle.meaning.specs.Laws.{MeetsRight}
use Rattle.meaning.proofs.BasicsLaws.{and_left, and_right}

-- the later start lies in both
pub met : (a b c d : ℕ) → meets a b c d ≡ true → Meet a b c d
unfolding meets
met a b c d h =
    let le : later_start a c ≤ earlier_end b d = leb-true (later_start a c) (earlier_end b d) h in
    (later_start a c, (omega arith, omega arith), (omega arith, omega arith))

pub all_met : (a b c d : ℕ) → Meet a b c d → meets a b c d ≡ true
unfolding meets
all_met a b c d (t, (x, y), (z, w)) = le-leb (later_start a c) (earlier_end b d) (omega arith)

-- one tick in a run
pub lies_in : (a b t : ℕ) → meets a b t t ≡ true → LiesIn a b t
lies_in a b t h = let (u, (x, y), (z, w)) = met a b t t h in (le_trans x w, le_trans z y)

pub in_meets : (a b t : ℕ) → LiesIn a b t → meets a b t t ≡ true
in_meets a b t p = all_met a b t t (t, p, (le_refl t, le_refl t))

pub covered : (c j : ℕ) (w : Sweep) → covers c j w ≡ true → (w.cell ≡ c) × (w.first ≤ j) × (j ≤ w.last)
covered c j w h =
    let used = meets w.first w.last j j in
    let (lo, hi) = lies_in w.first w.last j (and_right (eqb w.cell c) used h) in
    (eqb-true w.cell c (and_left (eqb w.cell c) used h), lo, hi)

pub all_covered : (c j : ℕ) (w : Sweep) → (w.cell ≡ c) × (w.first ≤ j) × (j ≤ w.last) → covers c j w ≡ true
all_covered c j w (same, lo, hi) = simp (eq-eqb w.cell c same, in_meets w.first w.last j (lo, hi))

pub meets_right : MeetsRight
meets_right = record { met = met; all_met = all_met; covered = covered; all_covered = all_covered }
