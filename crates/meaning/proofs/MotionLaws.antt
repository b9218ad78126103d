-- The rules on one motion: the test of refusal 6 holds exactly at a motion that keeps them; and a well-formed site by number.
-- Assumes nothing.
use Prim.Native.Nat.{ℕ, suc, ◌+◌, ◌≤◌, ◌<◌}
use native.Mathlib.Numerals.{add-one}
use mathlib.Core.Path.{◌≡◌}
use mathlib.Core.Bool.{Bool, true, ◌&&◌, not}
use mathlib.Core.List.{List}
use lib.ListN.{length, get_or}
use lib.Dec.{leb, ltb, eqb}
use borrow.Author.Tests.{leb-true, le-leb, ltb-true, lt-ltb, eqb-false, ne_eqb, not-true}
use Rattle.meaning.specs.Basics.{all, all_below}
use Rattle.meaning.specs.Site.{Site, Sweep, Motion, cell_of, covers, uses, carries, handover, sweep_good, ends_good, sweeps_good, motion_good, no_motion, motion_at, State, no_state}
use Rattle.meaning.specs.WellFormed.{Uses, GoodMotion, WellFormed}
use Rattle.meaning.proofs.RunLaws.{covered, all_covered}
use Rattle.meaning.proofs.BasicsLaws.{and_left, and_right, some_any, any_some, any_at, each_all, all_each, below_at, below_all, each_at}

-- ---- three and four tests that hold

pub and_three : (x y z : Bool) → x && y && z ≡ true → (x ≡ true) × (y ≡ true) × (z ≡ true)
and_three x y z h = let p = and_left (x && y) z h in (and_left x y p, and_right x y p, and_right (x && y) z h)

pub and_four : (w x y z : Bool) → w && x && y && z ≡ true → (w ≡ true) × (x ≡ true) × (y ≡ true) × (z ≡ true)
and_four w x y z h = let (a, b, c) = and_three w x y (and_left (w && x && y) z h) in (a, b, c, and_right (w && x && y) z h)

-- ---- the use of a cell

abbrev Covers : ℕ → ℕ → Sweep → Type 0
Covers c j w = (w.cell ≡ c) × (w.first ≤ j) × (j ≤ w.last)

pub uses_true : (ws : List Sweep) (c j : ℕ) → uses ws c j ≡ true → Uses ws c j
unfolding uses
uses_true ws c j h = any_some (Covers c j) (covers c j) (covered c j) ws h

pub true_uses : (ws : List Sweep) (c j : ℕ) → Uses ws c j → uses ws c j ≡ true
unfolding uses
true_uses ws c j h = some_any (Covers c j) (covers c j) (all_covered c j) h

-- ---- handover

carries_true : (ws : List Sweep) (j : ℕ) (w : Sweep) → carries ws j w ≡ true → Uses ws w.cell j × Uses ws w.cell (suc j)
carries_true ws j w h =
    let now = and_left (uses ws w.cell j) (uses ws w.cell (j + 1)) h in
    let next : uses ws w.cell (suc j) ≡ true = rw add-one at (and_right (uses ws w.cell j) (uses ws w.cell (j + 1)) h) in
    (uses_true ws w.cell j now, uses_true ws w.cell (suc j) next)

true_carries : (ws : List Sweep) (j c : ℕ) → Uses ws c j → Uses ws c (suc j) → (w : Sweep) → Covers c j w → carries ws j w ≡ true
true_carries ws j c h k w (same, _, _) = simp (same, add-one, true_uses ws c j h, true_uses ws c (suc j) k)

pub handover_true : (ws : List Sweep) (j : ℕ) → handover ws j ≡ true → (c : ℕ) × Uses ws c j × Uses ws c (suc j)
unfolding handover
handover_true ws j h =
    let none : Sweep = record { cell = 0; first = 0; last = 0 } in
    let (i, _, e) = any_at (carries ws j) ws none h in
    let (now, next) = carries_true ws j (get_or ws i none) e in
    ((get_or ws i none).cell, now, next)

pub true_handover : (ws : List Sweep) (j c : ℕ) → Uses ws c j → Uses ws c (suc j) → handover ws j ≡ true
unfolding handover
true_handover ws j c h k = some_any (Covers c j) (carries ws j) (true_carries ws j c h k) h

-- ---- the sweeps keep to the cells and the span

abbrev pub Fits : ℕ → ℕ → Sweep → Type 0
Fits cells d w = (w.cell < cells) × (w.first ≤ w.last) × (w.last ≤ d)

fits_true : (cells d : ℕ) (w : Sweep) → sweep_good cells d w ≡ true → Fits cells d w
fits_true cells d w h =
    let (x, y, z) = and_three (ltb w.cell cells) (leb w.first w.last) (leb w.last d) h in
    (ltb-true w.cell cells x, leb-true w.first w.last y, leb-true w.last d z)

pub true_fits : (cells d : ℕ) (w : Sweep) → Fits cells d w → sweep_good cells d w ≡ true
true_fits cells d w (x, y, z) = simp (lt-ltb w.cell cells x, le-leb w.first w.last y, le-leb w.last d z)

-- ---- a motion

pub motion_good_lem : (site : Site) (m : Motion) → 1 ≤ length m.sweeps → length m.sweeps ≤ 16 → motion_good site m ≡ true → GoodMotion site m
unfolding motion_good ends_good sweeps_good
motion_good_lem site m some_sweeps few_sweeps h =
    let n = length site.states in
    let x = cell_of site m.from in
    let y = cell_of site m.to in
    let d = m.span in
    let ws = m.sweeps in
    let (a, b, c, e) = and_four (ltb m.from n) (ltb m.to n) (not (eqb m.from m.to)) (leb 1 d)
    (and_left (ends_good n m.from m.to d) (sweeps_good site.cells x y d ws) h) in
    let (f, g, k, l) = and_four (all (sweep_good site.cells d) ws) (uses ws x 0) (uses ws y d) (all_below (handover ws) d)
    (and_right (ends_good n m.from m.to d) (sweeps_good site.cells x y d ws) h) in
    record {
      from_below = ltb-true m.from n a;
      to_below = ltb-true m.to n b;
      differ = eqb-false m.from m.to (not-true (eqb m.from m.to) c);
      takes_time = leb-true 1 d e;
      some_sweeps = some_sweeps;
      few_sweeps = few_sweeps;
      sweeps_fit = all_each (Fits site.cells d) (sweep_good site.cells d) (fits_true site.cells d) ws f;
      from_cell = uses_true ws x 0 g;
      to_cell = uses_true ws y d k;
      handed_over = λ j lt. handover_true ws j (below_at (handover ws) d l j lt);
    }

pub good_motion : (site : Site) (m : Motion) → GoodMotion site m → motion_good site m ≡ true
unfolding motion_good ends_good sweeps_good
good_motion site m good =
    let n = length site.states in
    let x = cell_of site m.from in
    let y = cell_of site m.to in
    let d = m.span in
    let ws = m.sweeps in
    let handed : (j : ℕ) → j < d → handover ws j ≡ true =
    λ j lt. (let (c, now, next) = good.handed_over j lt in true_handover ws j c now next) in
    simp (
      lt-ltb m.from n good.from_below,
      lt-ltb m.to n good.to_below,
      ne_eqb m.from m.to good.differ,
      le-leb 1 d good.takes_time,
      each_all (Fits site.cells d) (sweep_good site.cells d) (true_fits site.cells d) ws good.sweeps_fit,
      true_uses ws x 0 good.from_cell,
      true_uses ws y d good.to_cell,
      below_all (handover ws) d handed,
    )

-- ---- a well-formed site, by number

pub cell_known : (site : Site) → WellFormed site → (s : ℕ) → s < length site.states → cell_of site s < site.cells
cell_known site well s known = each_at (λ (x : State). x.cell < site.cells) site.states no_state well.state_cells s known

pub good_at : (site : Site) → WellFormed site → (m : ℕ) → m < length site.motions → GoodMotion site (motion_at site m)
good_at site well m known = each_at (GoodMotion site) site.motions no_motion well.motions_good m known
