-- What is allowed of waits and motions, and that the positions at which a motion may end say the same.
-- Assumes nothing.
use Prim.Native.Nat.{ℕ, suc, ◌+◌, ◌-◌, ◌≤◌, ◌<◌}
use native.Mathlib.Omega.{arith}
use mathlib.Core.Path.{◌≡◌, refl, ap, ◌∙◌, subst}
use mathlib.Core.Bool.{Bool, true}
use mathlib.Core.List.{List, [], ◌∷◌}
use lib.Dec.{leb}
use lib.ListN.{length}
use borrow.Author.Tests.{le-leb, lt-ltb, eq-eqb, eqb-true}
use Rattle.meaning.specs.Basics.{all_from, Each, here, there}
use Rattle.meaning.specs.Site.{Site, Sweep, state_at, motion_at, cell_of}
use Rattle.meaning.specs.Board.{Free}
use Rattle.meaning.specs.Plan.{wait, move, free_from_to, sweeps_free, allowed, node as at}
use Rattle.meaning.specs.WellFormed.{Uses}
use Rattle.meaning.proofs.BasicsLaws.{and_left, and_right, every_at, every_nil, every_cons, all_nil, all_cons, all_head, all_tail, all_from_in, all_from_true}
use Rattle.search_sizes.specs.Sizes.{block_ticks, block_start}
use Rattle.search_runs.specs.Runs.{ended}
use Rattle.search_runs.proofs.EndedLaws.{ended_at, ended_made}
use Rattle.search_arrivals.specs.Arrivals.{arrives}
use Rattle.search_reach.specs.Explored.{free_from}

-- ---- what is allowed

module _ (site : Site) (f : Free) where
  pub wait_made : (s t : ℕ) → (state_at site s).speed ≡ 0 → f (cell_of site s) t ≡ true → f (cell_of site s) (suc t) ≡ true → suc t ≤ site.horizon
      → allowed site f (wait 1) (at s t) ≡ true
  unfolding allowed
  wait_made s t stands now next in_time =
      let size : suc (t + 1) - t ≡ 2 = omega arith in
      every_cons _ _ (le-leb 1 1 (omega arith)) (every_cons _ _ (eq-eqb _ 0 stands)
      (every_cons _ _ (rw size (rw (now, next))) (every_cons _ _ (le-leb (t + 1) site.horizon (omega arith)) every_nil)))

  pub wait_stands : (s t : ℕ) → allowed site f (wait 1) (at s t) ≡ true → (state_at site s).speed ≡ 0
  unfolding allowed
  wait_stands s t h = eqb-true _ 0 (every_at _ h 1)

  pub wait_both : (s t : ℕ) → allowed site f (wait 1) (at s t) ≡ true → (f (cell_of site s) t ≡ true) × (f (cell_of site s) (suc t) ≡ true)
  unfolding allowed
  wait_both s t h =
      let size : suc (t + 1) - t ≡ 2 = omega arith in
      let frees : all_from (f (cell_of site s)) t 2 ≡ true = rw size at (every_at _ h 2) in
      (and_left (f (cell_of site s) t) _ frees, and_left (f (cell_of site s) (suc t)) true (and_right (f (cell_of site s) t) _ frees))

  pub move_made : (m t : ℕ) → m < length site.motions → sweeps_free f (motion_at site m).sweeps t ≡ true → t + (motion_at site m).span ≤ site.horizon
      → allowed site f (move m) (at (motion_at site m).from t) ≡ true
  unfolding allowed
  move_made m t known frees in_time =
      every_cons _ _ (lt-ltb _ _ known) (every_cons _ _ (eq-eqb (motion_at site m).from _ refl)
      (every_cons _ _ frees (every_cons _ _ (le-leb _ _ in_time) every_nil)))

  pub move_free : (m t : ℕ) → allowed site f (move m) (at (motion_at site m).from t) ≡ true → sweeps_free f (motion_at site m).sweeps t ≡ true
  unfolding allowed
  move_free m t h = every_at _ h 2

  -- a cell that some sweep uses at an offset is free then
  pub used_free : (c j t : ℕ) {ws : List Sweep} → Uses ws c j → sweeps_free f ws t ≡ true → f c (t + j) ≡ true
  used_free c j t (here {x = w} {xs = ws} (same, lo, hi)) h =
      rw (← same) (all_from_in (f w.cell) (t + w.first) (suc (t + w.last) - (t + w.first)) (t + j) (all_head _ w ws h) (omega arith) (omega arith))
  used_free c j t (there {x = w} {xs = ws} u) h = used_free c j t u (all_tail _ w ws h)

-- ---- where a motion may end

-- a sweep keeps to the span
abbrev pub Orderly : ℕ → Sweep → Type 0
Orderly d w = (w.first ≤ w.last) × (w.last ≤ d)

-- the ticks of a sweep, counted back from its last one
back_from : (t a b x : ℕ) → a ≤ b → t + a ≤ x → x < t + a + (suc (t + b) - (t + a)) → (x ≤ t + b) × (t + b - x < suc b - a)
back_from t a b x order lo hi = (omega arith, omega arith)

back_to : (t a b j : ℕ) → a ≤ b → j < suc b - a → (t + a ≤ t + b - j) × (t + b - j < t + a + (suc (t + b) - (t + a)))
back_to t a b j order lt = (omega arith, omega arith)

twice_back : (p x : ℕ) → x ≤ p → (p - (p - x) ≡ x) × (p - x ≤ p)
twice_back p x h = (omega arith, omega arith)

cancel : (p x : ℕ) → p + x - p ≡ x
cancel p x = omega arith

-- where the sweep's last tick lies before the motion's end
back_last : (p t b d j : ℕ) → b ≤ d → j ≤ t + b → p + t + d - (d - b) - j ≡ p + (t + b - j)
back_last p t b d j end lt = omega arith

-- the cell of a sweep that lasts to the end is free at the end
pub arrives_there : (g : ℕ → ℕ → Bool) (c d u : ℕ) {ws : List Sweep} → Uses ws c d → Each (Orderly d) ws → arrives g ws d u ≡ true → g c u ≡ true
unfolding arrives
arrives_there g c d u (here {x = w} {xs = ws} (same, lo, hi)) (fit, rest) h =
    let last : w.last ≡ d = omega (arith, fit.1) in
    let place : u - (d - w.last) - 0 ≡ u = omega arith in
    rw (← same) (subst (λ (x : ℕ). g w.cell x ≡ true) place
    (ended_at (g w.cell) (suc w.last - w.first) (u - (d - w.last)) 0 (all_head _ w ws h) (omega (arith, fit.0))))
arrives_there g c d u (there {x = w} {xs = ws} used) (fit, rest) h = arrives_there g c d u used rest (all_tail _ w ws h)

module _ (f : Free) (first d t : ℕ) where
  abbrev g : ℕ → ℕ → Bool
  g = free_from f first

  -- a motion that may end d after tick t is free from t on
  sweep_sound : (w : Sweep) → Orderly d w → ended (g w.cell) (suc w.last - w.first) (block_ticks + t + d - (d - w.last)) ≡ true
      → free_from_to f w.cell (t + w.first) (t + w.last) ≡ true
  sweep_sound w (order, end) h =
      all_from_true (f w.cell) (t + w.first) (suc (t + w.last) - (t + w.first))
      (λ x lo hi.
      let (early, few) = back_from t w.first w.last x order lo hi in
      let (there_tick, short) = twice_back (t + w.last) x early in
      let place : block_ticks + t + d - (d - w.last) - (t + w.last - x) ≡ block_ticks + x =
      back_last block_ticks t w.last d (t + w.last - x) end short ∙ ap (λ (y : ℕ). block_ticks + y) there_tick in
      let tick : block_ticks + x - block_ticks ≡ x = cancel block_ticks x in
      let free_there : g w.cell (block_ticks + x) ≡ true =
      subst (λ (y : ℕ). g w.cell y ≡ true) place
      (ended_at (g w.cell) (suc w.last - w.first) (block_ticks + t + d - (d - w.last)) (t + w.last - x) h few) in
      subst (λ (y : ℕ). f w.cell y ≡ true) tick (and_right (leb (block_start first) (block_ticks + x)) _ free_there))

  pub arrives_sound : (ws : List Sweep) → Each (Orderly d) ws → arrives g ws d (block_ticks + t + d) ≡ true → sweeps_free f ws t ≡ true
  unfolding arrives
  arrives_sound [] fits h = all_nil _
  arrives_sound (w ∷ ws) (fit, rest) h =
      all_cons _ w ws (sweep_sound w fit (all_head _ w ws h)) (arrives_sound ws rest (all_tail _ w ws h))

  -- and the other way round, from the first block on
  module _ (late : block_start first ≤ block_ticks + t) where
    sweep_complete : (w : Sweep) → Orderly d w → free_from_to f w.cell (t + w.first) (t + w.last) ≡ true
        → ended (g w.cell) (suc w.last - w.first) (block_ticks + t + d - (d - w.last)) ≡ true
    sweep_complete w (order, end) h =
        ended_made (g w.cell) (suc w.last - w.first) (block_ticks + t + d - (d - w.last))
        (λ j lt.
        let (from, to) = back_to t w.first w.last j order lt in
        let place : block_ticks + t + d - (d - w.last) - j ≡ block_ticks + (t + w.last - j) = back_last block_ticks t w.last d j end (in_span w.first w.last j lt) in
        let tick : block_ticks + (t + w.last - j) - block_ticks ≡ t + w.last - j = cancel block_ticks (t + w.last - j) in
        let since : block_start first ≤ block_ticks + (t + w.last - j) = enough (t + w.last - j) w.first from in
        rw (place, le-leb (block_start first) (block_ticks + (t + w.last - j)) since, tick)
        (all_from_in (f w.cell) (t + w.first) (suc (t + w.last) - (t + w.first)) (t + w.last - j) h from to))
      where
        in_span : (a b j : ℕ) → j < suc b - a → j ≤ t + b
        in_span a b j lt = omega arith

        enough : (x a : ℕ) → t + a ≤ x → block_start first ≤ block_ticks + x
        enough x a h = omega (arith, late)

    pub arrives_complete : (ws : List Sweep) → Each (Orderly d) ws → sweeps_free f ws t ≡ true → arrives g ws d (block_ticks + t + d) ≡ true
    unfolding arrives
    arrives_complete [] fits h = all_nil _
    arrives_complete (w ∷ ws) (fit, rest) h =
        all_cons _ w ws (sweep_complete w fit (all_head _ w ws h)) (arrives_complete ws rest (all_tail _ w ws h))
