-- Time at the dock: what a dwell asks for, and that a dwell of 0 adds nothing.
-- Assumes nothing.
use Prim.Native.Nat.{ℕ, ◌+◌, ◌≤◌}
use native.Mathlib.Omega.{arith}
use mathlib.Core.Path.{◌≡◌, refl, sym, subst}
use mathlib.Core.Bool.{true}
use mathlib.Core.List.{List, [], ◌∷◌}
use mathlib.Core.Logic.{◌⊎◌, inl, inr}
use Rattle.meaning.specs.Basics.{Each, here, there}
use Rattle.meaning.specs.Site.{Site, Sweep, cell_of, motion_at}
use Rattle.meaning.specs.Board.{Free}
use Rattle.meaning.specs.Plan.{Step, wait, Node}
use Rattle.meaning.specs.ValidPlans.{FreeFromTo, Leads, ends, waits, moves, Valid, Unloads, Along, by_wait_lem, by_motion_lem, after_wait, after_motion, Holds, at_start, on_the_way, at_goal}
use Rattle.meaning.specs.WellFormed.{Uses, WellFormed}
use Rattle.meaning.specs.Laws.{DwellRight}
use Rattle.meaning.proofs.MotionLaws.{good_at}
use Rattle.meaning.proofs.PlanLaws.{can_unload_lem, unload_can}
use Rattle.meaning.proofs.HandoverLaws.{used_at}

wait_unloads : (site : Site) (f : Free) (b c : Node) (n : ℕ) → Leads site f b (wait n ∷ []) c → Unloads site f b n
wait_unloads site f b c n (waits pos stands free_there in_time l) = record { dock_free = free_there; in_time = in_time }

-- a cell that a sweep uses at an offset is free then, where each swept cell is
free_used : (f : Free) (start c j : ℕ) {ws : List Sweep} → Each (λ (w : Sweep). FreeFromTo f w.cell (start + w.first) (start + w.last)) ws → Uses ws c j
    → f c (start + j) ≡ true
free_used f start c j {ws = []} _ x5 = elim x5 [ ]
free_used f start c j {ws = w ∷ ws} (x, xs) (here (same, lo, hi)) = subst (λ (d : ℕ). f d (start + j) ≡ true) same (x (start + j) (omega arith) (omega arith))
free_used f start c j {ws = w ∷ ws} (x, xs) (there s) = free_used f start c j xs s

-- ---- where valid steps end

-- the cell is free, the tick is not past the horizon, and the pair is the start's or one that a step uses
pub record Ended (site : Site) (f : Free) (a : Node) (ps : List Step) (b : Node) : Type 0 where
  pub end_free : f (cell_of site b.state) b.tick ≡ true
  pub in_time : b.tick ≤ site.horizon
  pub held : ((cell_of site b.state ≡ cell_of site a.state) × (b.tick ≡ a.tick)) ⊎ Along site (cell_of site b.state) b.tick a ps

module _ (site : Site) (good : WellFormed site) (f : Free) where
  leads_ended : {a b : Node} {ps : List Step} → f (cell_of site a.state) a.tick ≡ true → a.tick ≤ site.horizon → Leads site f a ps b
      → Ended site f a ps b
  leads_ended {a} {b} free_here early (ends same) =
      subst (Ended site f a []) same (record { end_free = free_here; in_time = early; held = inl (refl, refl) })
  leads_ended {a} {b} free_here early (waits {n = n} {ps = ps} pos stand free_there in_time l) =
      let e : Ended site f (record { state = a.state; tick = a.tick + n }) ps b = leads_ended (free_there (a.tick + n) (omega arith) (omega arith)) in_time l in
      record {
        end_free = e.end_free;
        in_time = e.in_time;
        held = elim e.held [ inl (cell, tick) ↦ inr (by_wait_lem {a = a} {n = n} {ps = ps} cell (omega arith) (omega arith)) | inr on ↦ inr (after_wait on) ];
      }
  leads_ended {a} {b} free_here early (moves {m = m} {ps = ps} known start free_there in_time l) =
      let to : ℕ = cell_of site (motion_at site m).to in
      let used : Uses (motion_at site m).sweeps to (motion_at site m).span = (good_at site good m known).to_cell in
      let e : Ended site f (record { state = (motion_at site m).to; tick = a.tick + (motion_at site m).span }) ps b =
      leads_ended (free_used f a.tick to (motion_at site m).span free_there used) in_time l in
      record {
        end_free = e.end_free;
        in_time = e.in_time;
        held = elim e.held [
          | inl (cell, tick) ↦ inr (by_motion_lem {a = a} {m = m} {ps = ps} (used_at a.tick _ (motion_at site m).span b.tick (sym tick) (subst (λ (c : ℕ). Uses (motion_at site m).sweeps c (motion_at site m).span) (sym cell) used)))
          | inr on ↦ inr (after_motion on)
        ];
      }

  valid_ended : (a : Node) (ps : List Step) (b : Node) → Valid site f a ps b → Ended site f a ps b
  valid_ended a ps b v = leads_ended v.start_free_lem v.tick_known v.leads

  no_dwell : (a : Node) (ps : List Step) (b : Node) → Valid site f a ps b → Unloads site f b 0
  no_dwell a ps b v =
      let e : Ended site f a ps b = valid_ended a ps b v in
      let early : b.tick ≤ site.horizon = e.in_time in
      record {
        dock_free = λ x lo hi. (let same : b.tick ≡ x = omega arith in rw (← same) e.end_free);
        in_time = omega arith;
      }

  no_dwell_holds : (a : Node) (ps : List Step) (b : Node) → Valid site f a ps b → (c t : ℕ) → Holds site a ps b 0 c t
      → ((c ≡ cell_of site a.state) × (t ≡ a.tick)) ⊎ Along site c t a ps
  no_dwell_holds a ps b v c t (at_start cell tick) = inl (cell, tick)
  no_dwell_holds a ps b v c t (on_the_way on) = inr on
  no_dwell_holds a ps b v c t (at_goal cell lo hi) =
      let now : b.tick ≡ t = omega arith in
      rw (cell, ← now) (valid_ended a ps b v).held

pub dwell_right : DwellRight
dwell_right = record {
  unloaded = can_unload_lem;
  all_unloaded = unload_can;
  as_a_wait = λ site f b n pos stands u. waits pos stands u.dock_free u.in_time (ends refl);
  wait_unloads = wait_unloads;
  no_dwell = no_dwell;
  no_dwell_holds = no_dwell_holds;
}
