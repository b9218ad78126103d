-- Handover: at each tick before it has unloaded a valid plan holds some one cell at that tick and the next.
-- Assumes nothing.
use Prim.Native.Nat.{ℕ, suc, ◌+◌, ◌-◌, ◌≤◌, ◌<◌}
use native.Mathlib.Omega.{arith}
use mathlib.Core.Path.{◌≡◌, refl, sym, ap}
use mathlib.Core.List.{List}
use lib.Dec.{ltb}
use borrow.Author.Tests.{ltb-true, ltb-false}
use Rattle.meaning.specs.Basics.{Some, here, there}
use Rattle.meaning.specs.Site.{Site, Sweep, cell_of, motion_at}
use Rattle.meaning.specs.Board.{Free}
use Rattle.meaning.specs.Plan.{Step, Node}
use Rattle.meaning.specs.ValidPlans.{Leads, ends, waits, moves, ValidPlan, Along, by_wait_lem, by_motion_lem, after_wait, after_motion, Holds, on_the_way, at_goal}
use Rattle.meaning.specs.WellFormed.{Uses, WellFormed}
use Rattle.meaning.specs.Laws.{HandoverRight}
use Rattle.meaning.proofs.BasicsLaws.{decide}
use Rattle.meaning.proofs.MotionLaws.{good_at}

-- a cell that a sweep uses at an offset, as a cell in use at a tick
pub used_at : (start c j t : ℕ) → start + j ≡ t → {ws : List Sweep} → Uses ws c j
    → Some (λ (w : Sweep). (c ≡ w.cell) × (start + w.first ≤ t) × (t ≤ start + w.last)) ws
used_at start c j t e (here {x = w} (same, lo, hi)) = here {x = w} (sym same, omega arith, omega arith)
used_at start c j t e (there s) = there (used_at start c j t e s)

module _ (site : Site) (good : WellFormed site) (f : Free) where
  leads_handed : {a b : Node} {ps : List Step} → Leads site f a ps b → (t : ℕ) → a.tick ≤ t → t < b.tick
      → (c : ℕ) × Along site c t a ps × Along site c (suc t) a ps
  leads_handed {b = b} (ends {a = a} same) t lo hi =
      let same_tick : a.tick ≡ b.tick = ap (λ (x : Node). x.tick) same in
      absurd (omega arith)
  leads_handed (waits {a = a} {n = n} pos stand free_there in_time l) t lo hi =
      decide (ltb t (a.tick + n))
      (λ q. let lt : t < a.tick + n = ltb-true _ _ q in (cell_of site a.state, by_wait_lem refl lo (omega arith), by_wait_lem refl (omega arith) lt))
      (λ q. let (c, now, next) = leads_handed l t (ltb-false _ _ q) hi in (c, after_wait now, after_wait next))
  leads_handed (moves {a = a} {m = m} known start free_there in_time l) t lo hi =
      decide (ltb t (a.tick + (motion_at site m).span))
      (λ q.
      let lt : t < a.tick + (motion_at site m).span = ltb-true _ _ q in
      let j : ℕ = t - a.tick in
      let (c, now, next) = (good_at site good m known).handed_over j (omega arith) in
      (c, by_motion_lem (used_at a.tick c j t (omega arith) now), by_motion_lem (used_at a.tick c (suc j) (suc t) (omega arith) next)))
      (λ q. let (c, now, next) = leads_handed l t (ltb-false _ _ q) hi in (c, after_motion now, after_motion next))

pub plan_handed : (site : Site) → WellFormed site → (f : Free) (a : Node) (ps : List Step) (b : Node) (dwell : ℕ) → ValidPlan site f a ps b dwell
    → (t : ℕ) → a.tick ≤ t → t < b.tick + dwell
    → (c : ℕ) × Holds site a ps b dwell c t × Holds site a ps b dwell c (suc t)
plan_handed site good f a ps b dwell v t lo hi =
    decide (ltb t b.tick)
    (λ q. let (c, now, next) = leads_handed site good f v.valid.leads t lo (ltb-true _ _ q) in (c, on_the_way now, on_the_way next))
    (λ q. let late : b.tick ≤ t = ltb-false _ _ q in (cell_of site b.state, at_goal refl late (omega arith), at_goal refl (omega arith) hi))

pub handover_right : HandoverRight
handover_right = record {
  handed = plan_handed;
  no_swap = λ site good f a d ps qs b e dwell other v apart t lo hi enters.
      let (c, now, next) = plan_handed site good f a ps b dwell v t lo hi in apart c t now (enters c next);
}
