-- A walk of a light's steps from place to place: what is left to walk leads where the whole walk does.
-- Assumes nothing.
use Prim.Native.Nat.{ℕ, ◌≤◌, ◌<◌}
use native.Mathlib.Omega.{arith}
use mathlib.Core.Path.{◌≡◌, sym, ap, ◌∙◌, subst}
use mathlib.Core.Bool.{true, false}
use mathlib.Core.List.{List, [], ◌∷◌}
use mathlib.Core.Option.{none, some}
use lib.ListN.{length}
use Rattle.meaning.specs.Site.{Site, site_of, motion_at}
use Rattle.meaning.specs.Board.{Free}
use Rattle.meaning.specs.Plan as Plan
use Rattle.meaning.specs.Plan.{allowed, walk, start_free, plan_end}
use Rattle.meaning.specs.WellFormed.{WellFormed}
use Rattle.meaning.proofs.ReachLaws.{walk_step, reached_state, plan_reached}
use Rattle.light_steps.specs.Steps.{laid_from, steps_from}
use Rattle.light_steps.proofs.StepLaws.{On}
use Rattle.site_read.specs.Motions.{MotionIs}
use Rattle.site_read.specs.declared.Motion as ReadMotion
use Rattle.plan_steps.specs.declared.Node.{Node}
use Rattle.plan_steps.specs.Nodes.{node_of, Here}
use Rattle.plan_steps.proofs.NodeLaws.{Next}

-- ---- a motion that was read from the same file

pub shown_in : {file hall : List ℕ} (k : ℕ) {m : ReadMotion.Motion} → file ≡ hall → MotionIs file (motion_at (site_of file) k) m → MotionIs hall (motion_at (site_of hall) k) m
shown_in k {m} e = subst (λ (f : List ℕ). MotionIs f (motion_at (site_of f) k) m) e

-- ---- one step of a walk

module _ (site : Site) (f : Free) (p : Plan.Step) (ps : List Plan.Step) (a : Plan.Node) where
  walk_off : allowed site f p a ≡ false → walk site f (p ∷ ps) a ≡ none
  unfolding walk
  walk_off h = rw h

-- ---- the walk, at a place of the light

pub record Walking (file : List ℕ) (f : Free) (light : List ℕ) (first : ℕ) (start : Node) (at : ℕ) (here : Node) : Type 0 where
  pub laid : laid_from true light at ≡ true
  pub known : Here file here
  pub rest : walk (site_of file) f (steps_from light at) (node_of here) ≡ walk (site_of file) f (steps_from light first) (node_of start)

module _ {file : List ℕ} {f : Free} {light : List ℕ} {first : ℕ} {start : Node} {at : ℕ} {here : Node} (w : Walking file f light first start at here) where
  -- a step that is not allowed leads nowhere
  pub walk_stops : {later : ℕ} {p : Plan.Step} → On light at later p → allowed (site_of file) f p (node_of here) ≡ false
      → none ≡ walk (site_of file) f (steps_from light first) (node_of start)
  walk_stops {later} {p} o h =
      sym (ap (λ (ps : List Plan.Step). walk (site_of file) f ps (node_of here)) o.steps ∙ walk_off (site_of file) f p (steps_from light later) (node_of here) h)
      ∙ w.rest

  -- one that is allowed leads on
  pub walk_goes : {later : ℕ} {p : Plan.Step} {b : Node} → On light at later p → allowed (site_of file) f p (node_of here) ≡ true → Next file p here b
      → Walking file f light first start later b
  walk_goes {later} {p} o h n = record {
    laid = o.laid w.laid;
    known = n.known;
    rest =
        sym (ap (λ (ps : List Plan.Step). walk (site_of file) f ps (node_of here)) o.steps
        ∙ walk_step (site_of file) f p (steps_from light later) (node_of here) h
        ∙ ap (walk (site_of file) f (steps_from light later)) n.node)
        ∙ w.rest;
  }

  -- at the end
  pub walk_ends : steps_from light at ≡ [] → some (node_of here) ≡ walk (site_of file) f (steps_from light first) (node_of start)
  unfolding walk
  walk_ends e = sym (ap (λ (ps : List Plan.Step). walk (site_of file) f ps (node_of here)) e) ∙ w.rest

-- ---- where a plan ends: a state of the site, not past the horizon

pub end_known : (site : Site) → WellFormed site → (f : Free) (a : Plan.Node) (ps : List Plan.Step) (b : Plan.Node) → plan_end site f a ps ≡ some b
    → (b.state < length site.states) × (b.tick ≤ site.horizon)
end_known site well f a ps b ends =
    let (j, same, early, there) = plan_reached site well f a ps b ends in
    (reached_state site f a j b.state there, omega arith)

pub walk_known : (file : List ℕ) → WellFormed (site_of file) → (f : Free) (ps : List Plan.Step) (a : Plan.Node) (b : Node)
    → start_free (site_of file) f a ≡ true → some (node_of b) ≡ walk (site_of file) f ps a → Here file b
unfolding plan_end
walk_known file well f ps a b starts ends =
    let (state, tick) = end_known (site_of file) well f a ps (node_of b) (rw starts (sym ends)) in
    record { state = state; tick = tick }
