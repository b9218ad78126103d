-- A light's plan: its start, where it ends, and the numbers that the light names.
-- Assumes nothing.
use Prim.Native.Nat.{ℕ, ◌≤◌, ◌<◌}
use native.Mathlib.Omega.{arith}
use mathlib.Core.Path.{◌≡◌, refl, sym, ap, ap₂, ◌∙◌}
use mathlib.Core.Bool.{Bool, true, false, ◌&&◌, and-true}
use mathlib.Core.List.{List, [], ◌∷◌}
use mathlib.Core.Option.{Option, none, some}
use lib.Dec.{leb, eqb}
use lib.ListN.{length}
use borrow.Author.Tests.{lt-ltb, le-ltb, ltb-true, leb-true, eqb-true}
use Rattle.meaning.specs.Basics.{every, all}
use Rattle.meaning.specs.Site.{Site, site_of, cell_of}
use Rattle.meaning.specs.Board.{Free}
use Rattle.meaning.specs.Plan as Plan
use Rattle.meaning.specs.Plan.{start_free, plan_end, walk, can_unload, wait, move}
use Rattle.meaning.specs.Light.{is_light, light_of, start_of}
use Rattle.meaning.specs.Calls.{is_at, light_valid, trip_named, step_named, light_named}
use Rattle.meaning.proofs.BasicsLaws.{every_at, every_fails}
use Rattle.light.specs.Heads.{head_of}
use Rattle.light.specs.declared.Head.{Head}
use Rattle.light.specs.Sizes.{first_step}
use Rattle.light_steps.specs.Steps.{steps_from}
use Rattle.light_read.proofs.HeadLaws.{accepted}
use Rattle.light_steps.proofs.StepLaws.{On}
use Rattle.plan_steps.specs.declared.Node.{Node}
use Rattle.plan_steps.specs.Nodes.{node_of, Here}
use Rattle.plan_check.specs.Walks.{start_in, goal_in}

-- ---- tests in a row

last_of_two : (w x : Bool) → w ≡ true → every (w ∷ x ∷ []) ≡ x
unfolding every
last_of_two w x p = rw p (and-true x)

last_of_three : (w x y : Bool) → w ≡ true → x ≡ true → every (w ∷ x ∷ y ∷ []) ≡ y
unfolding every
last_of_three w x y p q = rw (p, q) (and-true y)

-- two tests, and then one more
two_then : (w x y b : Bool) → every (w ∷ x ∷ []) ≡ b → every (w ∷ x ∷ y ∷ []) ≡ b && y
unfolding every
two_then true true y b h = rw (← h) (and-true y)
two_then true false y b h = rw (← h)
two_then false x y b h = rw (← h)

-- ---- where a plan may start

module _ (site : Site) (f : Free) (a : Plan.Node) where
  pub start_unknown : length site.states ≤ a.state → start_free site f a ≡ false
  unfolding start_free
  start_unknown h = every_fails _ 0 (le-ltb _ _ h)

  pub start_late : (h : ℕ) → site.horizon ≡ h → leb a.tick h ≡ false → start_free site f a ≡ false
  unfolding start_free
  start_late h p e = every_fails _ 1 (ap (leb a.tick) p ∙ e)

  pub start_is : (h : ℕ) → a.state < length site.states → site.horizon ≡ h → leb a.tick h ≡ true
      → start_free site f a ≡ f (cell_of site a.state) a.tick
  unfolding start_free
  start_is h k p e = last_of_three _ _ _ (lt-ltb _ _ k) (ap (leb a.tick) p ∙ e)

pub start_known : (file : List ℕ) (f : Free) (a : Node) → start_free (site_of file) f (node_of a) ≡ true → Here file a
unfolding start_free
start_known file f a h = record { state = ltb-true _ _ (every_at _ h 0); tick = leb-true _ _ (every_at _ h 1) }

-- ---- where it ends

pub same_node : (h : Head) (a g : Plan.Node) → g ≡ goal_in h → eqb a.state g.state && eqb a.tick g.tick ≡ is_at h.goal h.arrival (some a)
unfolding every
same_node h a g e = rw e (ap (λ (b : Bool). eqb a.state h.goal && b) (sym (and-true (eqb a.tick h.arrival))))

-- where the tug can unload there: the test of the code looks at the node that the walk ends at, which is the light's goal
module _ (site : Site) (f : Free) (h : Head) (a : Plan.Node) where
  abbrev unloads : Bool
  unloads = every (is_at h.goal h.arrival (some a) ∷ can_unload site f (goal_in h) h.dwell ∷ [])

  pub ends_elsewhere : is_at h.goal h.arrival (some a) ≡ false → unloads ≡ false
  ends_elsewhere e = every_fails (is_at h.goal h.arrival (some a) ∷ can_unload site f (goal_in h) h.dwell ∷ []) 0 e

  pub ends_there : is_at h.goal h.arrival (some a) ≡ true → unloads ≡ can_unload site f a h.dwell
  ends_there e =
      let state : a.state ≡ h.goal = eqb-true _ _ (every_at _ e 0) in
      let tick : a.tick ≡ h.arrival = eqb-true _ _ (every_at _ e 1) in
      last_of_two _ _ e ∙ (λ i. can_unload site f (record { state = sym state i; tick = sym tick i }) h.dwell)

-- by the numbers of the light's head, and where its start is
module _ (site : Site) (f : Free) (light : List ℕ) (h : Head) (e : h ≡ head_of (light_of light)) (start : Plan.Node) (s : start ≡ start_in h) where
  pub valid_off : start_free site f start ≡ false → light_valid site f (light_of light) ≡ false
  unfolding light_valid plan_end every
  valid_off p =
      let q : start_free site f (start_of (light_of light)) ≡ false = sym (ap (start_free site f) (s ∙ ap start_in e)) ∙ p in
      rw q

  pub valid_walk : is_light light ≡ true → start_free site f start ≡ true → (w : Option Plan.Node) → w ≡ walk site f (steps_from light first_step) start
      → every (is_at h.goal h.arrival w ∷ can_unload site f (goal_in h) h.dwell ∷ []) ≡ light_valid site f (light_of light)
  unfolding light_valid plan_end
  valid_walk lit p w g =
      let l = light_of light in
      let begins : start ≡ start_of l = s ∙ ap start_in e in
      let q : start_free site f (start_of l) ≡ true = sym (ap (start_free site f) begins) ∙ p in
      let leads : w ≡ walk site f l.steps (start_of l) = g ∙ ap₂ (walk site f) (accepted light lit).steps begins in
      ap₂ (λ (x : Head) (o : Option Plan.Node). every (is_at x.goal x.arrival o ∷ can_unload site f (goal_in x) x.dwell ∷ [])) e leads ∙ sym (rw q)

  -- a walk that stops
  pub valid_none : is_light light ≡ true → start_free site f start ≡ true → none ≡ walk site f (steps_from light first_step) start
      → false ≡ light_valid site f (light_of light)
  unfolding every
  valid_none lit p g = valid_walk lit p none g

-- ---- the motions that steps name

module _ (s : Site) (light : List ℕ) (at : ℕ) where
  step_named_lem : (later : ℕ) (p : Plan.Step) (b : Bool) → On light at later p → step_named s p ≡ b
      → all (step_named s) (steps_from light at) ≡ b && all (step_named s) (steps_from light later)
  unfolding all
  step_named_lem later p b o h = ap (all (step_named s)) o.steps ∙ ap (λ (c : Bool). c && all (step_named s) (steps_from light later)) h

  pub named_wait : {later n : ℕ} → On light at later (wait n) → all (step_named s) (steps_from light at) ≡ all (step_named s) (steps_from light later)
  named_wait o = step_named_lem _ _ true o refl

  pub named_hit : {later k : ℕ} (n : ℕ) → On light at later (move k) → length s.motions ≡ n → k < n
      → all (step_named s) (steps_from light at) ≡ all (step_named s) (steps_from light later)
  named_hit {k = k} n o e h = step_named_lem _ _ true o (lt-ltb k (length s.motions) (omega arith))

  pub named_miss : {later k : ℕ} (n : ℕ) → On light at later (move k) → length s.motions ≡ n → n ≤ k → all (step_named s) (steps_from light at) ≡ false
  named_miss {k = k} n o e h = step_named_lem _ _ false o (le-ltb k (length s.motions) (omega arith))

  pub named_end : steps_from light at ≡ [] → all (step_named s) (steps_from light at) ≡ true
  unfolding all
  named_end e = ap (all (step_named s)) e

-- ---- the states and ticks that a head names

module _ (s : Site) (h : Head) where
  abbrev named : Bool
  named = every (trip_named s (start_in h) h.goal h.dwell ∷ leb h.arrival s.horizon ∷ [])

  pub head_off : trip_named s (start_in h) h.goal h.dwell ≡ false → named ≡ false
  head_off p = every_fails _ 0 p

  pub head_on : trip_named s (start_in h) h.goal h.dwell ≡ true → (n : ℕ) → n ≡ s.horizon → named ≡ leb h.arrival n
  head_on p n e = last_of_two _ _ p ∙ ap (leb h.arrival) (sym e)

-- the whole light
pub light_names : (s : Site) (light : List ℕ) (h : Head) (b : Bool) → is_light light ≡ true → h ≡ head_of (light_of light)
    → every (trip_named s (start_in h) h.goal h.dwell ∷ leb h.arrival s.horizon ∷ []) ≡ b
    → light_named s (light_of light) ≡ b && all (step_named s) (steps_from light first_step)
unfolding light_named
light_names s light h b lit e t =
    let t' = sym (ap (λ (x : Head). every (trip_named s (start_in x) x.goal x.dwell ∷ leb x.arrival s.horizon ∷ [])) e) ∙ t in
    two_then _ _ (all (step_named s) (light_of light).steps) b t'
    ∙ ap (λ (ps : List Plan.Step). b && all (step_named s) ps) (sym (accepted light lit).steps)
