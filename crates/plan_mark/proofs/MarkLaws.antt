-- Marking a plan's pairs from place to place: what is left to mark leaves the board as marking all does.
-- Assumes nothing.
use Prim.Native.Nat.{ℕ, suc, ◌+◌, ◌*◌, ◌-◌, ◌≤◌, ◌<◌}
use native.Mathlib.Omega.{arith}
use mathlib.Core.Path.{◌≡◌, refl, sym, ap, ap₂, ◌∙◌, subst}
use mathlib.Core.Bool.{true, false≢true}
use mathlib.Core.List.{List, [], ◌∷◌}
use mathlib.Core.Option.{Option, none, some}
use lib.ListN.{length}
use borrow.Author.Tests.{leb-true, ltb-true, eqb-true}
use Rattle.meaning.specs.Limits.{sweep_size}
use Rattle.meaning.specs.Site.{Site, Sweep, site_of, cell_of}
use Rattle.meaning.specs.Board.{Free, Pair, run, run_to, mark}
use Rattle.meaning.specs.Plan as Plan
use Rattle.meaning.specs.Plan.{wait, move, allowed, after, walk, start_free, plan_end, swept_pairs, step_pairs, walk_pairs, plan_pairs}
use Rattle.meaning.specs.WellFormed.{WellFormed}
use Rattle.meaning.specs.Light.{is_light, light_of, start_of, goal_of}
use Rattle.meaning.specs.Calls.{is_at, light_valid, light_pairs}
use Rattle.meaning.proofs.BasicsLaws.{every_at, when_test, when_value}
use Rattle.meaning.proofs.PlanLaws.{can_unload_lem}
use Rattle.meaning.proofs.BoardLaws.{mark_append, length_mark}
use Rattle.site_sweeps.specs.Places.{sweep_at, sweeps_at, SweepIs}
use Rattle.site_sweeps.specs.declared.Sweep as ReadSweep
use Rattle.site_sweeps.proofs.Laws.{rest_at, rest_whole, rest_none, rest_next}
use Rattle.light.specs.Heads.{head_of}
use Rattle.light.specs.declared.Head.{Head}
use Rattle.light.specs.Sizes.{first_step}
use Rattle.light_steps.specs.Steps.{laid_from, steps_from}
use Rattle.light_read.proofs.HeadLaws.{accepted}
use Rattle.light_steps.proofs.StepLaws.{On}
use Rattle.site.specs.declared.Sizes.{Sizes}
use Rattle.plan_steps.specs.declared.Node.{Node}
use Rattle.site.specs.Ready.{Ready}
use Rattle.plan_steps.specs.Nodes.{node_of, Here}
use Rattle.plan_steps.proofs.NodeLaws.{Next}
use Rattle.plan_check.specs.Walks.{start_in, goal_in}
use Rattle.plan_check.proofs.LightLaws.{start_known}
use Rattle.plan_check.proofs.WalkLaws.{end_known}
use Rattle.plan_mark.specs.InTime.{InTime}

-- a board of the same length serves as well
pub keep : {file : List ℕ} {m n : ℕ} {l : Sizes} → n ≡ m → Ready file m l → Ready file n l
keep e r = record { read = r.read; sizes = r.sizes; board = e ∙ r.board }

-- ---- a motion's sweeps from the number i on

module _ (site : Site) (h : ℕ) (file : List ℕ) (at n t : ℕ) where
  pub swept_all : (board : List ℕ) → mark site h (swept_pairs (rest_at file at n 0) t) board ≡ mark site h (swept_pairs (sweeps_at file at n) t) board
  swept_all board = ap (λ (ws : List Sweep). mark site h (swept_pairs ws t) board) (rest_whole file at n)

  pub swept_next : (i : ℕ) (w : ReadSweep.Sweep) (board new : List ℕ) → i < n → at + sweep_size * n ≤ length file → SweepIs (sweep_at file (at + sweep_size * i)) w
      → new ≡ mark site h (run_to w.cell (t + w.first) (t + w.last)) board
      → mark site h (swept_pairs (rest_at file at n i) t) board ≡ mark site h (swept_pairs (rest_at file at n (i + 1)) t) new
  swept_next i w board new lt inside u e =
      let ps : Sweep → List Pair = λ v. run_to v.cell (t + v.first) (t + v.last) in
      let ws = rest_at file at n (i + 1) in
      ap (λ (x : List Sweep). mark site h (swept_pairs x t) board) (rest_next file at n i lt inside)
      ∙ mark_append site h (ps (sweep_at file (at + sweep_size * i))) (swept_pairs ws t) board
      ∙ ap (mark site h (swept_pairs ws t)) (ap (λ (v : Sweep). mark site h (ps v) board) (sym u.same) ∙ sym e)

  pub swept_end : (i : ℕ) (board : List ℕ) → n ≤ i → mark site h (swept_pairs (rest_at file at n i) t) board ≡ board
  swept_end i board le = ap (λ (x : List Sweep). mark site h (swept_pairs x t) board) (rest_none file at n i le)

-- ---- a light's steps from a place on

pub record Marking (file : List ℕ) (h : ℕ) (light : List ℕ) (first : ℕ) (start : Node) (old : List ℕ) (at : ℕ) (here : Node) (board : List ℕ) : Type 0 where
  pub rest : mark (site_of file) h (walk_pairs (site_of file) (steps_from light at) (node_of here)) board
      ≡ mark (site_of file) h (walk_pairs (site_of file) (steps_from light first) (node_of start)) old
  pub room : length board ≡ length old
  pub laid : laid_from true light at ≡ true
  pub known : Here file here
  pub in_time : InTime (site_of file) (steps_from light at) (node_of here)

module _ {file : List ℕ} {h : ℕ} {light : List ℕ} {first : ℕ} {start : Node} {old : List ℕ} {at : ℕ} {here : Node} {board : List ℕ}
    (w : Marking file h light first start old at here board) where
  -- what is known of the step at the place
  pub steps_in_time : {later : ℕ} {p : Plan.Step} → On light at later p → InTime (site_of file) (p ∷ steps_from light later) (node_of here)
  steps_in_time o = subst (λ (ps : List Plan.Step). InTime (site_of file) ps (node_of here)) o.steps w.in_time

  -- a step whose pairs are marked leaves those of the steps behind it
  pub marks : {later : ℕ} {p : Plan.Step} {b : Node} → On light at later p → (new : List ℕ)
      → new ≡ mark (site_of file) h (step_pairs (site_of file) p (node_of here)) board → Next file p here b
      → InTime (site_of file) (steps_from light later) (after (site_of file) p (node_of here)) → Marking file h light first start old later b new
  marks {later} {p} o new e n t =
      let site = site_of file in
      let ps = step_pairs site p (node_of here) in
      let qs = walk_pairs site (steps_from light later) (after site p (node_of here)) in
      record {
        rest =
            sym (ap (λ (xs : List Plan.Step). mark site h (walk_pairs site xs (node_of here)) board) o.steps
            ∙ mark_append site h ps qs board
            ∙ ap₂ (λ (a : Plan.Node) (x : List ℕ). mark site h (walk_pairs site (steps_from light later) a) x) n.node (sym e))
            ∙ w.rest;
        room = ap length e ∙ length_mark site h ps board ∙ w.room;
        laid = o.laid w.laid;
        known = n.known;
        in_time = subst (InTime site (steps_from light later)) n.node t;
      }

  pub marks_end : steps_from light at ≡ [] → board ≡ mark (site_of file) h (walk_pairs (site_of file) (steps_from light first) (node_of start)) old
  marks_end e = sym (ap (λ (ps : List Plan.Step). mark (site_of file) h (walk_pairs (site_of file) ps (node_of here)) board) e) ∙ w.rest

-- ---- the steps of a valid plan end by the horizon

walk_in_time : (site : Site) (f : Free) (ps : List Plan.Step) (a b : Plan.Node) → walk site f ps a ≡ some b → InTime site ps a
unfolding walk allowed
walk_in_time site f [] a b h = tt
walk_in_time site f (wait n ∷ ps) a b h =
    let rest = walk site f ps (after site (wait n) a) in
    let ok : allowed site f (wait n) a ≡ true = when_test _ rest h in
    (leb-true _ _ (every_at _ ok 3), walk_in_time site f ps (after site (wait n) a) b (when_value (allowed site f (wait n) a) rest h))
walk_in_time site f (move k ∷ ps) a b h =
    let rest = walk site f ps (after site (move k) a) in
    let ok : allowed site f (move k) a ≡ true = when_test _ rest h in
    (ltb-true _ _ (every_at _ ok 0), leb-true _ _ (every_at _ ok 3), walk_in_time site f ps (after site (move k) a) b (when_value (allowed site f (move k) a) rest h))

valid_end : (s t : ℕ) (o : Option Plan.Node) → is_at s t o ≡ true → (a : Plan.Node) × (o ≡ some a) × (a.state ≡ s) × (a.tick ≡ t)
valid_end s t none h = absurd (false≢true h)
valid_end s t (some a) h = (a, refl, eqb-true _ _ (every_at _ h 0), eqb-true _ _ (every_at _ h 1))

-- what a valid light's head gives to the marking
module _ (file : List ℕ) (f : Free) (light : List ℕ) (lit : is_light light ≡ true) (valid : light_valid (site_of file) f (light_of light) ≡ true)
    (hd : Head) (e : hd ≡ head_of (light_of light)) (start : Node) (s : node_of start ≡ start_in hd) where
  begins : node_of start ≡ start_of (light_of light)
  begins = s ∙ ap start_in e

  pub valid_start : Here file start
  unfolding light_valid plan_end
  valid_start =
      let l = light_of light in
      let (b, ends, state, tick) = valid_end l.goal l.arrival (plan_end (site_of file) f (start_of l) l.steps) (every_at _ valid 0) in
      let ok = when_test _ (walk (site_of file) f l.steps (start_of l)) ends in
      start_known file f start (ap (start_free (site_of file) f) begins ∙ ok)

  pub valid_steps : InTime (site_of file) (steps_from light first_step) (node_of start)
  unfolding light_valid plan_end
  valid_steps =
      let l = light_of light in
      let site = site_of file in
      let (b, ends, state, tick) = valid_end l.goal l.arrival (plan_end site f (start_of l) l.steps) (every_at _ valid 0) in
      let led = when_value (start_free site f (start_of l)) (walk site f l.steps (start_of l)) ends in
      subst (InTime site (steps_from light first_step)) (sym begins)
      (subst (λ (ps : List Plan.Step). InTime site ps (start_of l)) (sym (accepted light lit).steps) (walk_in_time site f l.steps (start_of l) b led))

-- and to that of its unloading
pub valid_dock : (file : List ℕ) → WellFormed (site_of file) → (f : Free) (light : List ℕ) → light_valid (site_of file) f (light_of light) ≡ true
    → (hd : Head) → hd ≡ head_of (light_of light) → (goal : Node) → node_of goal ≡ goal_in hd
    → Here file goal × (goal.tick.0 + hd.dwell ≤ (site_of file).horizon)
unfolding light_valid
valid_dock file well f light valid hd e goal g =
    let l = light_of light in
    let (b, ends, state, tick) = valid_end l.goal l.arrival (plan_end (site_of file) f (start_of l) l.steps) (every_at _ valid 0) in
    let (known, early) = end_known (site_of file) well f (start_of l) l.steps b ends in
    let there : node_of goal ≡ goal_of l = g ∙ ap goal_in e in
    let same_state : goal.state ≡ l.goal = ap (λ (a : Plan.Node). a.state) there in
    let same_tick : goal.tick.0 ≡ l.arrival = ap (λ (a : Plan.Node). a.tick) there in
    let same_dwell : hd.dwell ≡ l.dwell = ap (λ (h : Head). h.dwell) e in
    let in_time : l.arrival + l.dwell ≤ (site_of file).horizon = (can_unload_lem (site_of file) f (goal_of l) l.dwell (every_at _ valid 1)).in_time in
    (record { state = omega arith; tick = omega arith }, omega arith)

-- the start's pair, then the steps', then those of the unloading
pub light_marks : (site : Site) (light : List ℕ) (hd : Head) (start goal : Node) (old begun walked new : List ℕ) → is_light light ≡ true
    → hd ≡ head_of (light_of light) → node_of start ≡ start_in hd → node_of goal ≡ goal_in hd
    → begun ≡ mark site hd.tug (step_pairs site (wait 0) (node_of start)) old
    → walked ≡ mark site hd.tug (walk_pairs site (steps_from light first_step) (node_of start)) begun
    → new ≡ mark site hd.tug (step_pairs site (wait hd.dwell) (node_of goal)) walked
    → new ≡ mark site (light_of light).tug (light_pairs site (light_of light)) old
unfolding plan_pairs
light_marks site light hd start goal old begun walked new lit e s g p q r =
    let l = light_of light in
    let begins : node_of start ≡ start_of l = s ∙ ap start_in e in
    let ends : node_of goal ≡ goal_of l = g ∙ ap goal_in e in
    let one : suc (l.tick + 0) - l.tick ≡ 1 = omega arith in
    let pair : step_pairs site (wait 0) (start_of l) ≡ record { cell = cell_of site l.start; tick = l.tick } ∷ [] = ap (run (cell_of site l.start) l.tick) one in
    let steps : List Pair = walk_pairs site l.steps (start_of l) in
    let dock : List Pair = step_pairs site (wait l.dwell) (goal_of l) in
    let first : List ℕ = mark site l.tug (record { cell = cell_of site l.start; tick = l.tick } ∷ []) old in
    let begun_is : begun ≡ first =
    p ∙ (λ i. mark site (e i).tug (step_pairs site (wait 0) (begins i)) old) ∙ ap (λ (ps : List Pair). mark site l.tug ps old) pair in
    let walked_is : walked ≡ mark site l.tug steps first =
    q ∙ (λ i. mark site (e i).tug (walk_pairs site ((accepted light lit).steps i) (begins i)) (begun_is i)) in
    r ∙ (λ i. mark site (e i).tug (step_pairs site (wait (e i).dwell) (ends i)) (walked_is i)) ∙ sym (mark_append site l.tug steps dock first)
