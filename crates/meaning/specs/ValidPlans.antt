-- Valid plans, reached pairs, the arrival and the traced rule as relations, in the words of 'Valid plans' and 'Light' of docs/FORMATS.md,
-- which follow the problem statement of SIPP-IP (Ali and Yakovlev). No test and no search stands in them.
-- Assumes nothing.
use Rattle.std.specs.Prelude.{ℕ, ◌+◌, ◌≤◌, ◌<◌, ◌≡◌, true, List, [], ◌∷◌, length}
use Rattle.meaning.specs.Basics.{Each, Some}
use Rattle.meaning.specs.Site.{Site, Sweep, state_at, motion_at, cell_of}
use Rattle.meaning.specs.Board.{Free}
use Rattle.meaning.specs.Plan.{Step, wait, move, Node}

-- ---- valid plans

-- the cell is free from the tick t to the tick u
abbrev pub FreeFromTo : Free → ℕ → ℕ → ℕ → Type 0
FreeFromTo f c t u = (x : ℕ) → t ≤ x → x ≤ u → f c x ≡ true

-- the steps are allowed one after the other from the node a, and end at the node b
pub data Leads (site : Site) (f : Free) : Node → List Step → Node → Type 0 where
  ends : {a b : Node} → a ≡ b → Leads site f a [] b
  -- a wait of n ≥ 1 needs a standing state and its cell free from t to t + n
  waits : {a b : Node} {n : ℕ} {ps : List Step}
      → 1 ≤ n
      → (state_at site a.state).speed ≡ 0
      → FreeFromTo f (cell_of site a.state) a.tick (a.tick + n)
      → a.tick + n ≤ site.horizon
      → Leads site f (record { state = a.state; tick = a.tick + n }) ps b
      → Leads site f a (wait n ∷ ps) b
  -- a motion needs its from state, and each swept cell free from t + first to t + last
  moves : {a b : Node} {m : ℕ} {ps : List Step}
      → m < length site.motions
      → (motion_at site m).from ≡ a.state
      → Each (λ (w : Sweep). FreeFromTo f w.cell (a.tick + w.first) (a.tick + w.last)) (motion_at site m).sweeps
      → a.tick + (motion_at site m).span ≤ site.horizon
      → Leads site f (record { state = (motion_at site m).to; tick = a.tick + (motion_at site m).span }) ps b
      → Leads site f a (move m ∷ ps) b

-- valid steps from a to b: they start at a state and tick whose cell is free then
pub record Valid (site : Site) (f : Free) (a : Node) (ps : List Step) (b : Node) : Type 0 where
  pub state_known : a.state < length site.states
  pub tick_known : a.tick ≤ site.horizon
  pub start_free_lem : f (cell_of site a.state) a.tick ≡ true
  pub leads : Leads site f a ps b

-- unloading at b: the goal's cell is free from the arrival to the arrival plus the dwell, and that last tick is at most the horizon
pub record Unloads (site : Site) (f : Free) (b : Node) (dwell : ℕ) : Type 0 where
  pub dock_free : FreeFromTo f (cell_of site b.state) b.tick (b.tick + dwell)
  pub in_time : b.tick + dwell ≤ site.horizon

-- a valid plan from a that arrives at b and unloads there
pub record ValidPlan (site : Site) (f : Free) (a : Node) (ps : List Step) (b : Node) (dwell : ℕ) : Type 0 where
  pub valid : Valid site f a ps b
  pub unloads : Unloads site f b dwell

-- a pair is reached if some valid steps from the start lead there
pub record Reached (site : Site) (f : Free) (a b : Node) : Type 0 where
  pub steps : List Step
  pub valid : Valid site f a steps b

-- the arrival: the least tick at which the goal is reached and the tug can unload
pub record Arrival (site : Site) (f : Free) (a : Node) (goal dwell t : ℕ) : Type 0 where
  pub reached : Reached site f a (record { state = goal; tick = t })
  pub unloads : Unloads site f (record { state = goal; tick = t }) dwell
  pub least : (u : ℕ) → Reached site f a (record { state = goal; tick = u }) → Unloads site f (record { state = goal; tick = u }) dwell → t ≤ u

-- ---- the pairs that a plan holds

-- one of the steps from a uses the cell at the tick
pub data Along (site : Site) (c t : ℕ) : Node → List Step → Type 0 where
  by_wait_lem : {a : Node} {n : ℕ} {ps : List Step} → c ≡ cell_of site a.state → a.tick ≤ t → t ≤ a.tick + n → Along site c t a (wait n ∷ ps)
  by_motion_lem : {a : Node} {m : ℕ} {ps : List Step}
      → Some (λ (w : Sweep). (c ≡ w.cell) × (a.tick + w.first ≤ t) × (t ≤ a.tick + w.last)) (motion_at site m).sweeps
      → Along site c t a (move m ∷ ps)
  after_wait : {a : Node} {n : ℕ} {ps : List Step}
      → Along site c t (record { state = a.state; tick = a.tick + n }) ps
      → Along site c t a (wait n ∷ ps)
  after_motion : {a : Node} {m : ℕ} {ps : List Step}
      → Along site c t (record { state = (motion_at site m).to; tick = a.tick + (motion_at site m).span }) ps
      → Along site c t a (move m ∷ ps)

-- the plan from a to b holds the pair: its start's, one that a step uses, or one of its unloading at b; and nothing later
pub data Holds (site : Site) (a : Node) (ps : List Step) (b : Node) (dwell c t : ℕ) : Type 0 where
  at_start : c ≡ cell_of site a.state → t ≡ a.tick → Holds site a ps b dwell c t
  on_the_way : Along site c t a ps → Holds site a ps b dwell c t
  at_goal : c ≡ cell_of site b.state → b.tick ≤ t → t ≤ b.tick + dwell → Holds site a ps b dwell c t

-- ---- the traced rule

-- the step is allowed from a pair that is reached, and leads here
pub record StepTo (site : Site) (f : Free) (a : Node) (p : Step) (earlier here : Node) : Type 0 where
  pub reached : Reached site f a earlier
  pub allowed : Leads site f earlier (p ∷ []) here

-- the trace from the start a to a pair, last step first, each wait one tick
pub data Traced (site : Site) (f : Free) (a : Node) : Node → List Step → Type 0 where
  begun : {b : Node} → a ≡ b → Traced site f a b []
  -- at each pair other than the start, a one-tick wait if it is allowed and its earlier pair is reached
  took_wait : {b here : Node} {back : List Step}
      → (a ≡ here → ⊥)
      → StepTo site f a (wait 1) b here
      → Traced site f a b back
      → Traced site f a here (wait 1 ∷ back)
  -- else the lowest numbered allowed motion whose earlier pair is reached
  took_motion : {b here : Node} {m : ℕ} {back : List Step}
      → (a ≡ here → ⊥)
      → ((c : Node) → StepTo site f a (wait 1) c here → ⊥)
      → StepTo site f a (move m) b here
      → ((k : ℕ) (c : Node) → k < m → StepTo site f a (move k) c here → ⊥)
      → Traced site f a b back
      → Traced site f a here (move m ∷ back)

-- the steps of a trace, first step first, in front of later ones: adjoining waits merge
abbrev pub merge_waits : List Step → List Step → List Step
merge_waits [] later = later
merge_waits (move m ∷ back) later = merge_waits back (move m ∷ later)
merge_waits (wait n ∷ back) [] = merge_waits back (wait n ∷ [])
merge_waits (wait n ∷ back) (move m ∷ later) = merge_waits back (wait n ∷ move m ∷ later)
merge_waits (wait n ∷ back) (wait k ∷ later) = merge_waits back (wait (n + k) ∷ later)
