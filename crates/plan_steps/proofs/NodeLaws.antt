-- The node after a step, as the code has it: it is the step's, and its state and tick are the site's.
-- Assumes nothing.
use Prim.Native.Nat.{ℕ, ◌+◌, ◌≤◌, ◌<◌}
use native.Mathlib.Omega.{arith}
use mathlib.Core.Path.{◌≡◌, sym, ◌∙◌}
use mathlib.Core.List.{List}
use lib.ListN.{length}
use Rattle.meaning.specs.Site.{site_of, motion_at}
use Rattle.meaning.specs.Plan as Plan
use Rattle.meaning.specs.Plan.{wait, move, after}
use Rattle.site_read.specs.declared.Motion as ReadMotion
use Rattle.site_read.specs.Motions.{MotionIs}
use Rattle.plan_steps.specs.declared.Node.{Node}
use Rattle.plan_steps.specs.Nodes.{node_of, Here}

pub record Next (file : List ℕ) (p : Plan.Step) (a b : Node) : Type 0 where
  pub node : after (site_of file) p (node_of a) ≡ node_of b
  pub known : Here file b

pub next_wait : {file : List ℕ} {n : ℕ} {a b : Node} → Here file a → a.tick.0 + n ≤ (site_of file).horizon
    → (b.state ≡ a.state) × (b.tick.0 ≡ a.tick.0 + n) → Next file (wait n) a b
next_wait here in_time (s, t) =
    let k = here.state in
    record { node = λ i. record { state = sym s i; tick = sym t i }; known = record { state = omega arith; tick = omega arith } }

pub next_move : {file : List ℕ} {k : ℕ} {m : ReadMotion.Motion} {a b : Node} → MotionIs file (motion_at (site_of file) k) m
    → m.to < length (site_of file).states → a.tick.0 + (motion_at (site_of file) k).span ≤ (site_of file).horizon
    → (b.state ≡ m.to) × (b.tick.0 ≡ a.tick.0 + m.span) → Next file (move k) a b
next_move {file} {k} {m} {a} {b} shown known in_time (s, t) =
    let state : b.state ≡ (motion_at (site_of file) k).to = s ∙ shown.to in
    let tick : b.tick.0 ≡ a.tick.0 + (motion_at (site_of file) k).span = omega (arith, shown.span) in
    record { node = λ i. record { state = sym state i; tick = sym tick i }; known = record { state = omega arith; tick = omega arith } }
