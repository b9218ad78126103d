-- `search_arrivals::arrivals_of` meets its contract: what is left to test, with the words as they are, is the whole test.
-- Assumes nothing.
use Prim.Native.Nat.{ℕ, suc, ◌<◌}
use mathlib.Core.Bool.{Bool}
use Rattle.search_runs.specs.Runs.{table_of, Tables}
use Rattle.search_arrivals.proofs.SweepLaws.{Testing}
use Rattle.search_arrivals.proofs.arrivals_of.Given as goal

abbrev pub invariant-loop-i : goal.invariant-loop-i
invariant-loop-i l = (g : ℕ → ℕ → Bool) (tables b : ℕ) → table_of (suc l.span) < tables → Tables g l.cells tables b l.tab → Testing g l.sweeps l.place l.count l.span b l.x l.i
