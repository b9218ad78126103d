-- `search_runs::longer_runs` meets its contract: the rows of the cells below c are done.
-- Assumes nothing.
use Rattle.std.proofs.Common.{ℕ, ◌<◌, ◌≡◌, Bool, length}
use Rattle.search_runs.specs.Runs.{Halves, Tables}
use Rattle.search_runs.proofs.TableLaws.{Lengthening}
use Rattle.search_runs.proofs.longer_runs.Given as goal

abbrev pub invariant-loop-c : goal.invariant-loop-c
invariant-loop-c l = (length l.tab ≡ length l.initial.tab) × ((g : ℕ → ℕ → Bool) (tables b : ℕ) → l.t < tables → Halves g l.cells tables b l.initial.tab → Tables g l.cells l.t b l.initial.tab → Lengthening g l.cells tables b l.t l.tab l.c)
