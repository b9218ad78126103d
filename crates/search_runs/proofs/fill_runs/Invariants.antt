-- `search_runs::fill_runs` meets its contract: the tables below t are done.
-- Assumes nothing.
use Rattle.std.proofs.Common.{ℕ, ◌≡◌, Bool, length}
use Rattle.search_runs.specs.Runs.{Halves, FirstTable, Tables}
use Rattle.search_runs.proofs.fill_runs.Given as goal

abbrev pub invariant-loop-t : goal.invariant-loop-t
invariant-loop-t l =
    (length l.tab ≡ length l.initial.tab)
    × ((g : ℕ → ℕ → Bool) (b : ℕ) → Halves g l.cells l.tables b l.initial.tab → FirstTable g l.cells b l.initial.tab → Halves g l.cells l.tables b l.tab × Tables g l.cells l.t b l.tab)
