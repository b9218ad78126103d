-- `board_ticks::CellTicks::run_free` meets its contract.
-- Assumes nothing.
use native.Mathlib.Omega.{arith}
use mathlib.Core.Path.{◌∙◌}
use Rattle.board_ticks.specs.Ticks.{from_to}
use Rattle.board_ticks.proofs.TickLaws.{clear_free_of, free_on_each}
use Rattle.board_ticks.proofs.cell_ticks.CellTicks.run_free.Goals as goal

pub returns-clause-value : goal.returns-clause-value
returns-clause-value c = c.none_held.ensures ∙ clear_free_of c.args.self.now c.args.first c.args.last _ _ (omega arith) c.requires c.saturating_sub-low.ensures c.later-high.ensures

pub returns-clause-every_site : goal.returns-clause-every_site
returns-clause-every_site c = free_on_each c.args.self.now (λ f. from_to f c.args.first c.args.last) _ (returns-clause-value c)
