-- `board_ticks::CellTicks::is_free` meets its contract.
-- Assumes nothing.
use native.Mathlib.Omega.{arith}
use mathlib.Core.Path.{◌∙◌}
use Rattle.board_ticks.specs.Ticks.{frees}
use Rattle.board_ticks.proofs.TickLaws.{clear_free_of, free_on_each, one_tick}
use Rattle.board_ticks.proofs.cell_ticks.CellTicks.is_free.Goals as goal

pub returns-clause-value : goal.returns-clause-value
returns-clause-value c =
    c.few_free.ensures
    ∙ clear_free_of c.args.self.now c.args.t c.args.t _ _ (omega arith) c.requires c.saturating_sub-low.ensures c.later-high.ensures
    ∙ one_tick (frees c.args.self.now) c.args.t

pub returns-clause-every_site : goal.returns-clause-every_site
returns-clause-every_site c = free_on_each c.args.self.now (λ f. f c.args.t) _ (returns-clause-value c)
