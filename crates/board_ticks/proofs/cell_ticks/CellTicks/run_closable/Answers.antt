-- `board_ticks::CellTicks::run_closable` meets its contract.
-- Assumes nothing.
use native.Mathlib.Omega.{arith}
use mathlib.Core.Path.{sym, ◌∙◌}
use Rattle.board_ticks.specs.Ticks.{from_to}
use Rattle.board_ticks.proofs.TickLaws.{not_closable_of, clear_closable_of, closable_on_each}
use Rattle.board_ticks.proofs.cell_ticks.CellTicks.run_closable.Goals as goal

pub returns-then-none_held-clause-value : goal.returns-then-none_held-clause-value
returns-then-none_held-clause-value c =
    let a = c.args in
    c.no_tug.ensures
    ∙ clear_closable_of a.self.now a.first a.last _ _ (omega arith) c.requires c.saturating_sub-low.ensures c.later-high.ensures (sym c.none_held.ensures ∙ c.if-none_held.true)

pub returns-then-none_held-clause-every_site : goal.returns-then-none_held-clause-every_site
returns-then-none_held-clause-every_site c = closable_on_each c.args.self.now (λ f. from_to f c.args.first c.args.last) _ (returns-then-none_held-clause-value c)

pub returns-else-none_held-clause-value : goal.returns-else-none_held-clause-value
returns-else-none_held-clause-value c =
    let a = c.args in
    c.if-none_held.false
    ∙ not_closable_of a.self.now a.first a.last _ _ (omega arith) c.requires c.saturating_sub-low.ensures c.later-high.ensures (sym c.none_held.ensures ∙ c.if-none_held.false)

pub returns-else-none_held-clause-every_site : goal.returns-else-none_held-clause-every_site
returns-else-none_held-clause-every_site c = closable_on_each c.args.self.now (λ f. from_to f c.args.first c.args.last) _ (returns-else-none_held-clause-value c)
