-- `site_sweeps::covers` meets its contract.
-- Assumes nothing.
use borrow.Author.Tests.{eq-eqb}
use Rattle.site_sweeps.proofs.covers.Goals as goal

pub returns-then-w-cell : goal.returns-then-w-cell
returns-then-w-cell c = simp (eq-eqb _ _ c.if-w-cell.true) c.meets.ensures.value
