-- `search_step::wait_one` meets its contract: a state that does not stand has no waits, and else the block of its row is filled.
-- Assumes nothing.
use native.Mathlib.Omega.{arith}
use mathlib.Core.Path.{◌≡◌}
use Rattle.search_site.specs.Arrays.{speed_at}
use Rattle.search_step.proofs.StepLaws.{fill_set, fill_within, fill_closed}
use Rattle.search_step.proofs.wait_one.Goals as goal

pub returns-clause-row_set : goal.returns-clause-row_set
returns-clause-row_set c =
    let a = c.args in
    let filled = c.fill.ensures in
    fill_set a.reached.now c.fill.new.l a.tab.now a.block a.s c.cell_of-cell.result (omega arith) filled.changed c.fill.result filled.grown

pub returns-clause-closed : goal.returns-clause-closed
returns-clause-closed c g k mv sw right =
    let a = c.args in
    let stands : speed_at a.states.now a.s ≡ 0 = omega arith in
    let is_cell = c.cell_of-cell.ensures in
    let known_cell = c.requires.states.1.0 a.s c.requires.states.1.1 in
    let l' = c.fill.new.l in
    let cell = c.cell_of-cell.result in
    let changed = c.fill.ensures.changed in (
      fill_within a.reached.now l' a.tab.now a.block a.s cell (omega arith) changed g a.cells a.n k a.states.now mv sw right is_cell (omega arith) stands,
      fill_closed a.reached.now l' a.tab.now a.block a.s cell (omega arith) changed g a.cells a.n k a.states.now mv sw right is_cell (omega arith) stands,
    )
