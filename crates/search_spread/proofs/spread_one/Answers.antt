-- `search_spread::spread_one` meets its contract: by cases of its tests, and then waits before motions.
-- Assumes nothing.
use Rattle.search_spread.proofs.WalkLaws.{state_empty, state_steps}
use Rattle.search_spread.proofs.spread_one.Goals as goal

pub returns-then-window_union-eq0-clause-steps : goal.returns-then-window_union-eq0-clause-steps
returns-then-window_union-eq0-clause-steps c =
    let a = c.args in
    state_empty a.notes.now.known.now a.notes.now.allowed.now a.reached.now a.notes.now.grown.now a.lists.now a.s
    a.block.now.in_range a.block.now.network.motions_read (c.window_union.ensures c.if-window_union-eq0.true)

pub returns-clause-steps : goal.returns-clause-steps
returns-clause-steps c =
    let a = c.args in
    let waited = c.wait_one in
    let moved = c.move_from in
    state_steps waited.new.reached a.notes.now.grown.now moved.new.notes.grown.now a.lists.now a.s waited.result a.block.now.in_range c.requires.s_in_bounds.0
    waited.ensures.row_set waited.ensures.closed moved.ensures.steps moved.ensures.grown_len_unchanged.1
