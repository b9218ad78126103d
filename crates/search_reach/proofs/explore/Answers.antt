-- `search_reach::explore` meets its contract: below each block the pairs are exactly the reached ones, and the tug could not end before.
-- Assumes nothing.
use Prim.Native.Nat.{◌≤◌}
use native.Mathlib.Omega.{arith}
use Rattle.search_reach.proofs.BlockLaws.{facts}
use Rattle.search_reach.proofs.LoopLaws.{reaching_start, no_end_start, reaching_turn, no_end_turn, end_found, reached_found, no_end_left}
use Rattle.search_reach.proofs.explore.Goals as goal

pub seed-requires : goal.seed-requires
seed-requires c = (
  omega (arith, c.requires.scratch.reached, c.requires.start_lt_states.0),
  omega (arith, (facts c.args.scene.now.hall.ready).short, c.requires.start_lt_states.1.1),
)

pub loop-block-init : goal.loop-block-init
loop-block-init c =
    let early : c.args.trip.tick ≤ 1000 = omega (arith, (facts c.args.scene.now.hall.ready).short, c.requires.start_lt_states.1.1) in
    record {
      reaching = reaching_start c.args.scene.now c.args.ends.now c.args.tables c.args.trip _ _ _ c.requires.empty.0 c.requires.empty.1 early c.seed.ensures;
      no_end = no_end_start c.args.scene.now c.args.ends.now c.args.tables c.args.trip early;
    }

pub explore_block-requires-clause-block_lt_blocks : goal.explore_block-requires-clause-block_lt_blocks
explore_block-requires-clause-block_lt_blocks c = omega (arith, (facts c.args.scene.now.hall.ready).short)

pub first_end-arrival-requires : goal.first_end-arrival-requires
first_end-arrival-requires c = (
  omega (arith, c.explore_block.auto.reached, c.requires.scratch.reached, c.requires.start_lt_states.1.0),
  (
    omega (arith, c.max-low.ensures, c.min-high.ensures, c.loop-block.invariant.reaching.from, c.requires.start_lt_states.1.1),
    omega (arith, c.min-high.ensures, (facts c.args.scene.now.hall.ready).short),
  ),
)

-- what one more block leaves, and that the first end in it is that of the search
pub returns-then-arrival-high-clause-first_end : goal.returns-then-arrival-high-clause-first_end
returns-then-arrival-high-clause-first_end c =
    let n = c.requires.start_lt_states in
    let i = c.loop-block.invariant in
    let done = c.explore_block.ensures.by_first _ i.reaching.from c.fill_lists.ensures.listed i.reaching.ahead in
    end_found c.args.scene.now c.args.ends.now c.args.tables c.args.trip n.0 n.1.1 c.requires.start_free _ _ _
    (reaching_turn _ _ _ _ _ _ _ _ _ (omega (arith, (facts c.args.scene.now.hall.ready).short)) c.explore_block.ensures.kept done i.reaching)
    i.no_end _ _ _ c.max-low.ensures c.min-high.ensures c.first_end-arrival.ensures c.if-arrival-high.true

pub returns-then-arrival-high-clause-reached_pairs : goal.returns-then-arrival-high-clause-reached_pairs
returns-then-arrival-high-clause-reached_pairs c =
    let n = c.requires.start_lt_states in
    let i = c.loop-block.invariant in
    let done = c.explore_block.ensures.by_first _ i.reaching.from c.fill_lists.ensures.listed i.reaching.ahead in
    λ there. reached_found c.args.scene.now c.args.ends.now c.args.tables c.args.trip n.0 n.1.1 c.requires.start_free _ _ _
    (reaching_turn _ _ _ _ _ _ _ _ _ (omega (arith, (facts c.args.scene.now.hall.ready).short)) c.explore_block.ensures.kept done i.reaching)
    i.no_end _ _ _ c.max-low.ensures c.min-high.ensures c.first_end-arrival.ensures c.if-arrival-high.true

pub loop-block-preserved : goal.loop-block-preserved
loop-block-preserved c =
    let n = c.requires.start_lt_states in
    let i = c.loop-block.invariant in
    let done = c.explore_block.ensures.by_first _ i.reaching.from c.fill_lists.ensures.listed i.reaching.ahead in
    let reaching = reaching_turn c.args.scene.now c.args.ends.now c.args.tables c.args.trip _ _ _ _ _ (omega (arith, (facts c.args.scene.now.hall.ready).short)) c.explore_block.ensures.kept done i.reaching in
    record {
      reaching = reaching;
      no_end = no_end_turn c.args.scene.now c.args.ends.now c.args.tables c.args.trip n.0 n.1.1 c.requires.start_free _ _ _
          reaching i.no_end _ _ _ c.max-low.ensures c.min-high.ensures c.first_end-arrival.ensures (omega (arith, c.if-arrival-high.false));
    }

pub returns-clause-first_end : goal.returns-clause-first_end
returns-clause-first_end c =
    let n = c.requires.start_lt_states in
    no_end_left c.args.scene.now c.args.ends.now c.args.tables c.args.trip n.0 n.1.1 c.requires.start_free _ (omega (arith, c.loop-block-test.false)) c.loop-block.invariant.no_end

pub overflow_add-sizes : goal.overflow_add-sizes
overflow_add-sizes c = omega (arith, (facts c.args.scene.now.hall.ready).short)
