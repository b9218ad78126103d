-- `search_trace::trace_back` meets its contract: each turn is a clause of `trace`.
-- Assumes nothing.
use native.Mathlib.Omega.{arith}
use Rattle.light_write.specs.Codes.{steps_in}
use Rattle.light_write.proofs.CodeLaws.{length_steps}
use Rattle.plan_steps.proofs.Laws.{known}
use Rattle.search_back.proofs.SceneLaws.{state_known}
use Rattle.search_trace.proofs.LoopLaws.{low_word, going_first, going_wait, going_back, going_motion, going_move, going_done}
use Rattle.search_trace.proofs.trace_back.Goals as goal

pub loop-t-init : goal.loop-t-init
unfolding steps_in
loop-t-init c = going_first _ _ _ _ _ c.requires.found.0 c.requires.found.1 (state_known c.args.scene.now _ c.requires.goal_lt_states.0)

pub back_at-requires : goal.back_at-requires
back_at-requires c =
    let g = c.loop-t.invariant in
    let k = known c.args.scene.now.hall.ready in
    record {
      listed = (c.fill_lists.ensures.listed, omega (arith, c.fill_lists.ensures.lists_len_unchanged, c.requires.goal_lt_states.1.1));
      s_lt_states = (omega (arith, g.state, k.states), (g.started, (omega (arith, g.in_time, k.horizon), c.requires.goal_lt_states.1.0)));
    }

pub push_wait-requires : goal.push_wait-requires
push_wait-requires c =
    let g = c.loop-t.invariant in
    (omega (arith, g.few, length_steps c.loop-t.path.codes c.loop-t.path.count), omega (arith, g.waits))

pub loop-t-preserved-in-Wait : goal.loop-t-preserved-in-Wait
loop-t-preserved-in-Wait c = going_wait _ _ _ _ _ _ _ _ _ c.loop-t-test.true c.loop-t.invariant c.in-Wait.ensures c.push_wait.ensures

pub push_move-requires : goal.push_move-requires
push_move-requires c =
    let scene = c.args.scene.now in
    let motion = going_motion _ _ _ _ _ _ _ _ _ c.loop-t-test.true c.loop-t.invariant c.in-Move.ensures c.requires.found.0 c.requires.found.1 in (
      omega (arith, c.loop-t.invariant.few, length_steps c.loop-t.path.codes c.loop-t.path.count),
      omega (arith, motion.known, (known scene.hall.ready).motions, scene.arrays.motions.few),
    )

pub from_of-s-requires-clause-m_lt_k : goal.from_of-s-requires-clause-m_lt_k
from_of-s-requires-clause-m_lt_k c =
    let motion = going_motion _ _ _ _ _ _ _ _ _ c.loop-t-test.true c.loop-t.invariant c.in-Move.ensures c.requires.found.0 c.requires.found.1 in
    omega (arith, motion.known, (known c.args.scene.now.hall.ready).motions)

pub span_of-span-requires-clause-m_lt_k : goal.span_of-span-requires-clause-m_lt_k
span_of-span-requires-clause-m_lt_k c =
    let motion = going_motion _ _ _ _ _ _ _ _ _ c.loop-t-test.true c.loop-t.invariant c.in-Move.ensures c.requires.found.0 c.requires.found.1 in
    omega (arith, motion.known, (known c.args.scene.now.hall.ready).motions)

pub overflow_sub-t-in-Move : goal.overflow_sub-t-in-Move
overflow_sub-t-in-Move c =
    let motion = going_motion _ _ _ _ _ _ _ _ _ c.loop-t-test.true c.loop-t.invariant c.in-Move.ensures c.requires.found.0 c.requires.found.1 in
    omega (arith, motion.in_time, c.span_of-span.ensures)

pub loop-t-smaller : goal.loop-t-smaller
loop-t-smaller c =
    let motion = going_motion _ _ _ _ _ _ _ _ _ c.loop-t-test.true c.loop-t.invariant c.in-Move.ensures c.requires.found.0 c.requires.found.1 in
    omega (arith, motion.takes_time, motion.in_time, c.span_of-span.ensures)

pub loop-t-preserved : goal.loop-t-preserved
loop-t-preserved c =
    let motion = going_motion _ _ _ _ _ _ _ _ _ c.loop-t-test.true c.loop-t.invariant c.in-Move.ensures c.requires.found.0 c.requires.found.1 in
    going_move _ _ _ _ _ _ _ _ _ _ _ _ c.loop-t-test.true c.loop-t.invariant c.in-Move.ensures motion
    c.from_of-s.ensures c.span_of-span.ensures c.push_move.ensures

pub unreachable-requires : goal.unreachable-requires
unreachable-requires c =
    going_back _ _ _ _ _ _ _ _ _ c.loop-t-test.true c.loop-t.invariant c.back_at.ensures (low_word _ c.in-Start.is) c.requires.found.0 c.requires.found.1

pub returns : goal.returns
returns c = going_done _ _ _ _ _ _ _ _ c.loop-t-test.false c.loop-t.invariant
