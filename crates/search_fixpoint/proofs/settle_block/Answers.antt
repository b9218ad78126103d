-- `search_fixpoint::settle_block` meets its contract: where no growth is noted, waits and motions are closed; a turn sets a bit, or is the last one.
-- Assumes nothing.
use mathlib.Core.Path.{◌∙◌}
use Rattle.search_spread.proofs.StepsLaws.{stepped_then}
use Rattle.search_fixpoint.proofs.TurnLaws.{settled, turn_less}
use Rattle.search_fixpoint.proofs.settle_block.Goals as goal

pub returns-clause-closed : goal.returns-clause-closed
returns-clause-closed c =
    settled c.args.lists.now c.set_first-2.new.flags c.loop-reached.notes.grown.now c.set_first.ensures.flags_are c.set_first-2.ensures.flags_are
    c.args.block.now.network.motions_lead (c.none_grown.ensures.none_grown c.loop-reached-test.false) c.loop-reached.invariant.1

pub loop-reached-smaller : goal.loop-reached-smaller
loop-reached-smaller c =
    turn_less c.args.block.now.network.state_count _ _ _ _ c.spread_all.ensures.steps.kept.sized (λ i. (c.type_inv.reached i).fits)
    (c.none_grown.ensures.some_grown c.loop-reached-test.true) c.spread_all.ensures.progress

pub loop-reached-preserved : goal.loop-reached-preserved
loop-reached-preserved c =
    let (same, steps, sized) = c.loop-reached.invariant in
    let all = c.spread_all.ensures in (
      record { allowed = all.same.allowed ∙ same.allowed; known = all.same.known ∙ same.known; grown = all.same.grown ∙ same.grown },
      stepped_then (λ g before now all tried. now all (before all tried)) steps all.steps,
      all.grown_len_unchanged ∙ sized,
    )
