-- `search_fixpoint::spread_all` meets its contract: every state whose turn comes before s was tried.
-- Assumes nothing.
use mathlib.Core.Path.{◌∙◌}
use Rattle.search_spread.proofs.StepsLaws.{stepped_then}
use Rattle.search_spread.proofs.ProgressLaws.{progress_then}
use Rattle.search_fixpoint.proofs.TurnLaws.{quiet_more}
use Rattle.search_fixpoint.proofs.spread_all.Goals as goal

pub loop-s-preserved : goal.loop-s-preserved
loop-s-preserved c =
    let (same, steps, sized, progress) = c.loop-s.invariant in
    let one = c.spread_one.ensures in (
      record { allowed = one.same.allowed ∙ same.allowed; known = one.same.known ∙ same.known; grown = one.same.grown ∙ same.grown },
      stepped_then (λ g before now all tried. now all (before all tried)) steps one.steps,
      one.grown_len_unchanged ∙ sized,
      progress_then
          (λ before now. quiet_more c.loop-s.notes.grown.now c.spread_one.new.notes.grown.now c.args.block.now.network.state_count c.args.down c.loop-s.s _ c.loop-s-test.true c.in_turn.ensures.0 before now)
          progress one.progress,
    )
