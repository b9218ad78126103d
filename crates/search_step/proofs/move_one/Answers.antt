-- `search_step::move_one` meets its contract: a motion that can set nothing new is closed, and else its row is at hand for the push.
-- Assumes nothing.
use Prim.Native.Nat.{◌<◌}
use native.Mathlib.Omega.{arith}
use mathlib.Core.Path.{sym, ◌∙◌}
use Rattle.search_step.proofs.StepLaws.{quiet_closed, Prepared, prepared_known, push_set, push_within, push_closed}
use Rattle.search_step.proofs.move_one.Goals as goal
use Rattle.search_step.proofs.move_one.Goals.{then-not-known-m+else-news-eq0, else-not-known-m}

pub returns-then-news-eq0-clause-closed : goal.returns-then-news-eq0-clause-closed
returns-then-news-eq0-clause-closed c g right ready =
    let a = c.args in
    let block = a.block.now in
    let network = block.network in
    let lt = c.requires.m_in_bounds in
    let is_to = c.to_of-to.ensures in
    -- the cell of the state to which the motion leads
    let cell_known : c.cell_of-cell.result < network.cell_count
    = omega (arith, c.cell_of-cell.ensures, network.cells_known c.to_of-to.result (omega (arith, is_to, network.motions_lead.to a.m lt))) in (
      ready,
      (
        λ R closed inside. inside,
        quiet_closed right a.reached.now a.m c.from_of-from.result c.to_of-to.result c.span_of-span.result c.cell_of-cell.result
            lt c.from_of-from.ensures is_to c.span_of-span.ensures c.cell_of-cell.ensures
            cell_known (c.news.ensures c.if-news-eq0.true),
      ),
    )

pub returns-clause-row_set : goal.returns-clause-row_set
returns-clause-row_set c =
    let a = c.args in
    let block = a.block.now in
    let network = block.network in
    let span = network.motions_read.span a.m c.requires.m_in_bounds in
    let is_span = c.span_of-span.ensures in
    let done = c.push.ensures in
    push_set network.motions.now a.reached.now c.push.new.l c.if-not-known-m.allowed block.number a.m c.from_of-from.result c.to_of-to.result c.span_of-span.result
    block.in_range c.from_of-from.ensures c.to_of-to.ensures is_span (omega (arith, span, is_span)) done.changed c.push.result done.grown

pub returns-clause-closed : goal.returns-clause-closed
returns-clause-closed c g right ready =
    let a = c.args in
    let block = a.block.now in
    let network = block.network in
    let mv = network.motions.now in
    let m = a.m in
    let lt = c.requires.m_in_bounds in
    let al = c.if-not-known-m.allowed in
    let known = c.if-not-known-m.known in
    let joined : Prepared network.cell_count network.state_count network.motion_count block.number m network.states.now mv network.sweeps.now block.tab.now a.known.now a.allowed.now known al =
    elim c.if-not-known-m.branch [
      | then-not-known-m+else-news-eq0 w ↦ rw (w.allowed-is, w.known-is)
          (record { sized = w.prepare.ensures.allowed_len_unchanged; rows = λ g right ready. w.prepare.ensures.ready g right ready })
      | else-not-known-m w ↦ prepared_known network.cell_count network.state_count network.motion_count block.number m network.states.now mv network.sweeps.now block.tab.now a.known.now a.allowed.now known al
          lt w.if-not-known-m.false w.allowed-is w.known-is
    ] in
    let rows = joined.rows g right ready in
    let is_from = c.from_of-from.ensures in
    let is_to = c.to_of-to.ensures in
    let is_span = c.span_of-span.ensures in
    let span = network.motions_read.span m lt in
    let changed = c.push.ensures.changed in
    let l' = c.push.new.l in
    let from = c.from_of-from.result in
    let to = c.to_of-to.result in (
      rows.0,
      (
        push_within mv a.reached.now l' al block.number m from to c.span_of-span.result
            block.in_range is_from is_to is_span (omega (arith, span, is_span)) changed network.sweeps.now g rows.1,
        push_closed mv a.reached.now l' al block.number m from to c.span_of-span.result
            block.in_range is_from is_to is_span (omega (arith, span, is_span)) changed network.sweeps.now g rows.1
            (λ same. network.motions_lead.apart m lt (sym is_from ∙ same ∙ is_to)),
      ),
    )
