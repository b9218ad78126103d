-- `board_intervals::write_intervals` meets its contract. The invariant: writing what is left leaves what writing all intervals leaves, and
-- what the runs so far tell is so.
-- Assumes nothing.
use Prim.Native.Nat.{◌≤◌, ◌<◌}
use native.Mathlib.Omega.{arith}
use mathlib.Core.Path.{◌≡◌, sym, ◌∙◌}
use mathlib.Core.Bool.{false}
use lib.ListN.{length}
use Rattle.meaning.specs.Intervals.{begins, intervals, numbers_of}
use Rattle.meaning.specs.Calls.{over}
use Rattle.board_ticks.specs.Ticks.{frees}
use Rattle.board_ticks.proofs.TickLaws.{free_on_each}
use Rattle.board_intervals.proofs.Laws.{told_start, told_on, told_run, begins_untold, begins_told, turn_start, turn_skips, turn_begins, turn_count, turn_out, few, room}
use Rattle.board_intervals.proofs.write_intervals.Goals.{then-next-t+then-is_free, else-next-t, else-next-t-via-then-next-t+else-is_free, else-next-t-via-else-next-t}
use Rattle.board_intervals.proofs.write_intervals.Goals as goal

pub loop-t-init : goal.loop-t-init
loop-t-init c = (turn_start _ _ _, told_start _ _)

pub put_interval-requires-clause-k_in_bounds : goal.put_interval-requires-clause-k_in_bounds
put_interval-requires-clause-k_in_bounds c =
    let f = frees c.args.ticks.now in
    let inv = c.loop-t.invariant in
    let le : c.loop-t.t ≤ c.args.ticks.now.horizon = omega arith in
    let free = sym c.is_free.ensures.value ∙ c.if-is_free.true in
    room f _ _ _ _ _ inv.0 le (sym (begins_untold f _ _ _ inv.1 le c.if-next-t.true) ∙ free) c.requires

pub overflow_add-k : goal.overflow_add-k
overflow_add-k c =
    let a = c.args in
    omega (arith, few (frees a.ticks.now) _ _ _ _ _ c.loop-t.invariant.0)

pub loop-t-preserved : goal.loop-t-preserved
loop-t-preserved c =
    let f = frees c.args.ticks.now in
    let inv = c.loop-t.invariant in
    let le : c.loop-t.t ≤ c.args.ticks.now.horizon = omega arith in
    elim c.if-next-t.branch [
      | then-next-t+then-is_free w ↦
          let free = sym w.is_free.ensures.value ∙ w.if-is_free.true in
          let here = sym (begins_untold f _ _ _ inv.1 le w.if-next-t.true) ∙ free in (
            rw (w.k-is, w.out-is ∙ w.put_interval.ensures) (turn_begins f _ _ _ _ _ inv.0 _ le here w.run_end-last.ensures.value),
            rw w.next-is (told_run f _ _ _ inv.1 le free _ w.run_end-last.ensures.value),
          )
      | else-next-t w ↦
          let none : (begins f c.loop-t.t ≡ false) × (c.loop-t.next ≤ c.loop-t.t → f c.loop-t.t ≡ false) = elim w.else-next-t.branch [
            | else-next-t-via-then-next-t+else-is_free v ↦
                let held = sym v.is_free.ensures.value ∙ v.if-is_free.false in
                (sym (begins_untold f _ _ _ inv.1 le v.if-next-t.true) ∙ held, λ first. held)
            | else-next-t-via-else-next-t v ↦
                let later : c.loop-t.t < c.loop-t.next = omega (arith, v.if-next-t.false) in
                (begins_told f _ _ _ inv.1 le later, λ first. absurd (omega arith))
          ] in
          (rw (w.k-is, w.out-is) (turn_skips f _ _ _ _ _ inv.0 le none.0), rw w.next-is (told_on f _ _ _ inv.1 le none.1))
    ]

pub returns-clause-value : goal.returns-clause-value
returns-clause-value c = turn_count _ _ _ _ _ _ c.loop-t.invariant.0 (omega arith)

pub returns-clause-out_after : goal.returns-clause-out_after
returns-clause-out_after c = turn_out _ _ _ _ _ _ c.loop-t.invariant.0 (omega arith) c.requires

pub returns-clause-every_site : goal.returns-clause-every_site
returns-clause-every_site c = free_on_each c.args.ticks.now (λ f. length (intervals f c.args.ticks.now.horizon)) _ (returns-clause-value c)

pub returns-clause-out_every_site : goal.returns-clause-out_every_site
returns-clause-out_every_site c = free_on_each c.args.ticks.now (λ f. over (numbers_of (intervals f c.args.ticks.now.horizon)) c.args.out.now) _ (returns-clause-out_after c)
