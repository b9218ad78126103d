-- `board_intervals::run_end` meets its contract. The invariant: the run from the last tick on ends where the run from first on does.
-- Assumes nothing.
use Prim.Native.Nat.{◌+◌, ◌-◌}
use native.Mathlib.Omega.{arith}
use mathlib.Core.Path.{◌≡◌, refl, sym, ap, ◌∙◌}
use mathlib.Core.Bool.{true, false}
use Rattle.meaning.specs.Intervals.{run_end}
use Rattle.board_ticks.specs.Ticks.{frees}
use Rattle.board_ticks.proofs.TickLaws.{free_on_each}
use Rattle.board_intervals.proofs.Laws.{end_stop, end_next, end_last}
use Rattle.board_intervals.proofs.run_end.Goals as goal

pub returns-then-not-is_free-clause-value : goal.returns-then-not-is_free-clause-value
returns-then-not-is_free-clause-value c =
    let l = c.loop-t in
    let f = frees c.args.ticks.now in
    let held : f (l.last + 1) ≡ false = ap f l.invariant.0 ∙ sym c.is_free.ensures.value ∙ c.if-not-is_free.true in
    sym (end_stop f l.last c.args.ticks.now.horizon (omega arith) held) ∙ l.invariant.1

pub returns-then-not-is_free-clause-every_site : goal.returns-then-not-is_free-clause-every_site
returns-then-not-is_free-clause-every_site c = free_on_each c.args.ticks.now (λ f. run_end f c.args.first (c.args.ticks.now.horizon - c.args.first)) _ (returns-then-not-is_free-clause-value c)

pub loop-t-preserved : goal.loop-t-preserved
loop-t-preserved c =
    let l = c.loop-t in
    let f = frees c.args.ticks.now in
    let goes : f (l.last + 1) ≡ true = ap f l.invariant.0 ∙ sym c.is_free.ensures.value ∙ c.if-not-is_free.false in
    (refl, rw (← l.invariant.0) (sym (end_next f l.last c.args.ticks.now.horizon (omega arith) goes)) ∙ l.invariant.1)

pub returns-clause-value : goal.returns-clause-value
returns-clause-value c =
    let l = c.loop-t in
    sym (end_last (frees c.args.ticks.now) l.last c.args.ticks.now.horizon (omega arith)) ∙ l.invariant.1

pub returns-clause-every_site : goal.returns-clause-every_site
returns-clause-every_site c = free_on_each c.args.ticks.now (λ f. run_end f c.args.first (c.args.ticks.now.horizon - c.args.first)) _ (returns-clause-value c)
