-- `desk_board::interval` meets its contract.
-- Assumes nothing.
use native.Mathlib.Omega.{arith}
use Prim.Native.Nat.{ℕ, ◌≤◌, ◌<◌}
use mathlib.Core.Path.{◌≡◌, refl, ap, ◌∙◌}
use mathlib.Core.Bool.{Bool}
use lib.ListN.{length}
use Rattle.meaning.specs.Intervals.{intervals}
use mathlib.Core.List.{[], ◌∷◌}
use Rattle.meaning.specs.Calls.{interval, lends}
use Rattle.site.specs.Halls.{free_in}
use Rattle.checks.proofs.Laws.{passed_on, refused_first}
use Rattle.checks.proofs.Passed.{ready_short}
use Rattle.checks_board.proofs.Laws.{ready_horizon}
use Rattle.board_intervals.proofs.Laws.{fits}
use Rattle.answers.proofs.Laws.{refused_number, refused_values, refused_out}
use Rattle.desk_board.proofs.IntervalLaws.{no_count, interval_refused, interval_accepted, cell_in, interval_fits, interval_counted, interval_left}
use Rattle.desk_board.proofs.interval.Goals as goal

pub returns-in_err-hall : goal.returns-in_err-hall
returns-in_err-hall c = let first = refused_first _ (lends _ c.args.out.now []) (interval c.args.cell) _ c.in_err-hall.ensures.number in
    record {
      number = passed_on _ _ c.from_residual.ensures ∙ refused_number _ (lends _ _ []) (interval _) _ first;
      values = no_count _ _ c.from_residual.ensures ∙ refused_values _ (lends _ _ []) (interval _) _ first;
      out_after = refused_out _ (lends _ _ []) (interval _) _ first;
      file_unchanged = refl;
      board_unchanged = refl;
    }

pub check_interval-requires : goal.check_interval-requires
check_interval-requires c = ready_short c.in_ok-hall.hall.ready

pub returns-in_err-check_interval : goal.returns-in_err-check_interval
returns-in_err-check_interval c =
    let made = c.in_ok-hall.ensures in
    let first = interval_refused _ _ c.args.out.now _ c.in_ok-hall.hall made.hall made.number _ c.in_err-check_interval.ensures in
    record {
      number = passed_on _ _ c.from_residual-in_err-check_interval.ensures ∙ refused_number _ (lends _ _ []) (interval _) _ first;
      values = no_count _ _ c.from_residual-in_err-check_interval.ensures ∙ refused_values _ (lends _ _ []) (interval _) _ first;
      out_after = refused_out _ (lends _ _ []) (interval _) _ first;
      file_unchanged = refl;
      board_unchanged = refl;
    }

pub ticks_of-ticks-requires : goal.ticks_of-ticks-requires
ticks_of-ticks-requires c =
    let made = c.in_ok-hall.ensures in
    omega (arith, cell_in _ _ c.args.out.now _ c.in_ok-hall.hall made.hall made.number c.in_ok-check_interval.ensures)

pub write_intervals-count-requires : goal.write_intervals-count-requires
write_intervals-count-requires c =
    let made = c.in_ok-hall.ensures in
    interval_fits _ _ c.args.out.now _ c.in_ok-hall.hall made.hall made.number c.in_ok-check_interval.ensures _ _ refl c.ticks_of-ticks.ensures.horizon

-- few enough for 16 bits, whatever is free
few : (good : ℕ → Bool) (h n : ℕ) → n ≡ length (intervals good h) → h ≤ 1000 → n < 65536
few good h n counted short = omega (arith, fits good h)

pub overflow_cast-result : goal.overflow_cast-result
overflow_cast-result c =
    let ready = c.in_ok-hall.hall.ready in
    record {
      fits = few _ _ _ c.write_intervals-count.ensures.value (omega (arith, ready_short ready, ready_horizon ready, c.ticks_of-ticks.ensures.horizon));
    }

pub returns : goal.returns
returns c =
    let made = c.in_ok-hall.ensures in
    let ticks = c.ticks_of-ticks.ensures in
    record {
      number = interval_accepted _ _ c.args.out.now _ c.in_ok-hall.hall made.hall made.number c.in_ok-check_interval.ensures;
      values = ap (λ (n : ℕ). n ∷ []) (omega arith)
          ∙ interval_counted _ _ c.args.out.now _ c.in_ok-hall.hall made.hall made.number c.in_ok-check_interval.ensures
          _ _ (ticks.frees ∙ ap (free_in c.in_ok-hall.hall) (omega arith)) ticks.horizon _ c.write_intervals-count.ensures.value;
      out_after = interval_left _ _ _ _ c.in_ok-hall.hall made.hall made.number c.in_ok-check_interval.ensures
          _ _ (ticks.frees ∙ ap (free_in c.in_ok-hall.hall) (omega arith)) ticks.horizon _ c.write_intervals-count.ensures.out_after;
      file_unchanged = refl;
      board_unchanged = refl;
    }
