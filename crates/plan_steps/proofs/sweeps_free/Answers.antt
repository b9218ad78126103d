-- `plan_steps::sweeps_free` meets its contract. The invariant: the sweeps from i on answer as all do.
-- Assumes nothing.
use mathlib.Core.Path.{sym, ◌∙◌}
use Rattle.site.specs.Halls.{free_in}
use Rattle.site_sweeps.proofs.Laws.{read_test, all_none, all_hit, all_miss}
use Rattle.plan_steps.proofs.Laws.{use_free, swept_at}
use native.Mathlib.Omega.{arith}
use Rattle.plan_steps.proofs.sweeps_free.Goals as goal

pub sweep_free-requires : goal.sweep_free-requires
sweep_free-requires c = swept_at c.args.hall.now.file.bytes.now c.args.m.first c.args.m.count c.args.m.span c.loop-i.i c.args.t.0 _ c.requires.sweeps (omega arith) c.requires.span_bound c.read_sweep-w.ensures

pub returns-then-not-sweep_free : goal.returns-then-not-sweep_free
returns-then-not-sweep_free c = let l = c.loop-i in
    let f = free_in c.args.hall.now in
    let e = read_test (use_free f c.args.t.0) c.read_sweep-w.ensures c.sweep_free.ensures c.if-not-sweep_free.true in
    sym (all_miss (use_free f c.args.t.0) c.args.hall.now.file.bytes.now c.args.m.first c.args.m.count l.i (omega arith) c.requires.sweeps.inside e) ∙ l.invariant

pub loop-i-preserved : goal.loop-i-preserved
loop-i-preserved c = let l = c.loop-i in
    let f = free_in c.args.hall.now in
    let e = read_test (use_free f c.args.t.0) c.read_sweep-w.ensures c.sweep_free.ensures c.if-not-sweep_free.false in
    sym (all_hit (use_free f c.args.t.0) c.args.hall.now.file.bytes.now c.args.m.first c.args.m.count l.i (omega arith) c.requires.sweeps.inside e) ∙ l.invariant

pub returns : goal.returns
returns c = let l = c.loop-i in
    let f = free_in c.args.hall.now in
    sym (all_none (use_free f c.args.t.0) c.args.hall.now.file.bytes.now c.args.m.first c.args.m.count l.i (omega arith)) ∙ l.invariant
