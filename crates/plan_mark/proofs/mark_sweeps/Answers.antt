-- `plan_mark::mark_sweeps` meets its contract. The invariant: marking the sweeps from i on leaves the board as marking all does.
-- Assumes nothing.
use native.Mathlib.Omega.{arith}
use mathlib.Core.Path.{sym, ◌∙◌}
use Rattle.meaning.specs.Site.{site_of}
use Rattle.plan_steps.proofs.Laws.{swept_at}
use Rattle.plan_mark.proofs.MarkLaws.{keep, swept_all, swept_next, swept_end}
use Rattle.plan_mark.proofs.mark_sweeps.Goals as goal

pub mark_sweep-requires : goal.mark_sweep-requires
mark_sweep-requires c =
    let p = c.requires in
    let m = c.args.m in
    (keep c.loop-i.auto.board p.ready.0, swept_at c.args.file.now.bytes.now m.first m.count m.span c.loop-i.i c.args.t.0 _ p.ready.1 (omega arith) p.span_bound c.read_sweep-w.ensures)

pub loop-i-init : goal.loop-i-init
loop-i-init c = swept_all (site_of c.args.file.now.bytes.now) c.args.tug c.args.file.now.bytes.now c.args.m.first c.args.m.count c.args.t.0 _

pub loop-i-preserved : goal.loop-i-preserved
loop-i-preserved c = let l = c.loop-i in
    let m = c.args.m in
    sym (swept_next (site_of c.args.file.now.bytes.now) c.args.tug c.args.file.now.bytes.now m.first m.count c.args.t.0 l.i c.read_sweep-w.result l.board _ (omega arith) c.requires.ready.1.inside c.read_sweep-w.ensures c.mark_sweep.ensures)
    ∙ l.invariant

pub returns : goal.returns
returns c = let l = c.loop-i in
    sym (swept_end (site_of c.args.file.now.bytes.now) c.args.tug c.args.file.now.bytes.now c.args.m.first c.args.m.count c.args.t.0 l.i l.board (omega arith)) ∙ l.invariant
