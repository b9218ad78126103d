-- `site_values::motion_good` meets its contract.
-- Assumes nothing.
use mathlib.Core.Path.{◌≡◌, sym, ◌∙◌}
use mathlib.Core.Bool.{true, false}
use Rattle.meaning.specs.Site.{site_of, motion_of, ends_good, sweeps_good, motion_good}
use Rattle.fields.specs.Places.{field_at}
use Rattle.site_sweeps.specs.Places.{sweeps_in}
use Rattle.site_values.proofs.Laws.{motion_test, ends_below}
use native.Mathlib.Omega.{arith}
use Rattle.site_values.proofs.motion_good.Goals as goal

pub state_cell-x-requires : goal.state_cell-x-requires
state_cell-x-requires c =
    let l = ends_below _ _ _ _ (sym c.ends_good.ensures ∙ c.if-not-ends_good.false) in
    let k = l.0 in
    omega arith

pub state_cell-y-requires : goal.state_cell-y-requires
state_cell-y-requires c =
    let l = ends_below _ _ _ _ (sym c.ends_good.ensures ∙ c.if-not-ends_good.false) in
    let k = l.1 in
    omega arith

pub returns : goal.returns
returns c =
    let f = c.args.file.now.bytes.now in
    let r = c.read_motion-m in
    let m = r.result in
    let e : ends_good c.args.count m.from m.to m.span ≡ true = sym c.ends_good.ensures ∙ c.if-not-ends_good.false in
    let t : motion_good (site_of f) (motion_of (field_at f c.args.at)) ≡ sweeps_good c.args.cells c.state_cell-x.result c.state_cell-y.result m.span (sweeps_in c.sweeps_at-sweeps.result.now) =
    motion_test f (site_of f) (motion_of (field_at f c.args.at)) m _ _ r.ensures c.requires.cells_value.0 c.requires.cells_value.1
    ∙ simp (e, sym c.state_cell-x.ensures.0, sym c.state_cell-y.ensures.0, sym c.sweeps_at-sweeps.ensures) in
    c.sweeps_pass.ensures ∙ sym t

pub returns-then-not-ends_good : goal.returns-then-not-ends_good
returns-then-not-ends_good c =
    let f = c.args.file.now.bytes.now in
    let r = c.read_motion-m in
    let m = r.result in
    let e : ends_good c.args.count m.from m.to m.span ≡ false = sym c.ends_good.ensures ∙ c.if-not-ends_good.true in
    sym (motion_test f (site_of f) (motion_of (field_at f c.args.at)) m _ _ r.ensures c.requires.cells_value.0 c.requires.cells_value.1 ∙ simp e)
