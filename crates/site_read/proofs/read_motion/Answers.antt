-- `site_read::read_motion` meets its contract.
-- Assumes nothing.
use mathlib.Core.Path.{sym, ap, ◌∙◌}
use Rattle.site_sweeps.specs.Places.{sweeps_at}
use Rattle.site_read.proofs.Laws.{motion_read}
use native.Mathlib.Omega.{arith}
use Rattle.site_read.proofs.read_motion.Goals as goal

pub number_at-requires : goal.number_at-requires
number_at-requires c =
    let f = c.args.file.now in
    let x = motion_read f c.args.at _ c.header_at-h.ensures.0 c.requires.2 in
    let i = x.inside in
    omega arith

pub number_at-requires-2 : goal.number_at-requires-2
number_at-requires-2 c =
    let f = c.args.file.now in
    let x = motion_read f c.args.at _ c.header_at-h.ensures.0 c.requires.2 in
    let i = x.inside in
    omega arith

pub bounds-file-h : goal.bounds-file-h
bounds-file-h c =
    let f = c.args.file.now in
    let x = motion_read f c.args.at _ c.header_at-h.ensures.0 c.requires.2 in
    let i = x.inside in
    omega arith

pub returns : goal.returns
returns c =
    let f = c.args.file.now in
    let x = motion_read f c.args.at _ c.header_at-h.ensures.0 c.requires.2 in
    let k = c.sweep_count.ensures in
    let i = x.inside in
    record {
      from = c.number_at.ensures.0 ∙ sym x.from;
      to = c.number_at-2.ensures.0 ∙ sym x.to;
      span = sym x.span;
      sweeps = ap (sweeps_at f _) k ∙ sym x.sweeps;
      inside = rw k i;
    }
