-- `site_values::motions_good` meets its contract. The invariant: the motions from the count on, which start at the place, answer as all do.
-- Assumes nothing.
use Prim.Native.Nat.{◌<◌}
use mathlib.Core.Path.{refl, sym, ap, ◌∙◌}
use lib.ListN.{length}
use Rattle.meaning.specs.Site.{no_motion, site_of, motion_good}
use Rattle.site_read.proofs.Laws.{reached_first, reached_next, reached_inside, reached_place}
use Rattle.site_values.proofs.Laws.{rest_none, rest_hit, rest_miss}
use native.Mathlib.Omega.{arith}
use Rattle.site_values.proofs.motions_good.Goals as goal

pub loop-init : goal.loop-init
loop-init c =
    let f = c.args.file.now in
    (reached_first f.bytes.now c.args.start f.laid c.requires.all_motions.0, refl)

pub motion_good-requires : goal.motion_good-requires
motion_good-requires c =
    let f = c.args.file.now.bytes.now in
    let l = c.loop in
    let m = reached_place f l.at l.counter l.invariant.0 (omega (arith, c.requires.all_motions.1)) in
    record {
      at_motion = (m.whole, m.inside, m.laid);
      cells_value = c.requires.cells_value;
    }

pub next_field-at-requires : goal.next_field-at-requires
next_field-at-requires c =
    let f = c.args.file.now.bytes.now in
    let l = c.loop in
    (l.invariant.0.motions.whole, reached_inside f l.at l.counter l.invariant.0 (omega (arith, c.requires.all_motions.1)))

pub loop-preserved : goal.loop-preserved
loop-preserved c =
    let f = c.args.file.now.bytes.now in
    let l = c.loop in
    let more : l.counter < length (site_of f).motions = omega (arith, c.requires.all_motions.1) in
    let m = reached_place f l.at l.counter l.invariant.0 more in
    let e = ap (motion_good (site_of f)) (sym m.motion) ∙ sym c.motion_good.ensures ∙ c.if-not-motion_good.false in
    (reached_next f l.at l.counter l.invariant.0 more _ c.next_field-at.ensures, sym (rest_hit (motion_good (site_of f)) no_motion (site_of f).motions l.counter more e) ∙ l.invariant.1)

pub returns-then-not-motion_good : goal.returns-then-not-motion_good
returns-then-not-motion_good c =
    let f = c.args.file.now.bytes.now in
    let l = c.loop in
    let more : l.counter < length (site_of f).motions = omega (arith, c.requires.all_motions.1) in
    let m = reached_place f l.at l.counter l.invariant.0 more in
    let e = ap (motion_good (site_of f)) (sym m.motion) ∙ sym c.motion_good.ensures ∙ c.if-not-motion_good.true in
    sym (rest_miss (motion_good (site_of f)) no_motion (site_of f).motions l.counter more e) ∙ l.invariant.1

pub returns : goal.returns
returns c =
    let f = c.args.file.now.bytes.now in
    let l = c.loop in
    sym (rest_none (motion_good (site_of f)) no_motion (site_of f).motions l.counter (omega (arith, c.requires.all_motions.1))) ∙ l.invariant.1
