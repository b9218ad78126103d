-- `site_read::find_motion` meets its contract. The invariant: as many motions lie before the place as were left behind.
-- Assumes nothing.
use mathlib.Core.Path.{◌≡◌, ap, ◌∙◌, subst}
use native.Mathlib.Omega.{arith}
use Rattle.meaning.specs.Site.{Motion, site_of, motion_at}
use Rattle.site_read.specs.Motions.{MotionIs}
use Rattle.site_read.proofs.Laws.{reached_first, reached_next, reached_place}
use Rattle.site_read.proofs.find_motion.Goals as goal

pub loop-init : goal.loop-init
loop-init c = reached_first c.args.file.now.bytes.now c.args.start c.args.file.now.laid c.requires.0

pub next_field-at-requires : goal.next_field-at-requires
next_field-at-requires c =
    let p = reached_place c.args.file.now.bytes.now c.loop.at c.loop.counter c.loop.invariant (omega (arith, c.requires.1)) in
    (p.whole, p.inside)

pub loop-preserved : goal.loop-preserved
loop-preserved c = reached_next _ _ _ c.loop.invariant (omega (arith, c.requires.1)) _ c.next_field-at.ensures

pub read_motion-requires : goal.read_motion-requires
read_motion-requires c =
    let p = reached_place c.args.file.now.bytes.now c.loop.at c.loop.counter c.loop.invariant (omega (arith, c.requires.1)) in
    (p.whole, p.inside, p.laid)

pub returns : goal.returns
returns c =
    let place = reached_place c.args.file.now.bytes.now c.loop.at c.loop.counter c.loop.invariant (omega (arith, c.requires.1)) in
    let file = c.args.file.now.bytes.now in
    let last : c.loop.counter ≡ c.args.k = omega arith in
    subst (λ (m : Motion). MotionIs file m c.read_motion.result) (place.motion ∙ ap (motion_at (site_of file)) last) c.read_motion.ensures
