-- `site_read::fill_index` meets its contract. The invariant: the places of the motions left behind are there, and the next motion is at the place.
-- Assumes nothing.
use lib.Seq.{length-take-le}
use native.Mathlib.Omega.{arith}
use Rattle.site_read.specs.Motions.{MotionPlace}
use Rattle.site_read.proofs.Laws.{reached_first, reached_next, reached_place, filled}
use Rattle.site_read.proofs.fill_index.Goals as goal

pub loop-entry-init : goal.loop-entry-init
loop-entry-init c = (reached_first c.args.file.now.bytes.now c.args.start c.args.file.now.laid c.requires.file_len_bound.1, λ k q. absurd (omega arith))

pub overflow_cast-entry : goal.overflow_cast-entry
overflow_cast-entry c =
    let l = c.loop-entry in
    let size = length-take-le c.args.motions c.args.index.now (omega (arith, c.requires.motions_in_bounds)) in
    let place = reached_place c.args.file.now.bytes.now l.at l.entry-index l.invariant.0 (omega (arith, c.requires.file_len_bound.2)) in
    omega (arith, c.requires.file_len_bound.0, place.inside)

pub next_field-at-requires : goal.next_field-at-requires
next_field-at-requires c =
    let l = c.loop-entry in
    let size = length-take-le c.args.motions c.args.index.now (omega (arith, c.requires.motions_in_bounds)) in
    let place = reached_place c.args.file.now.bytes.now l.at l.entry-index l.invariant.0 (omega (arith, c.requires.file_len_bound.2)) in
    (place.whole, place.inside)

pub loop-entry-preserved : goal.loop-entry-preserved
loop-entry-preserved c =
    let l = c.loop-entry in
    let size = length-take-le c.args.motions c.args.index.now (omega (arith, c.requires.motions_in_bounds)) in
    let f = c.args.file.now.bytes.now in
    let place = reached_place f l.at l.entry-index l.invariant.0 (omega (arith, c.requires.file_len_bound.2)) in (
      reached_next f l.at l.entry-index l.invariant.0 (omega (arith, c.requires.file_len_bound.2)) _ c.next_field-at.ensures,
      filled (MotionPlace f) l.entry-items l.entry-index l.at (omega arith) l.invariant.1 place,
    )
