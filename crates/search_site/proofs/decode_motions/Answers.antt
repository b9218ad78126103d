-- `search_site::decode_motions` meets its contract. The invariant: the first m motions are stored, and the next one is at the place.
-- Assumes nothing.
use Prim.Native.Nat.{ℕ, ◌+◌, ◌<◌}
use mathlib.Core.Path.{sym, subst}
use mathlib.Core.List.{List}
use lib.ListN.{length}
use native.Mathlib.Omega.{arith}
use Rattle.meaning.specs.Site.{Motion, site_of}
use Rattle.site_read.specs.Motions.{MotionIs}
use Rattle.site_read.proofs.Laws.{reached_first, reached_next, reached_place}
use Rattle.search_site.specs.Decoded.{MotionDecoded, motion_in}
use Rattle.search_site.proofs.ArrayLaws.{motions_more}
use Rattle.search_site.proofs.DecodedLaws.{motion_fits}
use Rattle.search_site.proofs.decode_motions.Goals as goal

pub loop-m-init : goal.loop-m-init
loop-m-init c =
    let f = c.args.file.now.bytes.now in
    record { reached = reached_first f c.args.start c.args.file.now.laid c.requires.file_value.1; stored = λ k q. absurd (omega arith) }

-- where the next motion stands
pub read_motion-requires : goal.read_motion-requires
read_motion-requires c =
    let l = c.loop-m in
    let p = reached_place c.args.file.now.bytes.now l.at l.m l.invariant.reached (omega (arith, c.requires.count_value.0)) in
    (p.whole, p.inside, p.laid)

-- what was read there
pub put_motion-requires : goal.put_motion-requires
put_motion-requires c =
    let f = c.args.file.now.bytes.now in
    let l = c.loop-m in
    let more : l.m < length (site_of f).motions = omega (arith, c.requires.count_value.0) in
    let p = reached_place f l.at l.m l.invariant.reached more in
    let r = c.read_motion in
    let shown = subst (λ (m : Motion). MotionIs f m r.result) p.motion r.ensures in
    (omega (arith, c.requires.count_value.1), motion_fits f c.requires.file_value.0 l.m r.result more shown)

pub next_field-at-requires : goal.next_field-at-requires
next_field-at-requires c =
    let l = c.loop-m in
    let p = reached_place c.args.file.now.bytes.now l.at l.m l.invariant.reached (omega (arith, c.requires.count_value.0)) in
    (p.whole, p.inside)

pub loop-m-preserved : goal.loop-m-preserved
loop-m-preserved c =
    let f = c.args.file.now.bytes.now in
    let l = c.loop-m in
    let m = l.m in
    let more : m < length (site_of f).motions = omega (arith, c.requires.count_value.0) in
    let p = reached_place f l.at m l.invariant.reached more in
    let r = c.read_motion.result in
    let shown = subst (λ (x : Motion). MotionIs f x r) p.motion c.read_motion.ensures in
    let decoded : MotionDecoded f m r = record { shows = shown; span = omega arith } in
    record {
      reached = reached_next f l.at m l.invariant.reached more _ c.next_field-at.ensures;
      stored = subst (λ (xs : List ℕ). (k : ℕ) → k < m + 1 → MotionDecoded f k (motion_in xs k)) (sym c.put_motion.ensures)
          (motions_more (MotionDecoded f) l.motions m r (omega (arith, c.requires.count_value.1)) l.invariant.stored decoded);
    }
