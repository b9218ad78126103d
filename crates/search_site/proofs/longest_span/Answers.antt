-- `search_site::longest_span` meets its contract. The invariant: none of the first m motions is longer, and the next one is at the place.
-- Assumes nothing.
use Prim.Native.Nat.{◌<◌}
use lib.ListN.{length}
use native.Mathlib.Omega.{arith}
use mathlib.Core.Path.{◌≡◌, ap, ◌∙◌}
use lib.Dec.{eqb}
use borrow.Author.Tests.{eqb-true, eqb-false}
use Rattle.meaning.specs.Site.{site_of, motion_at, Motion}
use Rattle.meaning.proofs.BasicsLaws.{decide}
use Rattle.site_read.proofs.Laws.{reached_first, reached_next, reached_place}
use Rattle.search_site.proofs.longest_span.Goals as goal

pub loop-m-init : goal.loop-m-init
loop-m-init c =
    let f = c.args.file.now.bytes.now in
    record {
      reached = reached_first f c.args.start c.args.file.now.laid c.requires.file_value.1;
      longest = record { some = omega arith; small = omega arith; longest = λ m h. absurd (omega arith) };
    }

-- where the next motion stands
pub read_motion-motion-requires : goal.read_motion-motion-requires
read_motion-motion-requires c =
    let l = c.loop-m in
    let p = reached_place c.args.file.now.bytes.now l.at l._m l.invariant.reached (omega (arith, c.requires.count_value)) in
    (p.whole, p.inside, p.laid)

pub next_field-at-requires : goal.next_field-at-requires
next_field-at-requires c =
    let l = c.loop-m in
    let p = reached_place c.args.file.now.bytes.now l.at l._m l.invariant.reached (omega (arith, c.requires.count_value)) in
    (p.whole, p.inside)

pub loop-m-preserved : goal.loop-m-preserved
loop-m-preserved c =
    let f = c.args.file.now.bytes.now in
    let l = c.loop-m in
    let m = l._m in
    let so_far = l.invariant.longest in
    let more : m < length (site_of f).motions = omega (arith, c.requires.count_value) in
    let p = reached_place f l.at m l.invariant.reached more in
    let read = c.read_motion-motion in
    let span : read.result.span ≡ (motion_at (site_of f) m).span = read.ensures.span ∙ ap (λ (x : Motion). x.span) p.motion in
    record {
      reached = reached_next f l.at m l.invariant.reached more _ c.next_field-at.ensures;
      longest = record {
        some = omega arith;
        small = omega arith;
        longest = λ k h. decide (eqb k m)
            (λ e. let same : k ≡ m = eqb-true k m e in rw same (omega arith))
            (λ e. omega (arith, so_far.longest k (omega (arith, eqb-false k m e))));
      };
    }
