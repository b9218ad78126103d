-- `site_layout::leading_motions` meets its contract. The invariant: n motions are left behind, and what follows is the rest.
-- Assumes nothing.
use mathlib.Core.Path.{sym, ap, ◌∙◌}
use lib.ListN.{drop}
use lib.Seq.{drop-drop}
use Rattle.meaning.specs.Site.{is_motion}
use Rattle.site_layout.proofs.Laws.{first_inside, leading_none, leading_next}
use native.Mathlib.Omega.{arith}
use Rattle.site_layout.proofs.leading_motions.Goals as goal

-- a motion comes first, so the file goes on
pub next_field-at-requires : goal.next_field-at-requires
next_field-at-requires c =
    let l = c.loop-at in
    (l.invariant.2, first_inside is_motion c.args.file.now l.at (sym c.is_motion.ensures ∙ c.loop-at-test.true))

pub loop-at-preserved : goal.loop-at-preserved
loop-at-preserved c =
    let l = c.loop-at in
    let x = c.next_field-at.ensures in
    let first = sym c.is_motion.ensures ∙ c.loop-at-test.true in
    let one = leading_next _ _ _ x.list first in
    (x.inside, omega arith, x.whole, omega arith, ap (drop 1) (sym x.list ∙ l.invariant.4) ∙ drop-drop 1 l.n _)

pub returns : goal.returns
returns c =
    let l = c.loop-at in
    let none = leading_none _ (sym c.is_motion.ensures ∙ c.loop-at-test.false) in
    record { count = omega arith; inside = l.invariant.0; whole = l.invariant.2; rest = l.invariant.4 }
