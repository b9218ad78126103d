-- `site_layout::centres_laid` meets its contract. The invariant: n fields are left behind, and the others answer as all do.
-- Assumes nothing.
use Prim.Native.Nat.{ℕ, ◌≤◌, ◌+◌}
use mathlib.Core.Path.{◌≡◌, refl, sym, ap, ◌∙◌}
use mathlib.Core.Bool.{true}
use mathlib.Core.List.{List}
use lib.ListN.{length}
use borrow.Author.Tests.{eq-eqb, ne_eqb}
use Rattle.meaning.specs.Basics.{all}
use Rattle.meaning.specs.Fields.{listed}
use Rattle.meaning.specs.Site.{is_centre, centres_laid}
use Rattle.fields.specs.Places.{fields_at}
use Rattle.fields.proofs.Laws.{listed_end, fields_all_none, fields_all_hit, fields_all_miss, next_is}
use Rattle.site_layout.proofs.Laws.{first_of}
use native.Mathlib.Omega.{arith}
use Rattle.site_layout.proofs.centres_laid.Goals as goal

pub loop-at-preserved : goal.loop-at-preserved
loop-at-preserved c =
    let l = c.loop-at in
    let x = c.next_field-at.ensures in
    let size = ap length x.list in
    let t = sym (first_of is_centre _ _ _ x.list) ∙ sym c.is_centre.ensures ∙ c.if-not-is_centre.false in
    (x.inside, omega arith, x.whole, omega arith, sym (fields_all_hit is_centre _ _ _ x.list t) ∙ l.invariant.4)

pub returns-then-not-is_centre : goal.returns-then-not-is_centre
unfolding centres_laid
returns-then-not-is_centre c =
    let l = c.loop-at in
    let x = next_is c.args.file.now l.at _ _ l.invariant.2 (omega arith) refl refl in
    let t = sym (first_of is_centre _ _ _ x.list) ∙ sym c.is_centre.ensures ∙ c.if-not-is_centre.true in
    simp (sym l.invariant.4 ∙ fields_all_miss is_centre _ _ _ x.list t)

-- behind the last field
module _ (file : List ℕ) (start n at : ℕ) where
  all_there : length file ≤ at → all is_centre (listed (fields_at file at)) ≡ all is_centre (listed (fields_at file start))
      → all is_centre (listed (fields_at file start)) ≡ true
  all_there ended same = sym same ∙ fields_all_none is_centre file at ended

  size_there : length file ≤ at → n + length (listed (fields_at file at)) ≡ length (listed (fields_at file start)) → length (listed (fields_at file start)) ≡ n
  size_there ended same = let none = ap length (listed_end file at ended) in omega arith

pub returns-then-n-cells : goal.returns-then-n-cells
unfolding centres_laid
returns-then-n-cells c =
    let l = c.loop-at in
    let file = c.args.file.now in
    let e = eq-eqb l.n c.args.cells c.if-n-cells.true in
    simp (all_there file c.args.start l.n l.at (omega arith) l.invariant.4, size_there file c.args.start l.n l.at (omega arith) l.invariant.3, e)

pub returns-else-n-cells : goal.returns-else-n-cells
unfolding centres_laid
returns-else-n-cells c =
    let l = c.loop-at in
    let file = c.args.file.now in
    simp (all_there file c.args.start l.n l.at (omega arith) l.invariant.4, size_there file c.args.start l.n l.at (omega arith) l.invariant.3, ne_eqb l.n c.args.cells c.if-n-cells.false)
