-- `site_layout::rest_laid` meets its contract.
-- Assumes nothing.
use Prim.Native.Nat.{ℕ, ◌<◌, ◌≤◌}
use mathlib.Core.Path.{sym, ap, ◌∙◌, subst}
use lib.ListN.{drop}
use borrow.Author.Tests.{lt-leb}
use Rattle.meaning.specs.Limits.{motion_limit}
use Rattle.meaning.specs.Fields.{listed}
use Rattle.meaning.specs.Site.{centres_laid}
use Rattle.fields.specs.Places.{fields_at}
use Rattle.site_layout.proofs.Laws.{rest_few, rest_is}
use Rattle.site_layout.proofs.rest_laid.Goals as goal

pub returns-else-motions-le-MOTION_LIMIT : goal.returns-else-motions-le-MOTION_LIMIT
returns-else-motions-le-MOTION_LIMIT c =
    let m = c.leading_motions-motions in
    let many = c.if-motions-le-MOTION_LIMIT.false in
    lt-leb m.result.count motion_limit many ∙ sym (rest_few _ _ (subst (λ (n : ℕ). motion_limit < n) m.ensures.count many))

pub returns-then-motions-le-MOTION_LIMIT : goal.returns-then-motions-le-MOTION_LIMIT
returns-then-motions-le-MOTION_LIMIT c =
    let r = c.leading_motions-motions.ensures in
    let fs = listed (fields_at c.args.file.now c.args.start) in
    c.centres_laid.ensures
    ∙ ap (centres_laid c.args.cells) (r.rest ∙ ap (λ (n : ℕ). drop n fs) r.count)
    ∙ sym (rest_is c.args.cells fs (subst (λ (n : ℕ). n ≤ motion_limit) r.count c.if-motions-le-MOTION_LIMIT.true))
