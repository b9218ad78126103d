-- `fields::fields_complete` meets its contract.
-- Assumes nothing.
use mathlib.Core.Path.{sym, ap, ◌∙◌}
use Rattle.meaning.specs.Fields.{complete}
use Rattle.fields.proofs.Laws.{whole_at, complete_end, is_field, whole_complete, not_field_cut}
use borrow.Author.Rules.{rules}
use native.Mathlib.Omega.{arith}
use Rattle.fields.proofs.fields_complete.Goals as goal

pub loop-at-init : goal.loop-at-init
loop-at-init c = (search rules, ap complete (whole_at _))

pub loop-at-smaller : goal.loop-at-smaller
loop-at-smaller c =
    let f = c.args.s.now in
    let l = c.loop-at in
    let w = is_field f l.at _ (sym c.in-Field.is ∙ c.read_item.ensures) in
    let i = w.inside in
    let n = w.next in
    omega arith

pub loop-at-preserved : goal.loop-at-preserved
loop-at-preserved c =
    let f = c.args.s.now in
    let l = c.loop-at in
    let w = is_field f l.at _ (sym c.in-Field.is ∙ c.read_item.ensures) in
    (w.inside, sym (whole_complete f _ _ w) ∙ l.invariant.1)

pub returns-in_default : goal.returns-in_default
returns-in_default c =
    let l = c.loop-at in
    let item = c.read_item in
    sym (not_field_cut c.args.s.now l.at item.result c.in_default.not-Field item.ensures c.loop-at-test.true) ∙ l.invariant.1

pub returns : goal.returns
returns c =
    let l = c.loop-at in
    sym (complete_end c.args.s.now l.at (omega arith)) ∙ l.invariant.1
