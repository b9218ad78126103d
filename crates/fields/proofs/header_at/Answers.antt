-- `fields::header_at` meets its contract.
-- Assumes nothing.
use mathlib.Core.Path.{sym, ◌∙◌}
use mathlib.Core.Bool.{true≢false}
use Rattle.fields.proofs.Laws.{not_field_cut, is_field, whole_complete}
use Rattle.fields.proofs.header_at.Goals as goal

pub unreachable-requires : goal.unreachable-requires
unreachable-requires c =
    let item = c.read_item in
    true≢false (sym c.requires.0 ∙ not_field_cut c.args.s.now c.args.at item.result c.in_default.not-Field item.ensures c.requires.1)

pub returns : goal.returns
returns c =
    let f = c.args.s.now in
    let w = is_field f c.args.at _ (sym c.in-Field.is ∙ c.read_item.ensures) in
    (w, sym (whole_complete f _ _ w) ∙ c.requires.0)
