-- `site_layout::tagged` meets its contract.
-- Assumes nothing.
use mathlib.Core.Path.{sym, ◌∙◌}
use Rattle.fields.proofs.Laws.{not_field, is_field}
use Rattle.site_layout.proofs.Laws.{tagged_is, tagged_none}
use Rattle.site_layout.proofs.tagged.Goals as goal

pub returns-in_default : goal.returns-in_default
returns-in_default c =
    let item = c.read_item in
    sym (tagged_none c.args.tag _ _ (not_field c.args.file.now c.args.at item.result c.in_default.not-Field item.ensures))

pub returns : goal.returns
returns c =
    let w = is_field c.args.file.now c.args.at _ (sym c.in-Field.is ∙ c.read_item.ensures) in
    c.then_some.ensures ∙ sym (tagged_is _ _ _ w c.args.tag)
