-- `site::check_values` meets its contract.
-- Assumes nothing.
use mathlib.Core.Path.{ap, ◌∙◌}
use Rattle.site_layout.specs.Laid.{state_place}
use Rattle.site.proofs.PlaceLaws.{count_is, motions_start, motions_count, sizes_are}
use Rattle.site.proofs.check_values.Goals as goal

pub states_good-states_pass-requires : goal.states_good-states_pass-requires
states_good-states_pass-requires c =
    let f = c.args.file.now in
    count_is f.bytes.now f.laid c.args.head c.requires.1

-- where the motions start, and how many they are
pub leading_motions-leading-requires : goal.leading_motions-leading-requires
leading_motions-leading-requires c =
    let f = c.args.file.now in
    motions_start f.bytes.now f.laid c.args.head c.requires.1 _ c.state_place-start.ensures

pub motions_good-motions_pass-requires-clause-all_motions : goal.motions_good-motions_pass-requires-clause-all_motions
motions_good-motions_pass-requires-clause-all_motions c =
    let f = c.args.file.now in
    let h = c.args.head in
    let place = c.state_place-start.ensures in
    (place ∙ ap state_place (count_is f.bytes.now f.laid h c.requires.1), motions_count f.bytes.now f.laid h c.requires.1 _ place _ c.leading_motions-leading.ensures)

pub motions_good-motions_pass-requires-clause-cells_value : goal.motions_good-motions_pass-requires-clause-cells_value
motions_good-motions_pass-requires-clause-cells_value c =
    let f = c.args.file.now in (c.requires.1.cells, count_is f.bytes.now f.laid c.args.head c.requires.1)

pub returns-clause-sizes : goal.returns-clause-sizes
returns-clause-sizes c =
    let f = c.args.file.now in
    sizes_are f.bytes.now f.laid c.args.head c.requires.1 _ c.state_place-start.ensures _ c.leading_motions-leading.ensures _ c.count_fields-centres.ensures
