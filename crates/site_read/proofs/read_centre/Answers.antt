-- `site_read::read_centre` meets its contract.
-- Assumes nothing.
use Prim.Native.Nat.{◌+◌, ◌*◌, ◌-◌}
use mathlib.Core.Path.{◌≡◌, refl, ap, ap₂, ◌∙◌}
use lib.ListN.{length}
use native.Mathlib.Omega.{arith}
use Rattle.meaning.specs.Basics.{u16_at}
use Rattle.site_layout.specs.Laid.{centre_field}
use Rattle.site_read.specs.declared.Centre.{Centre}
use Rattle.site_read.proofs.CentreLaws.{centre_there}
use Rattle.site_read.proofs.read_centre.Goals as goal

pub overflow_mul-at : goal.overflow_mul-at
overflow_mul-at c =
    let there = centre_there c.args.file.now.bytes.now c.args.file.now.laid c.args.centres c.args.cell _ c.requires.0 c.requires.1 refl in
    omega (arith, there.0)

pub overflow_sub-at-2 : goal.overflow_sub-at-2
overflow_sub-at-2 c =
    let there = centre_there c.args.file.now.bytes.now c.args.file.now.laid c.args.centres c.args.cell _ c.requires.0 c.requires.1 refl in
    omega (arith, there.0)

pub u16_at-requires : goal.u16_at-requires
u16_at-requires c =
    let there = centre_there c.args.file.now.bytes.now c.args.file.now.laid c.args.centres c.args.cell _ c.requires.0 c.requires.1 refl in
    omega (arith, there.1.inside)

pub u16_at-requires-2 : goal.u16_at-requires-2
u16_at-requires-2 c =
    let there = centre_there c.args.file.now.bytes.now c.args.file.now.laid c.args.centres c.args.cell _ c.requires.0 c.requires.1 refl in
    omega (arith, there.1.inside)

pub returns : goal.returns
returns c =
    let there = centre_there c.args.file.now.bytes.now c.args.file.now.laid c.args.centres c.args.cell _ c.requires.0 c.requires.1 refl in
    let file = c.args.file.now.bytes.now in
    let at = length file - centre_field * (c.args.centres - c.args.cell) in
    let two : at + 3 + 2 ≡ at + 5 = omega arith in
    ap₂ {C = Centre} (λ x y. record { x = x; y = y })
    (c.u16_at.ensures ∙ there.1.x)
    (c.u16_at-2.ensures ∙ ap (u16_at file) two ∙ there.1.y)
