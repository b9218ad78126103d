-- `light_read::read_head` meets its contract.
-- Assumes nothing.
use Prim.Native.Nat.{◌+◌}
use native.Mathlib.Omega.{arith}
use mathlib.Core.Path.{◌≡◌, refl}
use Rattle.meaning.specs.Basics.{u32_at}
use Rattle.light_read.proofs.HeadLaws.{head_numbers}
use Rattle.light_read.proofs.read_head.Goals as goal

pub returns : goal.returns
returns c =
    let s = c.args.s.now in
    let at = c.head_value-at.result in
    let place : at + 2 + 1 ≡ at + 3 = omega arith in
    let edition : c.from_be_bytes.result ≡ u32_at s at = rw place (omega (arith, c.from_be_bytes.ensures)) in
    head_numbers
    s
    c.requires
    _
    _
    _
    _
    _
    _
    _
    _
    c.head_value-at.ensures.0
    edition
    refl
    c.u16_at.ensures
    c.u16_at-2.ensures
    c.u16_at-3.ensures
    c.u16_at-4.ensures
    c.u16_at-5.ensures
