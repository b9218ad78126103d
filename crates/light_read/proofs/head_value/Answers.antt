-- `light_read::head_value` meets its contract.
-- Assumes nothing.
use Rattle.light_read.proofs.HeadLaws.{accepted}
use native.Mathlib.Omega.{arith}
use Rattle.light_read.proofs.head_value.Goals as goal

pub header_at-h-requires : goal.header_at-h-requires
header_at-h-requires c =
    let a = accepted _ c.requires in
    let r = a.room in
    (a.whole, omega arith)

pub returns : goal.returns
returns c = (c.header_at-h.ensures.0.start, (accepted _ c.requires).room)
