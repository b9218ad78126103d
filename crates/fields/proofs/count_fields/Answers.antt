-- `fields::count_fields` meets its contract.
-- Assumes nothing.
use mathlib.Core.Path.{ap}
use lib.ListN.{length}
use Rattle.fields.proofs.Laws.{listed_end}
use native.Mathlib.Omega.{arith}
use Rattle.fields.proofs.count_fields.Goals as goal

pub returns : goal.returns
returns c =
    let l = c.loop-at in
    let f = c.args.s.now in
    let e = ap length (listed_end f l.at (omega arith)) in
    omega arith
