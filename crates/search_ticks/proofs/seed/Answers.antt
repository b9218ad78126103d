-- `search_ticks::seed` meets its contract: the word is set with one more bit.
-- Assumes nothing.
use Rattle.std.proofs.Common.{arith}
use Rattle.search_ticks.proofs.SetLaws.{seed_done}
use Rattle.search_ticks.proofs.seed.Goals as goal

pub returns : goal.returns
returns c = seed_done c.args.l.now c.args.s c.args.t (omega arith) (omega arith)
