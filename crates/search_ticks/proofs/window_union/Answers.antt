-- `search_ticks::window_union` meets its contract: where no bit is set, each word below i is 0.
-- Assumes nothing.
use Rattle.std.proofs.Common.{◌+◌, ◌*◌, arith}
use Rattle.search_ticks.proofs.SetLaws.{word_from, zeros_more, zeros_window}
use Rattle.search_ticks.proofs.window_union.Goals as goal

pub loop-i-preserved : goal.loop-i-preserved
loop-i-preserved c = zeros_more (word_from c.args.l.now (c.args.s * 20 + c.args.block * 4)) c.loop-i.i c.loop-i.all c.loop-i.invariant

pub returns : goal.returns
returns c = λ e. zeros_window c.args.l.now c.args.s c.args.block c.loop-i.i (omega arith) (c.loop-i.invariant e)
