-- `search_bytes::free_bits` meets its contract: the bytes from the last down to i are in the word.
-- Assumes nothing.
use Rattle.std.proofs.Common.{drop, arith, length-drop}
use Rattle.search_bytes.proofs.WordLaws.{free_none, free_more, free_fits}
use Rattle.search_bytes.proofs.free_bits.Goals as goal

pub loop-i-init : goal.loop-i-init
loop-i-init c = free_none c.args.bytes.now

pub overflow_mul-word : goal.overflow_mul-word
overflow_mul-word c = omega (arith, free_fits (drop c.loop-i.i c.args.bytes.now) (omega (arith, length-drop c.loop-i.i c.args.bytes.now)))

pub overflow_add-word : goal.overflow_add-word
overflow_add-word c = omega (arith, free_fits (drop c.loop-i.i c.args.bytes.now) (omega (arith, length-drop c.loop-i.i c.args.bytes.now)))

pub loop-i-preserved : goal.loop-i-preserved
loop-i-preserved c = free_more c.args.bytes.now c.loop-i.i _ _ (omega arith) (omega arith) c.loop-i.invariant c.free_bit.ensures.value
