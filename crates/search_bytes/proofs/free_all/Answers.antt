-- `search_bytes::free_all` meets its contract: the loop gathers the bytes that are not 0, and `turn` puts the bits in the order of the bytes.
-- Assumes nothing.
use Rattle.std.proofs.Common.{arith, rules}
use Rattle.search_bytes.proofs.TurnLaws.{gathered_none, gathered_more, gathered_all}
use Rattle.search_bytes.proofs.free_all.Goals as goal

pub loop-j-init : goal.loop-j-init
loop-j-init c = gathered_none _

pub loop-j-preserved : goal.loop-j-preserved
loop-j-preserved c =
    gathered_more c.args.bytes.now c.loop-j.j c.loop-j.x c.load_eight.result c.held_eight.result
    c.loop-j.invariant c.load_eight.ensures c.held_eight.ensures

pub returns : goal.returns
returns c = gathered_all c.args.bytes.now (λ i. search rules) c.loop-j.j c.loop-j.x c.turn.result (omega arith)
    (omega arith) (omega arith) c.loop-j.invariant c.turn.ensures (omega arith)
