-- `search_bytes::free_all` meets its contract: the loop gathers the bytes that are not 0, and `turn` puts the bits in the order of the bytes.
-- Assumes nothing.
use Rattle.std.proofs.Common.{◌≡◌}
use Rattle.search_bytes.proofs.TurnLaws.{gathered}
use Rattle.search_bytes.proofs.free_all.Given as goal

abbrev pub invariant-loop-j : goal.invariant-loop-j
invariant-loop-j l = l.x ≡ gathered l.bytes l.j
