-- `search_bytes::free_bits` meets its contract: the bytes from the last down to i are in the word.
-- Assumes nothing.
use Rattle.std.proofs.Common.{◌≡◌, drop}
use Rattle.search_bytes.specs.Words.{free_word}
use Rattle.search_bytes.proofs.free_bits.Given as goal

abbrev pub invariant-loop-i : goal.invariant-loop-i
invariant-loop-i l = l.word ≡ free_word (drop l.i l.bytes)
