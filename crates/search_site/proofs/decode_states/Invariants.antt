-- `search_site::decode_states` meets its contract. The invariant: the first s states are stored.
-- Assumes nothing.
use Prim.Native.Nat.{ℕ, ◌<◌}
use Rattle.search_site.specs.Arrays.{cell_at, speed_at}
use Rattle.search_site.specs.Decoded.{StateDecoded}
use Rattle.search_site.proofs.decode_states.Given as goal

abbrev pub invariant-loop-s : goal.invariant-loop-s
invariant-loop-s l = (k : ℕ) → k < l.s → StateDecoded l.file.bytes.now k (cell_at l.states k) (speed_at l.states k)
