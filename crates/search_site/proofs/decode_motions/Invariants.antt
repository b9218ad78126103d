-- `search_site::decode_motions` meets its contract. The invariant: the first m motions are stored, and the next one is at the place.
-- Assumes nothing.
use Prim.Native.Nat.{ℕ, ◌<◌}
use Rattle.site_read.proofs.Laws.{Reached}
use Rattle.search_site.specs.Decoded.{MotionDecoded, motion_in}
use Rattle.search_site.proofs.decode_motions.Given as goal

abbrev pub invariant-loop-m : goal.invariant-loop-m
invariant-loop-m l = record { reached : Reached l.file.bytes.now l.at l.m; stored : (k : ℕ) → k < l.m → MotionDecoded l.file.bytes.now k (motion_in l.motions k) }
