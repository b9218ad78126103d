-- Laws of a buffer of which a part was lent to a read.
-- Assumes nothing.
use Prim.Native.Nat.{ℕ, ◌+◌, ◌≤◌}
use native.Mathlib.Omega.{arith}
use mathlib.Core.Path.{◌≡◌, sym}
use mathlib.Core.List.{List, ◌++◌}
use lib.ListN.{length, take, drop, length-drop}
use lib.Seq.{length-take-le, length_front}
use borrow.Rule.Slice.PartMut.{put_mid, same_len_mid, mid_of}
use Rattle.day_lines.specs.Counts.{IsPrefixLen}
use Rattle.meaning.specs.Limits.{field_header, route_size}

pub counts : (n : ℕ) (xs : List ℕ) → n ≤ length xs → IsPrefixLen n xs
counts n xs h = (h, sym (length-take-le n xs h))

-- a header's place: what was read there is no longer, and the buffer is as long as before
pub read_front : (d e : List ℕ) (got : ℕ) → field_header + route_size ≤ length d → length e ≡ length (take field_header d) → got ≤ length e
    → (got ≤ field_header) × (field_header + route_size ≤ length (e ++ drop field_header d))
read_front d e got room same h =
    let size = length-take-le field_header d (omega arith) in
    let whole = length_front d e field_header same in
    (omega arith, omega arith)

-- a part of the buffer, from `got` on
pub read_part : (d e : List ℕ) (got width more : ℕ) → got + width ≤ length d → length e ≡ length (mid_of got width d) → more ≤ length e
    → (more ≤ width) × (got + more ≤ length (put_mid got width d e))
read_part d e got width more room same h =
    let rest = length-drop got d in
    let size = length-take-le width (drop got d) (omega arith) in
    let whole = same_len_mid got width d e same in
    (omega arith, omega arith)
