-- Laws of bytes placed in an area: from the back to the front, as a light is traced.
-- Assumes nothing.
use Prim.Native.Nat.{ℕ, ◌+◌, ◌≤◌}
use native.Mathlib.Omega.{arith}
use native.Mathlib.Nat.{zero-add}
use mathlib.Core.Path.{◌≡◌, sym, ap, ◌∙◌}
use mathlib.Core.List.{List, ◌++◌, append_assoc}
use lib.ListN.{length, take, drop, length-append}
use lib.Seq.{length-take-le, take-append-le, take-take, drop_at}
use Rattle.meaning.specs.Calls.{over}
use Rattle.light_fields.specs.Areas.{placed}

-- bytes placed just before others
pub placed_before : (at next : ℕ) (new later area : List ℕ) → next ≡ at + length new → next + length later ≤ length area
    → placed at new (placed next later area) ≡ placed at (new ++ later) area
placed_before at next new later area e h =
    let rest = drop (next + length later) area in
    let back : at + length new ≡ next = sym e in
    let place : next + length later ≡ at + length (new ++ later) = omega (arith, length-append new later) in
    let front : take at (placed next later area) ≡ take at area =
    ap (take at) (append_assoc (take next area) later rest)
    ∙ take-append-le at (take next area) (later ++ rest) (omega (arith, length-take-le next area (omega arith)))
    ∙ take-take at next area (omega arith) in
    let behind : drop (at + length new) (placed next later area) ≡ later ++ rest =
    ap (λ (k : ℕ). drop k (placed next later area)) back
    ∙ ap (drop next) (append_assoc (take next area) later rest)
    ∙ drop_at (take next area) (later ++ rest) next (length-take-le next area (omega arith)) in
    rw (front, behind)
    (sym (append_assoc (take at area ++ new) later rest)
    ∙ ap (λ (p : List ℕ). p ++ rest) (append_assoc (take at area) new later)
    ∙ ap (λ (k : ℕ). take at area ++ (new ++ later) ++ drop k area) place)

-- at the front
pub placed_front : (new area : List ℕ) → placed 0 new area ≡ over new area
placed_front new area = ap (λ (k : ℕ). new ++ drop k area) (zero-add (length new))
