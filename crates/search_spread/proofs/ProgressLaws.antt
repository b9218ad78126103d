-- Steps that set bits, or change nothing, one after the other.
-- Assumes nothing.
use Prim.Native.Nat.{ℕ, ◌<◌}
use native.Mathlib.Omega.{arith}
use mathlib.Core.Path.{◌≡◌, sym, ap, ◌∙◌}
use mathlib.Core.Bool.{Bool, false, true, ◌||◌, or-false}
use mathlib.Core.List.{List}
use lib.Dec.{eqb}
use lib.ListN.{length, get_or, set}
use lib.Seq.{get_or-set_same, get_or-set_other}
use borrow.Author.Tests.{eqb-true, eqb-false}
use Rattle.meaning.proofs.BasicsLaws.{decide}
use Rattle.search_ticks.specs.Rows.{total}
use Rattle.search_spread.specs.Spread.{Progress, more, quiet, Unnoted}

pub progress_new : (l₀ l : List ℕ) (new : Bool) → (new ≡ false → l ≡ l₀) → (new ≡ true → total l₀ < total l) → Progress l₀ l (new ≡ false)
progress_new l₀ l new same grown = decide new (λ u. more (grown u)) (λ u. quiet (same u) u)

pub progress_map : {P Q : Type 0} {l₀ l : List ℕ} → (P → Q) → Progress l₀ l P → Progress l₀ l Q
progress_map f (more h) = more h
progress_map f (quiet e p) = quiet e (f p)

-- one after the other
pub progress_then : {P Q R : Type 0} {l₀ l l' : List ℕ} → (P → Q → R) → Progress l₀ l P → Progress l l' Q → Progress l₀ l' R
progress_then f (more h) (more h') = more (omega arith)
progress_then f (more h) (quiet e q) = more (omega (arith, ap total e))
progress_then f (quiet e p) (more h') = more (omega (arith, ap total e))
progress_then f (quiet e p) (quiet e' q) = quiet (e' ∙ e) (f p q)

-- ---- the notes of growth

-- a motion that sets nothing notes nothing
pub progress_move : (l l' : List ℕ) (g : List Bool) (new : Bool) (to : ℕ) → to < length g → (new ≡ false → l' ≡ l) → (new ≡ true → total l < total l')
    → Progress l l' (Unnoted g (set g to (get_or g to false || new)))
progress_move l l' g new to room same grown =
    progress_map
    (λ none x.
    decide (eqb x to)
    (λ u.
    let here : x ≡ to = eqb-true x to u in
    let kept : (get_or g to false || new) ≡ get_or g to false = ap (λ (v : Bool). get_or g to false || v) none ∙ or-false (get_or g to false) in
    ap (λ (y : ℕ). get_or (set g to (get_or g to false || new)) y false) here ∙ get_or-set_same g to _ false room ∙ kept ∙ ap (λ (y : ℕ). get_or g y false) (sym here))
    (λ u. get_or-set_other g to x _ false (eqb-false x to u)))
    (progress_new l l' new same grown)
