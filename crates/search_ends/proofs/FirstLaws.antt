-- The first number that a test has.
-- Assumes nothing.
use Prim.Native.Nat.{ℕ, zero, suc, ◌+◌, ◌-◌, ◌≤◌, ◌<◌}
use native.Mathlib.Omega.{arith}
use mathlib.Core.Path.{◌≡◌, sym, ap, ◌∙◌, subst}
use mathlib.Core.Bool.{Bool, true, false, cond, true≢false}
use mathlib.Core.Option.{none, some}
use Rattle.std.specs.Prelude.{Option, Some, None}
use Rattle.std.specs.Option.{unwrap_or, MatchOption}
use Rattle.std.specs.Bool.{MatchBool}
use Rattle.std.specs.List.{range_with_len, AllWithin}
use Rattle.std.proofs.lemmas.List.FromFn.{length-range_with_len, get_or-range_with_len}
use lib.Dec.{ltb}
use lib.ListN.{length}
use borrow.Author.Tests.{ltb-true, ltb-false, lt-ltb, le-ltb}
use Rattle.meaning.specs.Basics.{least}
use Rattle.meaning.proofs.BasicsLaws.{decide}
use Rattle.search_ends.specs.Ends.{First}

-- it is what `least` finds
pub least_first : (test : ℕ → Bool) (low n r : ℕ) → First test low (low + n) r → least test low n ≡ cond (ltb r (low + n)) (some r) none
least_first test low zero r g = let within = g.within in rw (le-ltb r (low + 0) (omega (arith, g.above)))
least_first test low (suc n) r g =
    decide (test low)
    (λ e.
    let here : r ≡ low = decide (ltb low r)
    (λ u. absurd (true≢false (sym e ∙ g.none low (omega arith) (ltb-true low r u))))
    (λ u. omega (arith, ltb-false low r u, g.above)) in
    rw (e, here, lt-ltb low (low + suc n) (omega arith)))
    (λ e.
    let above = g.above in
    let within = g.within in
    let next : suc low + n ≡ low + suc n = omega arith in
    let other : r ≡ low → ⊥ = λ same. true≢false (sym (g.hit (omega arith)) ∙ ap test same ∙ e) in
    let rest : First test (suc low) (suc low + n) r = record {
      above = omega arith;
      within = omega arith;
      none = λ x lo hi. g.none x (omega arith) hi;
      hit = λ lt. g.hit (omega arith);
    } in
    rw e (least_first test (suc low) n r rest ∙ ap (λ (high : ℕ). cond (ltb r high) (some r) none) next))

-- it is what `find` over a range finds, or else its end
pub first_found : (test : ℕ → Bool) (low high : ℕ) → low ≤ high → (o : Option ℕ)
    → MatchOption o ((k : ℕ) → low ≤ k → k < high → test k ≡ false) (λ i. (low ≤ i) × (i < high) × (test i ≡ true) × ((k : ℕ) → low ≤ k → k < i → test k ≡ false))
    → First test low high (unwrap_or o high)
first_found test low high le None h = record { above = le; within = omega arith; none = h; hit = λ lt. absurd (omega arith) }
first_found test low high le (Some i) (above, below, found, before) = record { above = above; within = omega arith; none = before; hit = λ lt. found }

-- nor does `any` over it find one
pub found_none : (test : ℕ → Bool) (low high : ℕ) (hits : Type 0) (r : Bool)
    → MatchBool r hits (AllWithin (λ i. test i ≡ false) (range_with_len low (high - low)) 0 (length (range_with_len low (high - low)))) → r ≡ false
    → (t : ℕ) → low ≤ t → t < high → test t ≡ false
found_none test low high hits true h e t lo hi = absurd (true≢false e)
found_none test low high hits false h e t lo hi =
    let long = length-range_with_len low (high - low) in
    let here = get_or-range_with_len low (high - low) (t - low) 0 (omega arith) in
    subst (λ (i : ℕ). test i ≡ false) (omega arith) (h (t - low) 0 (omega arith) (omega arith))
