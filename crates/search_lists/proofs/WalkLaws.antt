-- A walk along a list of motions, whatever is done with each of them.
-- Assumes nothing.
use Prim.Native.Nat.{ℕ, ◌≤◌, ◌<◌}
use native.Mathlib.Omega.{arith}
use mathlib.Core.Path.{◌≡◌, sym, subst}
use mathlib.Core.Logic.{◌⊎◌, inl, inr, ⊎_elim}
use mathlib.Core.List.{List}
use lib.ListN.{get_or}
use Rattle.search_lists.specs.Lists.{Chain, here, next}
use Rattle.search_lists.proofs.ListLaws.{chain_case}

-- a list rises
chain_low : {ls : List ℕ} {k a m : ℕ} → Chain ls k a m → a ≤ m
chain_low (here lt) = omega arith
chain_low (next lt up c) = let low = chain_low c in omega arith

module _ (ls : List ℕ) (k : ℕ) where
  -- motion m is done, or is on the list from a on, the present one
  abbrev pub Along : (ℕ → Type 0) → ℕ → ℕ → Type 0
  Along P a m = P m ⊎ Chain ls k a m

  pub along_start : (P : ℕ → Type 0) (first a m : ℕ) → a ≡ first → Chain ls k first m → Along P a m
  along_start P first a m e c = inr (subst (λ (x : ℕ). Chain ls k x m) (sym e) c)

  -- what stands before a is done
  pub along_before : (P : ℕ → Type 0) (a m : ℕ) → m < a → Along P a m → P m
  along_before P a m lt = ⊎_elim (λ p. p) (λ on. absurd (let low = chain_low on in omega arith))

  -- the list is at its end
  pub along_end : (P : ℕ → Type 0) (a m : ℕ) → k ≤ a → Along P a m → P m
  along_end P a m past = ⊎_elim (λ p. p) (λ on. chain_case on (λ same lt. absurd (omega arith)) (λ lt up rest. absurd (omega arith)))

  -- a is done, and what was done before it stays so
  module _ (P Q : ℕ → Type 0) (a m : ℕ) (kept : P m → Q m) (now : Q a) where
    pub along_next : (after : ℕ) → after ≡ get_or ls a 0 → Along P a m → Along Q after m
    along_next after e =
        ⊎_elim (λ p. inl (kept p)) (λ on. chain_case on (λ same lt. inl (subst Q same now)) (λ lt up rest. along_start Q (get_or ls a 0) after m e rest))

    -- nothing stands behind a
    pub along_last : get_or ls a 0 ≤ a → Along P a m → Q m
    along_last low = ⊎_elim kept (λ on. chain_case on (λ same lt. subst Q same now) (λ lt up rest. absurd (omega arith)))
