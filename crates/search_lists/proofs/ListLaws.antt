-- The lists of motions by state, filled from the last motion down.
-- Assumes nothing.
use Prim.Native.Nat.{ℕ, ◌+◌, ◌-◌, ◌≤◌, ◌<◌}
use native.Mathlib.Omega.{arith}
use mathlib.Core.Path.{◌≡◌, refl, sym, ap, ◌∙◌, subst}
use mathlib.Core.List.{List}
use lib.Dec.{eqb}
use lib.ListN.{length, get_or, set, length-set}
use lib.Seq.{get_or-set_same, get_or-set_other}
use borrow.Author.Tests.{eqb-true, eqb-false}
use Rattle.meaning.proofs.BasicsLaws.{decide}
use Rattle.search_site.specs.Arrays.{from_at, to_at, Leads}
use Rattle.search_lists.specs.Lists.{end_at, Chain, here, next, FirstAre, Listed}

-- ---- a loop that sets the first c numbers to v has set i of them
pub record Setting (c v : ℕ) (l₀ l : List ℕ) (i : ℕ) : Type 0 where
  pub most : i ≤ c
  pub sized : length l ≡ length l₀
  pub done : FirstAre i v l

-- ---- the lists

-- the motions from m on are on their lists, and no list starts below m
pub record Listing (which k n : ℕ) (mv ls : List ℕ) (m : ℕ) : Type 0 where
  pub room : k + n ≤ length ls
  pub starts : (s : ℕ) → s < n → m ≤ get_or ls (k + s) 0
  pub on : (j : ℕ) → m ≤ j → j < k → Chain ls k (get_or ls (k + end_at mv which j) 0) j

pub chain_case : {X : Type 0} {ls : List ℕ} {k a m : ℕ} → Chain ls k a m → (a ≡ m → m < k → X) → (a < k → a < get_or ls a 0 → Chain ls k (get_or ls a 0) m → X) → X
chain_case (here lt) f g = f refl lt
chain_case (next lt up c) f g = g lt up c

-- a list whose motions are above i stays when i and the starts change
chain_kept : (ls ls' : List ℕ) (k i : ℕ) → ((j : ℕ) → i < j → j < k → get_or ls' j 0 ≡ get_or ls j 0) → {a m : ℕ} → i < a → Chain ls k a m → Chain ls' k a m
chain_kept ls ls' k i same above (here lt) = here lt
chain_kept ls ls' k i same {a = a} {m = m} above (next lt up c) =
    let e : get_or ls' a 0 ≡ get_or ls a 0 = same a above (omega arith) in
    next {ls = ls'} {k = k} {a = a} {m = m} lt (omega arith) (subst (λ (x : ℕ). Chain ls' k x m) (sym e) (chain_kept ls ls' k i same (omega arith) c))

-- each motion leads from and to one of the states
pub end_below : (which k n : ℕ) (mv : List ℕ) → Leads n k mv → (m : ℕ) → m < k → end_at mv which m < n
unfolding end_at
end_below which k n mv leads m h = decide (eqb which 0) (λ e. rw e (leads.from m h)) (λ e. rw e (leads.to m h))

-- so the first motion of a state has a place in the lists
pub first_in : (which k n : ℕ) (mv ls : List ℕ) (m i from : ℕ) → i < k → from ≡ end_at mv which i → Leads n k mv → Listing which k n mv ls m → k + from < length ls
first_in which k n mv ls m i from h is leads g = omega (arith, end_below which k n mv leads i h, g.room)

pub listing_more : (which k n : ℕ) (mv ls : List ℕ) (m from : ℕ) → 0 < m → m ≤ k → from ≡ end_at mv which (m - 1) → Leads n k mv → Listing which k n mv ls m
    → Listing which k n mv (set (set ls (m - 1) (get_or ls (k + from) 0)) (k + from) (m - 1)) (m - 1)
listing_more which k n mv ls m from pos most is_from leads g =
    let i : ℕ = m - 1 in
    let small : from < n = omega (arith, is_from, end_below which k n mv leads i (omega arith)) in
    let old : ℕ = get_or ls (k + from) 0 in
    let ls₁ : List ℕ = set ls i old in
    let ls₂ : List ℕ = set ls₁ (k + from) i in
    let room = g.room in
    let size₁ : length ls₁ ≡ length ls = length-set ls i old in
    let first : get_or ls₂ (k + from) 0 ≡ i = get_or-set_same ls₁ (k + from) i 0 (omega arith) in
    let after : get_or ls₂ i 0 ≡ old = get_or-set_other ls₁ (k + from) i i 0 (λ e. omega arith) ∙ get_or-set_same ls i old 0 (omega arith) in
    let above : m ≤ old = g.starts from small in
    let same : (j : ℕ) → i < j → j < k → get_or ls₂ j 0 ≡ get_or ls j 0 =
    λ j lo hi. get_or-set_other ls₁ (k + from) j i 0 (λ e. omega arith) ∙ get_or-set_other ls i j old 0 (λ e. omega arith) in
    let elsewhere : (s : ℕ) → (s ≡ from → ⊥) → get_or ls₂ (k + s) 0 ≡ get_or ls (k + s) 0 =
    λ s ne. get_or-set_other ls₁ (k + from) (k + s) i 0 (λ e. ne (omega arith)) ∙ get_or-set_other ls i (k + s) old 0 (λ e. omega arith) in
    record {
      room = simp length-set room;
      starts = λ s h. decide (eqb s from)
          (λ u. let e : s ≡ from = eqb-true s from u in omega (arith, ap (λ (x : ℕ). get_or ls₂ (k + x) 0) e, first))
          (λ u. omega (arith, elsewhere s (eqb-false s from u), g.starts s h));
      on = λ j lo hi. decide (eqb j i)
          (λ u.
          let e : j ≡ i = eqb-true j i u in
          let start : get_or ls₂ (k + end_at mv which j) 0 ≡ j = ap (λ (x : ℕ). get_or ls₂ (k + end_at mv which x) 0) e ∙ ap (λ (x : ℕ). get_or ls₂ (k + x) 0) (sym is_from) ∙ first ∙ sym e in
          subst (λ (x : ℕ). Chain ls₂ k x j) (sym start) (here hi))
          (λ u.
          let other : j ≡ i → ⊥ = eqb-false j i u in
          let was : Chain ls k (get_or ls (k + end_at mv which j) 0) j = g.on j (omega arith) hi in
          decide (eqb (end_at mv which j) from)
          (λ v.
          let e : end_at mv which j ≡ from = eqb-true (end_at mv which j) from v in
          let start : get_or ls₂ (k + end_at mv which j) 0 ≡ i = ap (λ (x : ℕ). get_or ls₂ (k + x) 0) e ∙ first in
          let rest : Chain ls₂ k old j = chain_kept ls ls₂ k i same (omega arith) (subst (λ (x : ℕ). Chain ls k x j) (ap (λ (x : ℕ). get_or ls (k + x) 0) e) was) in
          subst (λ (x : ℕ). Chain ls₂ k x j) (sym start) (next (omega arith) (omega arith) (subst (λ (x : ℕ). Chain ls₂ k x j) (sym after) rest)))
          (λ v.
          let start : get_or ls₂ (k + end_at mv which j) 0 ≡ get_or ls (k + end_at mv which j) 0 = elsewhere (end_at mv which j) (eqb-false (end_at mv which j) from v) in
          let high : m ≤ get_or ls (k + end_at mv which j) 0 = g.starts (end_at mv which j) (end_below which k n mv leads j hi) in
          subst (λ (x : ℕ). Chain ls₂ k x j) (sym start) (chain_kept ls ls₂ k i same (omega arith) was)));
    }

-- the list of state s, where that is the end of motion m
pub listed_on : (which k : ℕ) (mv ls : List ℕ) (s : ℕ) → Listed which k mv ls → (m : ℕ) → m < k → end_at mv which m ≡ s → Chain ls k (get_or ls (k + s) 0) m
listed_on which k mv ls s all m h e = subst (λ (x : ℕ). Chain ls k (get_or ls (k + x) 0) m) e (all m h)

pub end_from : (mv : List ℕ) (m : ℕ) → end_at mv 0 m ≡ from_at mv m
unfolding end_at
end_from mv m = refl

pub end_to : (mv : List ℕ) (m : ℕ) → end_at mv 1 m ≡ to_at mv m
unfolding end_at
end_to mv m = refl
