-- Laws of arrays that are filled two or five numbers at a time.
-- Assumes nothing.
use Prim.Native.Nat.{ℕ, ◌+◌, ◌*◌, ◌<◌}
use mathlib.Core.Path.{◌≡◌, refl, sym, ◌∙◌, subst}
use mathlib.Core.List.{List}
use mathlib.Core.Bool.{Bool, true, false}
use native.Mathlib.Omega.{arith}
use lib.ListN.{length, get_or, set, length-set}
use lib.Seq.{get_or-set_same, get_or-set_other}
use lib.Dec.{eqb}
use borrow.Author.Tests.{eqb-true, eqb-false}
use Rattle.site_read.specs.declared.Motion as ReadMotion
use Rattle.search_site.specs.Decoded.{set_two, set_motion, motion_in}

-- ---- stores at rising places

-- a store leaves what is below it
below : (xs : List ℕ) (i v j : ℕ) → j < i → get_or (set xs i v) j 0 ≡ get_or xs j 0
below xs i v j h = get_or-set_other xs i j v 0 (λ e. omega arith)

-- two numbers from place i on
module _ (xs : List ℕ) (i a b : ℕ) where
  pub set_two_length : length (set_two xs i a b) ≡ length xs
  set_two_length = length-set (set xs i a) (i + 1) b ∙ length-set xs i a

  set_two_below : (j : ℕ) → j < i → get_or (set_two xs i a b) j 0 ≡ get_or xs j 0
  set_two_below j h = below (set xs i a) (i + 1) b j (omega arith) ∙ below xs i a j h

  set_two_first : i + 1 < length xs → get_or (set_two xs i a b) i 0 ≡ a
  set_two_first h = below (set xs i a) (i + 1) b i (omega arith) ∙ get_or-set_same xs i a 0 (omega arith)

  set_two_second : i + 1 < length xs → get_or (set_two xs i a b) (i + 1) 0 ≡ b
  set_two_second h = let e = length-set xs i a in get_or-set_same (set xs i a) (i + 1) b 0 (omega arith)

-- a motion's five
module _ (xs : List ℕ) (i : ℕ) (r : ReadMotion.Motion) where
  abbrev three : List ℕ
  three = set (set_two xs i r.from r.to) (i + 2) r.span

  abbrev four : List ℕ
  four = set three (i + 3) r.first

  pub three_length : length three ≡ length xs
  three_length = length-set (set_two xs i r.from r.to) (i + 2) r.span ∙ set_two_length xs i r.from r.to

  four_length : length four ≡ length xs
  four_length = length-set three (i + 3) r.first ∙ three_length

  pub set_motion_length : length (set_motion xs i r) ≡ length xs
  set_motion_length = length-set four (i + 4) r.count ∙ four_length

  -- what the last two and the last three stores leave
  below_four : (j : ℕ) → j < i + 3 → get_or (set_motion xs i r) j 0 ≡ get_or three j 0
  below_four j h = below four (i + 4) r.count j (omega arith) ∙ below three (i + 3) r.first j h

  below_three : (j : ℕ) → j < i + 2 → get_or (set_motion xs i r) j 0 ≡ get_or (set_two xs i r.from r.to) j 0
  below_three j h = below_four j (omega arith) ∙ below (set_two xs i r.from r.to) (i + 2) r.span j h

  set_motion_below : (j : ℕ) → j < i → get_or (set_motion xs i r) j 0 ≡ get_or xs j 0
  set_motion_below j h = below_three j (omega arith) ∙ set_two_below xs i r.from r.to j h

module _ (xs : List ℕ) (n : ℕ) (r : ReadMotion.Motion) where
  set_motion_here : n * 5 + 4 < length xs → motion_in (set_motion xs (n * 5) r) n ≡ r
  set_motion_here h =
      let i = n * 5 in
      let from = below_three xs i r i (omega arith) ∙ set_two_first xs i r.from r.to (omega arith) in
      let to = below_three xs i r (i + 1) (omega arith) ∙ set_two_second xs i r.from r.to (omega arith) in
      let l₂ = set_two_length xs i r.from r.to in
      let span = below_four xs i r (i + 2) (omega arith) ∙ get_or-set_same (set_two xs i r.from r.to) (i + 2) r.span 0 (omega arith) in
      let l₃ = three_length xs i r in
      let first = below (four xs i r) (i + 4) r.count (i + 3) (omega arith) ∙ get_or-set_same (three xs i r) (i + 3) r.first 0 (omega arith) in
      let l₄ = four_length xs i r in
      let count = get_or-set_same (four xs i r) (i + 4) r.count 0 (omega arith) in
      λ j. record { from = from j; to = to j; span = span j; first = first j; count = count j }

  set_motion_before : (k : ℕ) → k < n → motion_in (set_motion xs (n * 5) r) k ≡ motion_in xs k
  set_motion_before k h =
      let from = set_motion_below xs (n * 5) r (k * 5) (omega arith) in
      let to = set_motion_below xs (n * 5) r (k * 5 + 1) (omega arith) in
      let span = set_motion_below xs (n * 5) r (k * 5 + 2) (omega arith) in
      let first = set_motion_below xs (n * 5) r (k * 5 + 3) (omega arith) in
      let count = set_motion_below xs (n * 5) r (k * 5 + 4) (omega arith) in
      λ j. record { from = from j; to = to j; span = span j; first = first j; count = count j }

-- ---- filled up to a number, and one more

pub states_more : (P : ℕ → ℕ → ℕ → Type 0) (xs : List ℕ) (n a b : ℕ) → n * 2 + 1 < length xs
    → ((k : ℕ) → k < n → P k (get_or xs (k * 2) 0) (get_or xs (k * 2 + 1) 0)) → P n a b
    → (k : ℕ) → k < n + 1 → P k (get_or (set_two xs (n * 2) a b) (k * 2) 0) (get_or (set_two xs (n * 2) a b) (k * 2 + 1) 0)
states_more P xs n a b l f p k q = go (eqb k n) refl
  where
    go : (t : Bool) → eqb k n ≡ t → P k (get_or (set_two xs (n * 2) a b) (k * 2) 0) (get_or (set_two xs (n * 2) a b) (k * 2 + 1) 0)
    go true e = rw (eqb-true k n e, set_two_first xs (n * 2) a b l, set_two_second xs (n * 2) a b l) p
    go false e =
        let d = eqb-false k n e in
        rw (set_two_below xs (n * 2) a b (k * 2) (omega arith), set_two_below xs (n * 2) a b (k * 2 + 1) (omega arith)) (f k (omega arith))

pub motions_more : (P : ℕ → ReadMotion.Motion → Type 0) (xs : List ℕ) (n : ℕ) (r : ReadMotion.Motion) → n * 5 + 4 < length xs
    → ((k : ℕ) → k < n → P k (motion_in xs k)) → P n r
    → (k : ℕ) → k < n + 1 → P k (motion_in (set_motion xs (n * 5) r) k)
motions_more P xs n r l f p k q = go (eqb k n) refl
  where
    go : (t : Bool) → eqb k n ≡ t → P k (motion_in (set_motion xs (n * 5) r) k)
    go true e = subst (λ (j : ℕ). P j (motion_in (set_motion xs (n * 5) r) j)) (sym (eqb-true k n e)) (subst (P n) (sym (set_motion_here xs n r l)) p)
    go false e =
        let d = eqb-false k n e in
        let h : k < n = omega arith in
        subst (P k) (sym (set_motion_before xs n r k h)) (f k h)
