-- Laws of the sweeps by place, and of the tests on them.
-- Assumes nothing.
use Prim.Native.Nat.{ℕ, zero, suc, ◌+◌, ◌*◌, ◌-◌, ◌/◌, ◌≤◌, ◌<◌}
use mathlib.Core.Path.{◌≡◌, refl, sym, ap, ap₂, ◌∙◌}
use mathlib.Core.List.{List, [], ◌∷◌}
use mathlib.Core.Bool.{Bool, true, false}
use native.Mathlib.Omega.{arith}
use lib.ListN.{length, get_or, take, drop, length-drop}
use lib.Seq.{drop-drop, get_or-drop, length-take-le}
use Rattle.std.specs.List.{list_any, list_all}
use Rattle.std.specs.Simd.{first_chunks}
use Rattle.meaning.specs.Limits.{sweep_size}
use Rattle.meaning.specs.Basics.{any, all, u16_at}
use Rattle.meaning.specs.Site.{Sweep, sweeps_of}
use Rattle.site_sweeps.specs.Places.{sweep_at, sweeps_at, sweeps_in, sweep_of, SweepIs}
use Rattle.site_sweeps.specs.declared.Sweep as ReadSweep

-- the first of n sweeps, on a list
take_sweep : (s : List ℕ) (n : ℕ) → sweep_size + sweep_size * n ≤ length s →
    sweeps_of (take (sweep_size * suc n) s) ≡ record { cell = u16_at s 0; first = get_or s 2 0; last = get_or s 3 0 } ∷ sweeps_of (take (sweep_size * n) (drop sweep_size s))
unfolding sweeps_of
take_sweep [] n p = absurd (omega arith)
take_sweep (c ∷ []) n p = absurd (omega arith)
take_sweep (c ∷ d ∷ []) n p = absurd (omega arith)
take_sweep (c ∷ d ∷ a ∷ []) n p = absurd (omega arith)
take_sweep (c ∷ d ∷ a ∷ b ∷ s) n p =
    let e : sweep_size * suc n ≡ suc (suc (suc (suc (sweep_size * n)))) = omega arith in
    rw e

pub sweeps_none : (file : List ℕ) (at n : ℕ) → n ≡ 0 → sweeps_at file at n ≡ []
unfolding sweeps_at sweeps_of
sweeps_none file at n p = rw p

pub sweeps_next : (file : List ℕ) (at n : ℕ) → 0 < n → at + sweep_size * n ≤ length file → sweeps_at file at n ≡ sweep_at file at ∷ sweeps_at file (at + sweep_size) (n - 1)
unfolding sweeps_at
sweeps_next file at zero h p = absurd (omega arith)
sweeps_next file at (suc n) h p =
    let e = length-drop at file in
    let z : at + 0 ≡ at = omega arith in
    let m : suc n - 1 ≡ n = omega arith in
    take_sweep (drop at file) n (omega arith) ∙ rw (get_or-drop at file 0 0, get_or-drop at file 1 0, get_or-drop at file 2 0, get_or-drop at file 3 0, drop-drop sweep_size at file, z, m)

-- how many they are, and each by its number
pub sweeps_length : (n : ℕ) (file : List ℕ) (at : ℕ) → at + sweep_size * n ≤ length file → length (sweeps_at file at n) ≡ n
sweeps_length zero file at p = ap length (sweeps_none file at 0 refl)
sweeps_length (suc n) file at p =
    let m : suc n - 1 ≡ n = omega arith in
    ap length (sweeps_next file at (suc n) (omega arith) p) ∙ rw m (ap suc (sweeps_length n file (at + sweep_size) (omega arith)))

pub sweeps_at_lem : (i n : ℕ) (file : List ℕ) (at : ℕ) (d : Sweep) → i < n → at + sweep_size * n ≤ length file → get_or (sweeps_at file at n) i d ≡ sweep_at file (at + sweep_size * i)
sweeps_at_lem i zero file at d h p = absurd (omega arith)
sweeps_at_lem zero (suc n) file at d h p =
    let z : at + sweep_size * 0 ≡ at = omega arith in
    ap (λ (ws : List Sweep). get_or ws 0 d) (sweeps_next file at (suc n) (omega arith) p) ∙ rw z
sweeps_at_lem (suc i) (suc n) file at d h p =
    let m : suc n - 1 ≡ n = omega arith in
    let z : at + sweep_size * suc i ≡ at + sweep_size + sweep_size * i = omega arith in
    ap (λ (ws : List Sweep). get_or ws (suc i) d) (sweeps_next file at (suc n) (omega arith) p)
    ∙ rw (m, z) (sweeps_at_lem i n file (at + sweep_size) d (omega arith) (omega arith))

-- ---- the sweeps from the number i on

abbrev pub rest_at : List ℕ → ℕ → ℕ → ℕ → List Sweep
rest_at file at n i = sweeps_at file (at + sweep_size * i) (n - i)

pub rest_whole : (file : List ℕ) (at n : ℕ) → rest_at file at n 0 ≡ sweeps_at file at n
rest_whole file at n =
    let place : at + sweep_size * 0 ≡ at = omega arith in
    let left : n - 0 ≡ n = omega arith in
    ap₂ (sweeps_at file) place left

module _ (file : List ℕ) (at n i : ℕ) where
  pub rest_none : n ≤ i → rest_at file at n i ≡ []
  rest_none h = sweeps_none file (at + sweep_size * i) (n - i) (omega arith)

  pub rest_next : i < n → at + sweep_size * n ≤ length file → rest_at file at n i ≡ sweep_at file (at + sweep_size * i) ∷ rest_at file at n (i + 1)
  rest_next h r =
      let place : at + sweep_size * i + sweep_size ≡ at + sweep_size * (i + 1) = omega arith in
      let left : n - i - 1 ≡ n - (i + 1) = omega arith in
      sweeps_next file (at + sweep_size * i) (n - i) (omega arith) (omega arith) ∙ ap₂ (λ (x y : ℕ). sweep_at file (at + sweep_size * i) ∷ sweeps_at file x y) place left

-- ---- the sweeps whose bytes are given one by one

-- those of a slice that has no bytes beside them
pub in_chunks : (n : ℕ) (s : List ℕ) → length s ≡ sweep_size * n → sweeps_in (first_chunks sweep_size n s) ≡ sweeps_of s
unfolding sweeps_of
in_chunks zero [] e = refl
in_chunks zero (c ∷ s) e = absurd (omega arith)
in_chunks (suc n) [] e = absurd (omega arith)
in_chunks (suc n) (c ∷ []) e = absurd (omega arith)
in_chunks (suc n) (c ∷ d ∷ []) e = absurd (omega arith)
in_chunks (suc n) (c ∷ d ∷ a ∷ []) e = absurd (omega arith)
in_chunks (suc n) (c ∷ d ∷ a ∷ b ∷ s) e = ap (λ (ws : List Sweep). record { cell = c * 256 + d; first = a; last = b } ∷ ws) (in_chunks n s (omega arith))

pub slice_sweeps : (file : List ℕ) (at n : ℕ) → at + sweep_size * n ≤ length file
    → (let s = take (at + sweep_size * n - at) (drop at file) in sweeps_in (first_chunks sweep_size (length s / sweep_size) s)) ≡ sweeps_at file at n
unfolding sweeps_at
slice_sweeps file at n p =
    let d = length-drop at file in
    let size : at + sweep_size * n - at ≡ sweep_size * n = omega arith in
    let long = length-take-le (sweep_size * n) (drop at file) (omega arith) in
    let count : length (take (sweep_size * n) (drop at file)) / sweep_size ≡ n = omega arith in
    rw (size, count) (in_chunks n _ long)

module _ (p : Sweep → Bool) where
  pub any_in : (bs : List (List ℕ)) → list_any (λ b. p (sweep_at b 0)) bs ≡ any p (sweeps_in bs)
  unfolding any
  any_in [] = refl
  any_in (b ∷ bs) = rw (any_in bs)

  pub all_in : (bs : List (List ℕ)) → list_all (λ b. p (sweep_at b 0)) bs ≡ all p (sweeps_in bs)
  unfolding all
  all_in [] = refl
  all_in (b ∷ bs) = rw (all_in bs)

-- what a test says of the sweep that was read, it says of the one in the file
pub read_same : (p : Sweep → Bool) {w : Sweep} {r : ReadSweep.Sweep} {b : Bool} → SweepIs w r → b ≡ p (sweep_of r) → b ≡ p w
read_same p s e = e ∙ ap p s.same

pub read_test : (p : Sweep → Bool) {w : Sweep} {r : ReadSweep.Sweep} {b c : Bool} → SweepIs w r → b ≡ p (sweep_of r) → b ≡ c → p w ≡ c
read_test p s e t = ap p (sym s.same) ∙ sym e ∙ t

-- a test of all of them
module _ (p : Sweep → Bool) (file : List ℕ) (at n i : ℕ) where
  pub all_none : n ≤ i → all p (rest_at file at n i) ≡ true
  unfolding all
  all_none h = rw (rest_none file at n i h)

  pub all_hit : i < n → at + sweep_size * n ≤ length file → p (sweep_at file (at + sweep_size * i)) ≡ true → all p (rest_at file at n i) ≡ all p (rest_at file at n (i + 1))
  unfolding all
  all_hit h q e = rw (rest_next file at n i h q, e)

  pub all_miss : i < n → at + sweep_size * n ≤ length file → p (sweep_at file (at + sweep_size * i)) ≡ false → all p (rest_at file at n i) ≡ false
  unfolding all
  all_miss h q e = rw (rest_next file at n i h q, e)
