-- How long the runs of a table are, and which table serves a length.
-- Assumes nothing.
use Prim.Native.Nat.{ℕ, zero, suc, ◌+◌, ◌-◌, ◌*◌, ◌%◌, ◌^◌, ◌≤◌, ◌<◌}
use lib.Pow.{pow_mono, pow_pos}
use native.Mathlib.Omega.{arith}
use mathlib.Core.Path.{◌≡◌, refl}
use mathlib.Core.Bool.{Bool, true, ◌&&◌}
use lib.Dec.{ltb, leb}
use borrow.Author.Tests.{ltb-true, leb-true, lt-ltb, le-ltb}
use Rattle.meaning.specs.Basics.{all_below}
use Rattle.meaning.proofs.BasicsLaws.{and_left, and_right, below_at}
use Rattle.search_runs.specs.Runs.{run_tables, run_length, table_of}

-- ---- a table and the next one

-- the runs of the next table are longer, by no more than they were and by at most 64
unfoldable growing : ℕ → Bool
growing t =
    ltb (run_length t) (run_length (suc t)) && (leb (run_length (suc t)) (run_length t + run_length t) && leb (run_length (suc t)) (run_length t + 64))

growing_all : all_below growing 8 ≡ true
unfolding all_below growing run_length
growing_all = refl

pub record Growing (n m : ℕ) : Type 0 where
  pub longer : n < m
  pub twice : m ≤ n + n
  pub near : m ≤ n + 64

pub lengths_grow : (t : ℕ) → suc t < run_tables → Growing (run_length t) (run_length (suc t))
unfolding growing
lengths_grow t h =
    let e : growing t ≡ true = below_at growing 8 growing_all t (omega arith) in
    let f = and_right (ltb (run_length t) (run_length (suc t))) _ e in
    record {
      longer = ltb-true (run_length t) (run_length (suc t)) (and_left _ _ e);
      twice = leb-true (run_length (suc t)) (run_length t + run_length t) (and_left _ (leb (run_length (suc t)) (run_length t + 64)) f);
      near = leb-true (run_length (suc t)) (run_length t + 64) (and_right (leb (run_length (suc t)) (run_length t + run_length t)) _ f);
    }

pub length_first : run_length 0 ≡ 1
unfolding run_length
length_first = refl

-- ---- the table of a length

-- two runs of the table cover n positions, one does not have more, and a longer length has no earlier table
unfoldable serving : ℕ → Bool
serving n =
    leb (run_length (table_of n)) n && (leb n (run_length (table_of n) + run_length (table_of n)) && leb (table_of n) (table_of (suc n)))

serving_all : all_below (λ (n : ℕ). serving (suc n)) 256 ≡ true
unfolding all_below serving run_length table_of
serving_all = refl

pub record Serving (n t m : ℕ) : Type 0 where
  pub within : m ≤ n
  pub twice : n ≤ m + m
  pub later : t ≤ table_of (suc n)

pub table_serves : (n : ℕ) → 1 ≤ n → n ≤ 256 → Serving n (table_of n) (run_length (table_of n))
unfolding serving
table_serves zero pos h = absurd (omega arith)
table_serves (suc n) pos h =
    let e : serving (suc n) ≡ true = below_at (λ (n : ℕ). serving (suc n)) 256 serving_all n (omega arith) in
    let f = and_right (leb (run_length (table_of (suc n))) (suc n)) _ e in
    record {
      within = leb-true (run_length (table_of (suc n))) (suc n) (and_left _ _ e);
      twice = leb-true (suc n) (run_length (table_of (suc n)) + run_length (table_of (suc n))) (and_left _ (leb (table_of (suc n)) (table_of (suc (suc n)))) f);
      later = leb-true (table_of (suc n)) (table_of (suc (suc n))) (and_right (leb (suc n) (run_length (table_of (suc n)) + run_length (table_of (suc n)))) _ f);
    }

table_further : (k n : ℕ) → 1 ≤ n → n + k ≤ 256 → table_of n ≤ table_of (n + k)
table_further zero n pos h = let e : n + 0 ≡ n = omega arith in rw e (omega arith)
table_further (suc k) n pos h =
    let e : n + suc k ≡ suc (n + k) = omega arith in
    rw e (omega (arith, table_further k n pos (omega arith), (table_serves (n + k) (omega arith) (omega arith)).later))

pub table_mono : (n m : ℕ) → 1 ≤ n → n ≤ m → m ≤ 256 → table_of n ≤ table_of m
table_mono n m pos few h = let e : n + (m - n) ≡ m = omega arith in rw e at (table_further (m - n) n pos (omega arith))

-- up to four positions there is a table for each length
pub length_small : (t : ℕ) → t < 4 → run_length t ≡ suc t
unfolding run_length
length_small t h = rw (lt-ltb t 4 h)

-- and from then on each length is a power of two
pub length_power : (t : ℕ) → 4 ≤ t → t < run_tables
    → (1 * 2 ^ (t - 1) % 2 ^ 64 ≡ run_length t) × ((1 ≤ 1 * 2 ^ (t - 1) % 2 ^ 64) × (1 * 2 ^ (t - 1) % 2 ^ 64 ≤ 128))
unfolding run_length
length_power t most few =
    let least = pow_pos (t - 1) in
    let less = pow_mono {i = t - 1} {j = 7} (omega arith) in
    let exact : 1 * 2 ^ (t - 1) % 2 ^ 64 ≡ 2 ^ (t - 1) = omega arith in
    (rw (le-ltb t 4 most) exact, (omega arith, omega arith))

pub table_small : (t : ℕ) → t < 4 → table_of (suc t) ≡ t
unfolding table_of
table_small t h = let less : suc t - 1 ≡ t = omega arith in rw (lt-ltb (suc t) 5 (omega arith)) less
