-- A sweep's test by the tables of runs, and the test of all sweeps of a motion.
-- Assumes nothing.
use Prim.Native.Nat.{ℕ, zero, suc, ◌+◌, ◌-◌, ◌*◌, ◌%◌, ◌/◌, ◌^◌, ◌≤◌, ◌<◌}
use native.Mathlib.Nat.{pow-suc, mul-le-mul, mul-le-mul_right}
use native.Mathlib.Omega.{arith}
use mathlib.Core.Path.{◌≡◌, sym, ap, ap₂, ◌∙◌}
use mathlib.Core.Bool.{Bool, true, ◌&&◌, and_assoc, and-true}
use mathlib.Core.List.{List}
use lib.Dec.{ltb}
use lib.Pow.{pow_pos}
use lib.ListN.{length, replicate, get_or-replicate}
use borrow.Author.Tests.{ltb-true, ltb-false}
use Rattle.meaning.specs.Limits.{cell_limit, sweep_size}
use Rattle.meaning.specs.Basics.{all}
use Rattle.meaning.specs.Site.{Sweep}
use Rattle.meaning.proofs.BasicsLaws.{decide}
use Rattle.site_sweeps.specs.declared.Sweep as Read
use Rattle.site_sweeps.specs.Places.{sweep_at, sweeps_at, SweepIs}
use Rattle.site_sweeps.proofs.Laws.{rest_at, rest_whole, rest_none, rest_next}
use Rattle.search_sizes.specs.Sizes.{block_words, block_ticks, window_words, window_ticks, block_start, span_limit}
use Rattle.search_ticks.specs.Bits.{bit}
use Rattle.search_ticks.specs.Rows.{at, Put}
use Rattle.search_ticks.proofs.BitLaws.{odd_of}
use Rattle.search_runs.specs.Runs.{ended, run_tables, run_length, table_of, Tables}
use Rattle.search_runs.proofs.EndedLaws.{ended_both}
use Rattle.search_runs.proofs.LengthLaws.{table_mono, length_small}
use Rattle.search_site.specs.Decoded.{SweepsIn}
use Rattle.search_arrivals.specs.Arrivals.{Narrowed, arrives}

-- ---- one sweep, of n positions up to the one `back` before the end

module _ (g : ℕ → ℕ → Bool) (cells tables b : ℕ) (tab : List ℕ) (right : Tables g cells tables b tab) (t c : ℕ) (there : t < tables) (known : c < cells) where
  run_at : (back i : ℕ) → back ≤ span_limit → i < block_ticks → at tab ((t * cells + c) * window_ticks + (block_ticks - back) + i) ≡ ended (g c) (run_length t) (block_start b + i - back)
  run_at back i few h =
      let place : (t * cells + c) * window_ticks + (block_ticks - back) + i ≡ (t * cells + c) * window_ticks + (block_ticks - back + i) = omega arith in
      let number : block_ticks * b + (block_ticks - back + i) ≡ block_start b + i - back = omega arith in
      ap (at tab) place ∙ right t c (block_ticks - back + i) there known (omega arith) ∙ ap (ended (g c) (run_length t)) number

  -- one run has them all
  pub sweep_short : (x₀ x : List ℕ) (n back : ℕ) → t < 4 → n ≡ suc t → back ≤ span_limit
      → Narrowed x₀ x (λ (i : ℕ). at tab ((t * cells + c) * window_ticks + (block_ticks - back) + i))
      → Narrowed x₀ x (λ (i : ℕ). ended (g c) n (block_start b + i - back))
  sweep_short x₀ x n back small e few p =
      record {
        bits = λ i h.
            p.bits i h
            ∙ ap (λ (y : Bool). at x₀ i && y)
            (run_at back i few h ∙ ap (λ (k : ℕ). ended (g c) k (block_start b + i - back)) (length_small t small ∙ sym e));
        sized = p.sized;
      }

  -- two runs have them all
  pub sweep_long : (x₀ x x' : List ℕ) (n back back' : ℕ) → run_length t ≤ n → n ≤ run_length t + run_length t → back' ≡ back + (n - run_length t) → back' ≤ span_limit
      → Narrowed x₀ x (λ (i : ℕ). at tab ((t * cells + c) * window_ticks + (block_ticks - back) + i))
      → Narrowed x x' (λ (i : ℕ). at tab ((t * cells + c) * window_ticks + (block_ticks - back') + i))
      → Narrowed x₀ x' (λ (i : ℕ). ended (g c) n (block_start b + i - back))
  sweep_long x₀ x x' n back back' within twice e few p q =
      record {
        bits = λ i h.
            let less : block_start b + i - back' ≡ block_start b + i - back - (n - run_length t) = omega arith in
            let whole : run_length t + (n - run_length t) ≡ n = omega arith in
            q.bits i h
            ∙ ap₂ (λ (y z : Bool). y && z)
            (p.bits i h ∙ ap (λ (y : Bool). at x₀ i && y) (run_at back i (omega arith) h))
            (run_at back' i few h ∙ ap (ended (g c) (run_length t)) less)
            ∙ and_assoc (at x₀ i) _ _
            ∙ ap (λ (y : Bool). at x₀ i && y)
            (ended_both (g c) (run_length t) (n - run_length t) (block_start b + i - back) (omega arith) ∙ ap (λ (k : ℕ). ended (g c) k (block_start b + i - back)) whole);
        sized = q.sized ∙ p.sized;
      }

-- the row of a cell in the table of n positions is in the tables
pub row_room : (t n cells c room : ℕ) → t ≡ table_of n → c < cells → (table_of n * cells + cells) * window_words < room → (t * cells + c) * window_words + window_words < room
row_room t n cells c room e known h = rw e (omega arith)

pub rows_few : (t cells : ℕ) → t < run_tables → cells ≤ cell_limit → t * cells ≤ 8000
rows_few t cells few small = mul-le-mul {n₁ = t} {m₁ = cells} {n₂ = 8} {m₂ = cell_limit} (omega arith) small

-- the table of a sweep is no later than that of the whole span
pub table_room : (n span cells room : ℕ) → 1 ≤ n → n ≤ suc span → span ≤ span_limit → (table_of (suc span) * cells + cells) * window_words < room → (table_of n * cells + cells) * window_words < room
table_room n span cells room pos few small h =
    omega (arith, mul-le-mul_right {m = table_of n} {n = table_of (suc span)} cells (table_mono n (suc span) pos few (omega arith)))

pub table_there : (n span tables : ℕ) → 1 ≤ n → n ≤ suc span → span ≤ span_limit → table_of (suc span) < tables → table_of n < tables
table_there n span tables pos few small h = omega (arith, table_mono n (suc span) pos few (omega arith))

-- ---- a sweep that was read

module _ (cells span : ℕ) (sw : List ℕ) (p n i : ℕ) (r : Read.Sweep) (in_range : SweepsIn cells span sw p n) (h : i < n) (is : SweepIs (sweep_at sw (p + sweep_size * i)) r) where
  pub read_order : r.first ≤ r.last
  read_order = omega (arith, ap (λ (w : Sweep). w.first) is.same, ap (λ (w : Sweep). w.last) is.same, in_range.order i h)

  pub read_end : r.last ≤ span
  read_end = omega (arith, ap (λ (w : Sweep). w.last) is.same, in_range.end i h)

  pub read_cell : r.cell < cells
  read_cell = omega (arith, ap (λ (w : Sweep). w.cell) is.same, in_range.cell i h)

-- ---- the sweeps of a motion: what is left to test, with the words as they are, is the whole test

abbrev pub Testing : (ℕ → ℕ → Bool) → List ℕ → ℕ → ℕ → ℕ → ℕ → List ℕ → ℕ → Type 0
Testing g sw place count span b x i =
    (j : ℕ) → j < block_ticks → (at x j && arrives g (rest_at sw place count i) span (block_start b + j)) ≡ arrives g (sweeps_at sw place count) span (block_start b + j)

ones_bit : (n i : ℕ) → i < n → bit (2 ^ n - 1) i ≡ true
unfolding bit
ones_bit zero i h = absurd (omega arith)
ones_bit (suc n) zero h = odd_of (2 ^ suc n - 1) (omega (arith, pow-suc 2 n, pow_pos n))
ones_bit (suc n) (suc i) h =
    let e : (2 ^ suc n - 1) / 2 ≡ 2 ^ n - 1 = omega (arith, pow-suc 2 n, pow_pos n) in
    rw e (ones_bit n i (omega arith))

ones_full : (j : ℕ) → j < block_ticks → at (replicate block_words 18446744073709551615) j ≡ true
unfolding at
ones_full j h =
    ap (λ (w : ℕ). bit w (j % 64)) (get_or-replicate {A = ℕ} block_words (j / 64) 18446744073709551615 0 (omega arith)) ∙ ones_bit 64 (j % 64) (omega arith)

module _ (g : ℕ → ℕ → Bool) (sw : List ℕ) (place count span b : ℕ) where
  pub testing_start : Testing g sw place count span b (replicate block_words 18446744073709551615) 0
  testing_start j h =
      ap₂ (λ (y : Bool) (ws : List Sweep). y && arrives g ws span (block_start b + j)) (ones_full j h) (rest_whole sw place count)

  -- one more sweep, as it was read
  first_tested : (i u : ℕ) (r : Read.Sweep) → i < count → place + sweep_size * count ≤ length sw → SweepIs (sweep_at sw (place + sweep_size * i)) r
      → arrives g (rest_at sw place count i) span u ≡ (ended (g r.cell) (suc r.last - r.first) (u - (span - r.last)) && arrives g (rest_at sw place count (i + 1)) span u)
  unfolding arrives all
  first_tested i u r h long is =
      ap (λ (ws : List Sweep). arrives g ws span u) (rest_next sw place count i h long)
      ∙ ap (λ (w : Sweep). ended (g w.cell) (suc w.last - w.first) (u - (span - w.last)) && arrives g (rest_at sw place count (i + 1)) span u) (sym is.same)

  pub testing_turn : (x x' : List ℕ) (i : ℕ) (r : Read.Sweep) → i < count → place + sweep_size * count ≤ length sw → SweepIs (sweep_at sw (place + sweep_size * i)) r
      → Narrowed x x' (λ (j : ℕ). ended (g r.cell) (suc r.last - r.first) (block_start b + j - (span - r.last)))
      → Testing g sw place count span b x i → Testing g sw place count span b x' (i + 1)
  testing_turn x x' i r h long is p s j lt =
      ap (λ (y : Bool). y && arrives g (rest_at sw place count (i + 1)) span (block_start b + j)) (p.bits j lt)
      ∙ and_assoc (at x j) _ _
      ∙ ap (λ (y : Bool). at x j && y) (sym (first_tested i (block_start b + j) r h long is))
      ∙ s j lt

  none_left : (i u : ℕ) → count ≤ i → arrives g (rest_at sw place count i) span u ≡ true
  unfolding arrives all
  none_left i u h = ap (λ (ws : List Sweep). arrives g ws span u) (rest_none sw place count i h)

  pub testing_end : (x : List ℕ) (i : ℕ) → count ≤ i → Testing g sw place count span b x i → (j : ℕ) → j < block_ticks → at x j ≡ arrives g (sweeps_at sw place count) span (block_start b + j)
  testing_end x i most s j lt =
      sym (and-true (at x j)) ∙ ap (λ (y : Bool). at x j && y) (sym (none_left i (block_start b + j) most)) ∙ s j lt

-- ---- the rows that are not written
pub rows_kept : (l₀ l : List ℕ) (m : ℕ) (test : ℕ → Bool) → Put l₀ l (m * block_ticks) test → (x i : ℕ) → (x ≡ m → ⊥) → i < block_ticks → at l (x * block_ticks + i) ≡ at l₀ (x * block_ticks + i)
rows_kept l₀ l m test p x i other h =
    decide (ltb x m)
    (λ e. let lt : x < m = ltb-true x m e in p.before (x * block_ticks + i) (omega arith))
    (λ e. let ge : m ≤ x = ltb-false x m e in p.after (x * block_ticks + i) (omega arith))
