-- The tables of a block, row by row: a run of the next table is two runs of this one.
-- Assumes nothing.
use Prim.Native.Nat.{ℕ, zero, suc, ◌+◌, ◌-◌, ◌*◌, ◌≤◌, ◌<◌}
use native.Mathlib.Nat.{suc-mul}
use native.Mathlib.Numerals.{add-one}
use native.Mathlib.Omega.{arith}
use mathlib.Core.Path.{◌≡◌, refl, sym, ap, ap₂, ◌∙◌}
use mathlib.Core.Bool.{Bool, ◌&&◌}
use mathlib.Core.List.{List}
use lib.Arith.{digits_lt}
use lib.Dec.{ltb, eqb}
use lib.ListN.{length}
use borrow.Author.Tests.{ltb-true, ltb-false, eqb-true, eqb-false}
use Rattle.meaning.proofs.BasicsLaws.{decide}
use Rattle.search_sizes.specs.Sizes.{block_ticks, window_ticks}
use Rattle.search_ticks.specs.Rows.{at, Put}
use Rattle.search_runs.specs.Runs.{ended, run_tables, run_length, Shifted, longer, Halves, FirstTable, Tables}
use Rattle.search_runs.proofs.EndedLaws.{ended_one, ended_both}
use Rattle.search_runs.proofs.LengthLaws.{Growing, lengths_grow, length_first}

-- ---- the next block

-- the rows below r have moved, and the others are as before
pub record Shifting (tab₀ tab : List ℕ) (r : ℕ) : Type 0 where
  pub moved : (x i : ℕ) → x < r → i < block_ticks → at tab (x * window_ticks + i) ≡ at tab₀ (x * window_ticks + block_ticks + i)
  pub later : (j : ℕ) → r * window_ticks ≤ j → at tab j ≡ at tab₀ j
  pub sized : length tab ≡ length tab₀

pub shifting_start : (tab : List ℕ) → Shifting tab tab 0
shifting_start tab = record { moved = λ x i h. absurd (omega arith); later = λ j h. refl; sized = refl }

pub shifting_turn : (tab₀ tab tab' : List ℕ) (r : ℕ) → Put tab tab' (r * window_ticks) (λ (i : ℕ). at tab (r * window_ticks + block_ticks + i)) → Shifting tab₀ tab r → Shifting tab₀ tab' (r + 1)
shifting_turn tab₀ tab tab' r p s =
    record {
      moved = λ x i h lt.
          decide (eqb x r)
          (λ e.
          let same : x ≡ r = eqb-true x r e in
          rw same (p.here i lt ∙ s.later (r * window_ticks + block_ticks + i) (omega arith)))
          (λ e. let other : x ≡ r → ⊥ = eqb-false x r e in p.before (x * window_ticks + i) (omega arith) ∙ s.moved x i (omega arith) lt);
      later = λ j h. p.after j (omega arith) ∙ s.later j (omega arith);
      sized = p.sized ∙ s.sized;
    }

pub shifting_end : (tab₀ tab : List ℕ) (r rows : ℕ) → rows ≤ r → Shifting tab₀ tab r → Shifted tab₀ tab rows
shifting_end tab₀ tab r rows h s = record { moved = λ x i lt. s.moved x i (omega arith); sized = s.sized }

-- ---- rows of a table and of the next one

pub rows_from : (t cells : ℕ) → 1 ≤ t → t * cells ≡ (t - 1) * cells + cells
rows_from zero cells h = absurd (omega arith)
rows_from (suc t) cells h = let e : suc t - 1 ≡ t = omega arith in rw e (suc-mul t cells)

pub rows_to_lem : (t cells : ℕ) → (t + 1) * cells ≡ t * cells + cells
rows_to_lem t cells = rw (add-one t) (suc-mul t cells)

pub lengths_from : (t : ℕ) → 1 ≤ t → t < run_tables → Growing (run_length (t - 1)) (run_length t)
lengths_from zero pos h = absurd (omega arith)
lengths_from (suc t) pos h = let e : suc t - 1 ≡ t = omega arith in rw e (lengths_grow t h)

-- ---- a row of table t: its second half is written, and all else stays

module _ (l₀ l : List ℕ) (q : ℕ) (test : ℕ → Bool) (p : Put l₀ l (q * window_ticks + block_ticks) test) where
  first_halves : (r i : ℕ) → i < block_ticks → at l (r * window_ticks + i) ≡ at l₀ (r * window_ticks + i)
  first_halves r i h =
      decide (ltb q r)
      (λ e. let lt : q < r = ltb-true q r e in p.after (r * window_ticks + i) (omega arith))
      (λ e. let le : r ≤ q = ltb-false q r e in p.before (r * window_ticks + i) (omega arith))

  rows_before : (r i : ℕ) → r < q → i < window_ticks → at l (r * window_ticks + i) ≡ at l₀ (r * window_ticks + i)
  rows_before r i lt h = p.before (r * window_ticks + i) (omega arith)

-- ---- all rows of table t: those of the cells below c are done

pub record Lengthening (g : ℕ → ℕ → Bool) (cells tables b t : ℕ) (tab : List ℕ) (c : ℕ) : Type 0 where
  pub halves : Halves g cells tables b tab
  pub lower : Tables g cells t b tab
  pub done : (x i : ℕ) → x < c → i < window_ticks → at tab ((t * cells + x) * window_ticks + i) ≡ ended (g x) (run_length t) (block_ticks * b + i)

module _ (g : ℕ → ℕ → Bool) (cells tables b t : ℕ) where
  pub lengthening_start : (tab : List ℕ) → Halves g cells tables b tab → Tables g cells t b tab → Lengthening g cells tables b t tab 0
  lengthening_start tab h w = record { halves = h; lower = w; done = λ x i lt. absurd (omega arith) }

  -- two runs of the table before are one of this one
  two_runs : (tab : List ℕ) (c back i : ℕ) → 1 ≤ t → t < run_tables → c < cells → i < block_ticks → back ≡ run_length t - run_length (t - 1) → Tables g cells t b tab
      → longer tab ((t - 1) * cells + c) back i ≡ ended (g c) (run_length t) (block_ticks * b + (block_ticks + i))
  two_runs tab c back i pos small lt few e lower =
      let gr = lengths_from t pos small in
      let whole : run_length (t - 1) + back ≡ run_length t = omega (arith, gr.longer) in
      let here : ((t - 1) * cells + c) * window_ticks + block_ticks + i ≡ ((t - 1) * cells + c) * window_ticks + (block_ticks + i) = omega arith in
      let earlier : ((t - 1) * cells + c) * window_ticks + (block_ticks - back) + i ≡ ((t - 1) * cells + c) * window_ticks + (block_ticks - back + i) = omega arith in
      let less : block_ticks * b + (block_ticks - back + i) ≡ block_ticks * b + (block_ticks + i) - back = omega (arith, gr.near) in
      ap₂ (λ (x y : Bool). x && y)
      (ap (at tab) here ∙ lower (t - 1) c (block_ticks + i) (omega arith) lt (omega arith))
      (ap (at tab) earlier ∙ lower (t - 1) c (block_ticks - back + i) (omega arith) lt (omega (arith, gr.longer)) ∙ ap (ended (g c) (run_length (t - 1))) less)
      ∙ ended_both (g c) (run_length (t - 1)) back (block_ticks * b + (block_ticks + i)) (omega (arith, gr.twice))
      ∙ ap (λ (k : ℕ). ended (g c) k (block_ticks * b + (block_ticks + i))) whole

  pub lengthening_turn : (tab tab' : List ℕ) (c back : ℕ) → 1 ≤ t → t < run_tables → t < tables → c < cells → back ≡ run_length t - run_length (t - 1)
      → Put tab tab' ((t * cells + c) * window_ticks + block_ticks) (longer tab ((t - 1) * cells + c) back)
      → Lengthening g cells tables b t tab c → Lengthening g cells tables b t tab' (c + 1)
  lengthening_turn tab tab' c back pos small within lt e p s =
      record {
        halves = λ k x i a f h. first_halves tab tab' (t * cells + c) _ p (k * cells + x) i h ∙ s.halves k x i a f h;
        lower = λ k x i a f h. rows_before tab tab' (t * cells + c) _ p (k * cells + x) i (omega (arith, digits_lt {q = k} {m = t} {r = x} {c = cells} a f)) h ∙ s.lower k x i a f h;
        done = λ x i a h.
            decide (eqb x c)
            (λ u.
            let same : x ≡ c = eqb-true x c u in
            rw same (row i h))
            (λ u. let other : x ≡ c → ⊥ = eqb-false x c u in rows_before tab tab' (t * cells + c) _ p (t * cells + x) i (omega arith) h ∙ s.done x i (omega arith) h);
      }
    where
      row : (i : ℕ) → i < window_ticks → at tab' ((t * cells + c) * window_ticks + i) ≡ ended (g c) (run_length t) (block_ticks * b + i)
      row i h =
          decide (ltb i block_ticks)
          (λ u.
          let early : i < block_ticks = ltb-true i block_ticks u in
          first_halves tab tab' (t * cells + c) _ p (t * cells + c) i early ∙ s.halves t c i within lt early)
          (λ u.
          let late : block_ticks ≤ i = ltb-false i block_ticks u in
          let place : (t * cells + c) * window_ticks + i ≡ (t * cells + c) * window_ticks + block_ticks + (i - block_ticks) = omega arith in
          let number : block_ticks + (i - block_ticks) ≡ i = omega arith in
          ap (at tab') place ∙ p.here (i - block_ticks) (omega arith) ∙ two_runs tab c back (i - block_ticks) pos small lt (omega arith) e s.lower
          ∙ ap (λ (k : ℕ). ended (g c) (run_length t) (block_ticks * b + k)) number)

  pub lengthening_end : (tab : List ℕ) (c : ℕ) → cells ≤ c → Lengthening g cells tables b t tab c → Halves g cells tables b tab × Tables g cells (t + 1) b tab
  lengthening_end tab c most s = (
    s.halves,
    λ k x i a f h.
        decide (eqb k t)
        (λ u. let same : k ≡ t = eqb-true k t u in rw same (s.done x i (omega arith) h))
        (λ u. let other : k ≡ t → ⊥ = eqb-false k t u in s.lower k x i (omega arith) f h),
  )

-- ---- the first table

pub first_table : (g : ℕ → ℕ → Bool) (cells tables b : ℕ) (tab : List ℕ) → 1 ≤ tables → Halves g cells tables b tab → FirstTable g cells b tab → Tables g cells 1 b tab
first_table g cells tables b tab pos halves first k x i a f h =
    let none : k ≡ 0 = omega arith in
    rw none (row i h)
  where
    row : (i : ℕ) → i < window_ticks → at tab ((0 * cells + x) * window_ticks + i) ≡ ended (g x) (run_length 0) (block_ticks * b + i)
    row i h =
        decide (ltb i block_ticks)
        (λ u. halves 0 x i (omega arith) f (ltb-true i block_ticks u))
        (λ u.
        let late : block_ticks ≤ i = ltb-false i block_ticks u in
        let place : (0 * cells + x) * window_ticks + i ≡ x * window_ticks + block_ticks + (i - block_ticks) = omega arith in
        let number : block_ticks * b + block_ticks + (i - block_ticks) ≡ block_ticks * b + i = omega arith in
        ap (at tab) place ∙ first x (i - block_ticks) f (omega arith) ∙ ap (g x) number
        ∙ sym (ap (λ (n : ℕ). ended (g x) n (block_ticks * b + i)) length_first ∙ ended_one (g x) (block_ticks * b + i)))
