-- Four words, narrowed down one by one or stored.
-- Assumes nothing.
use Prim.Native.Nat.{ℕ, ◌+◌, ◌-◌, ◌*◌, ◌/◌, ◌%◌, ◌≤◌, ◌<◌}
use native.Mathlib.Omega.{arith}
use mathlib.Core.Path.{◌≡◌, refl, sym, ap, ◌∙◌}
use mathlib.Core.Bool.{Bool, ◌&&◌}
use mathlib.Core.List.{List}
use lib.Bits.{bit_and, and_le_l}
use lib.Dec.{ltb, eqb}
use lib.ListN.{length, get_or, set, length-set, get_or-eq_default}
use borrow.Rule.Slice.PartMut.{put_mid}
use Rattle.std.specs.Simd.Lanes.{put_chunk}
use Rattle.std.proofs.lemmas.Simd.{put_chunk_is, length-put_chunk, get_or-put_chunk_at, get_or-put_chunk_below, get_or-put_chunk_above}
use lib.Seq.{get_or-set_same, get_or-set_other}
use borrow.Author.Tests.{ltb-true, ltb-false, eqb-true, eqb-false}
use Rattle.meaning.proofs.BasicsLaws.{decide}
use Rattle.search_sizes.specs.Sizes.{block_words, block_ticks, window_words, window_ticks, span_limit}
use Rattle.search_ticks.specs.Bits.{bit, window_of}
use Rattle.search_ticks.specs.Rows.{at, Words, Put}
use Rattle.search_ticks.proofs.BitLaws.{bit_and_lem}
use Rattle.search_ticks.proofs.RowLaws.{window_at}
use Rattle.search_arrivals.specs.Arrivals.{Narrowed}

-- ---- words that are narrowed down: those below i are, and the others are as before

abbrev pub windows : List ℕ → ℕ → ℕ → ℕ → ℕ
windows tab b e j = window_of (get_or tab (b + j) 0) (get_or tab (b + j + 1) 0) e

pub record Narrowing (f : ℕ → ℕ) (x₀ x : List ℕ) (i : ℕ) : Type 0 where
  pub done : (j : ℕ) → j < i → get_or x j 0 ≡ bit_and (get_or x₀ j 0) (f j)
  pub left : (j : ℕ) → i ≤ j → get_or x j 0 ≡ get_or x₀ j 0
  pub sized : length x ≡ length x₀

-- what is stored is there, for past the end both are 0
stored : (x : List ℕ) (i y : ℕ) → get_or (set x i (bit_and (get_or x i 0) y)) i 0 ≡ bit_and (get_or x i 0) y
stored x i y =
    decide (ltb i (length x))
    (λ e. get_or-set_same x i (bit_and (get_or x i 0) y) 0 (ltb-true i (length x) e))
    (λ e.
    let past : length x ≤ i = ltb-false i (length x) e in
    let new : get_or (set x i (bit_and (get_or x i 0) y)) i 0 ≡ 0 = get_or-eq_default (set x i (bit_and (get_or x i 0) y)) 0 {n = i} (omega (arith, length-set x i (bit_and (get_or x i 0) y))) in
    let old : get_or x i 0 ≡ 0 = get_or-eq_default x 0 {n = i} past in
    omega (arith, and_le_l (get_or x i 0) y))

pub narrowing_start : (f : ℕ → ℕ) (x : List ℕ) → Narrowing f x x 0
narrowing_start f x = record { done = λ j h. absurd (omega arith); left = λ j h. refl; sized = refl }

pub narrowing_turn : (f : ℕ → ℕ) (x₀ x : List ℕ) (i v : ℕ) → v ≡ f i → Narrowing f x₀ x i → Narrowing f x₀ (set x i (bit_and (get_or x i 0) v)) (i + 1)
narrowing_turn f x₀ x i v e n =
    record {
      done = λ j h.
          decide (eqb j i)
          (λ u.
          let same : j ≡ i = eqb-true j i u in
          rw (same, e) (stored x i (f i) ∙ ap (λ (w : ℕ). bit_and w (f i)) (n.left i (omega arith))))
          (λ u. let other : j ≡ i → ⊥ = eqb-false j i u in get_or-set_other x i j _ 0 other ∙ n.done j (omega arith));
      left = λ j h. get_or-set_other x i j _ 0 (λ same. omega arith) ∙ n.left j (omega arith);
      sized = length-set x i _ ∙ n.sized;
    }

pub narrowing_end : (tab x₀ x : List ℕ) (r back i : ℕ) → Words tab → back ≤ span_limit → block_words ≤ i
    → Narrowing (windows tab (r * window_words + (block_ticks - back) / 64) ((block_ticks - back) % 64)) x₀ x i
    → Narrowed x₀ x (λ (j : ℕ). at tab (r * window_ticks + (block_ticks - back) + j))
unfolding at
narrowing_end tab x₀ x r back i fit few past n =
    record {
      bits = λ j h.
          let place : (r * window_words + (block_ticks - back) / 64 + j / 64) * 64 + (block_ticks - back) % 64 + j % 64 ≡ r * window_ticks + (block_ticks - back) + j = omega arith in
          ap (λ (w : ℕ). bit w (j % 64)) (n.done (j / 64) (omega arith))
          ∙ bit_and_lem (j % 64) (get_or x₀ (j / 64) 0) _
          ∙ ap (λ (y : Bool). bit (get_or x₀ (j / 64) 0) (j % 64) && y)
          (window_at tab (r * window_words + (block_ticks - back) / 64 + j / 64) ((block_ticks - back) % 64) (j % 64) fit (omega arith) (omega arith) ∙ ap (at tab) place);
      sized = n.sized;
    }

-- ---- words that are stored

pub put_words : (al x ys : List ℕ) (m k : ℕ) → m * block_words + block_words ≤ length al → length x ≡ block_words → k ≡ length x → ys ≡ x
    → Put al (put_mid (m * block_words) k al ys) (m * block_ticks) (at x)
unfolding at
put_words al x ys m k room sized wide is =
    let stored : put_mid (m * block_words) k al ys ≡ put_chunk (m * block_words) al x = rw (wide, is) (sym (put_chunk_is (m * block_words) al x (omega arith))) in
    rw stored (record {
      here = λ i h.
          let word : (m * block_ticks + i) / 64 ≡ m * block_words + i / 64 = omega arith in
          let digit : (m * block_ticks + i) % 64 ≡ i % 64 = omega arith in
          rw (word, digit, get_or-put_chunk_at (m * block_words) al x (i / 64) 0 (omega arith) (omega arith));
      before = λ j h. rw (get_or-put_chunk_below (m * block_words) al x (j / 64) 0 (omega arith));
      after = λ j h. rw (get_or-put_chunk_above (m * block_words) al x (j / 64) 0 (omega arith));
      sized = length-put_chunk (m * block_words) al x;
    })
