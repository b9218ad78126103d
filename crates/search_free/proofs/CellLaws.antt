-- The rows of all cells in a block: what the bits of the words mean of the board.
-- Assumes nothing.
use Prim.Native.Nat.{ℕ, suc, ◌+◌, ◌*◌, ◌≤◌, ◌<◌}
use native.Mathlib.Nat.{mul-le-mul_right, suc-mul}
use native.Mathlib.Omega.{arith}
use mathlib.Core.Path.{◌≡◌, refl, sym, ap, ◌∙◌}
use mathlib.Core.List.{List}
use lib.Dec.{ltb, eqb}
use lib.ListN.{length, get_or, take, drop}
use Rattle.std.proofs.Common.{length-take, length-drop, get_or-take, get_or-drop}
use borrow.Author.Tests.{ltb-true, ltb-false, eqb-true, eqb-false}
use Rattle.meaning.specs.Limits.{header}
use Rattle.meaning.specs.Site.{Site}
use Rattle.meaning.specs.Board.{free, byte_at}
use Rattle.meaning.proofs.BasicsLaws.{decide, same_test}
use Rattle.meaning.proofs.BytesLaws.{tells_free}
use Rattle.search_sizes.specs.Sizes.{block_ticks, window_ticks}
use Rattle.search_ticks.specs.Rows.{at, Put}
use Rattle.search_free.specs.Frees.{spaced_to, FreeBlock}
use Rattle.search_free.proofs.MarginLaws.{tells_spaced}

-- the bytes of a cell, `width` of them
abbrev pub cell_row : List ℕ → ℕ → ℕ → List ℕ
cell_row b width c = take width (drop (header + c * width) b)

-- the second halves of the first n rows are done, and all else is as before
pub record FreeRows (b : List ℕ) (width m block : ℕ) (l₀ l : List ℕ) (n : ℕ) : Type 0 where
  pub done : (c i : ℕ) → c < n → i < block_ticks → at l (c * window_ticks + block_ticks + i) ≡ spaced_to (cell_row b width c) m (block_ticks * block + i)
  pub early : (c i : ℕ) → i < block_ticks → at l (c * window_ticks + i) ≡ at l₀ (c * window_ticks + i)
  pub after : (j : ℕ) → n * window_ticks ≤ j → at l j ≡ at l₀ j
  pub sized : length l ≡ length l₀

pub rows_none : (b : List ℕ) (width m block : ℕ) (l : List ℕ) → FreeRows b width m block l l 0
rows_none b width m block l = record { done = λ c i h e. absurd (omega arith); early = λ c i h. refl; after = λ j h. refl; sized = refl }

pub rows_more : (b : List ℕ) (width m block : ℕ) (l₀ l l' : List ℕ) (c : ℕ)
    → Put l l' (c * window_ticks + block_ticks) (λ i. spaced_to (cell_row b width c) m (block_ticks * block + i))
    → FreeRows b width m block l₀ l c → FreeRows b width m block l₀ l' (c + 1)
rows_more b width m block l₀ l l' c step g =
    record {
      done = λ x i h e.
          decide (eqb x c)
          (λ u. let same : x ≡ c = eqb-true x c u in rw same (step.here i e))
          (λ u. let other : x ≡ c → ⊥ = eqb-false x c u in
          step.before (x * 512 + 256 + i) (omega arith) ∙ g.done x i (omega arith) e);
      early = λ x i e.
          decide (ltb c x)
          (λ u. let above : c < x = ltb-true c x u in step.after (x * 512 + i) (omega arith) ∙ g.early x i e)
          (λ u. let below : x ≤ c = ltb-false c x u in step.before (x * 512 + i) (omega arith) ∙ g.early x i e);
      after = λ j h. step.after j (omega arith) ∙ g.after j (omega arith);
      sized = step.sized ∙ g.sized;
    }

pub cell_run : (c cells w : ℕ) → c < cells → c * w + w ≤ cells * w
cell_run c cells w h = omega (arith, mul-le-mul_right {m = suc c} {n = cells} w h, suc-mul c w)

-- a tick of a cell: the ticks up to the horizon are the first horizon + 1
spaced_is : (b : List ℕ) (site : Site) (horizon m c t : ℕ) → header + c * (horizon + 1) + (horizon + 1) ≤ length b → c < site.cells → site.horizon ≡ horizon → site.margin ≡ m
    → spaced_to (cell_row b (horizon + 1) c) m t ≡ free site b c t
spaced_is b site horizon m c t room inside same_horizon same_margin =
    let row : List ℕ = cell_row b (horizon + 1) c in
    let start : ℕ = header + c * (horizon + 1) in
    let long : length (cell_row b (horizon + 1) c) ≡ horizon + 1 = omega (arith, length-take (horizon + 1) (drop start b), length-drop start b) in
    let bytes : (x : ℕ) → x < horizon + 1 → byte_at site b c x ≡ get_or (cell_row b (horizon + 1) c) x 0 =
    λ x lt.
    ap (λ (h : ℕ). get_or b (header + c * (h + 1) + x) 0) same_horizon
    ∙ sym (get_or-take (horizon + 1) (drop start b) x 0 lt ∙ get_or-drop start b x 0) in
    same_test (spaced_to (cell_row b (horizon + 1) c) m t) (free site b c t)
    (λ e.
    let (early, zeros) = (tells_spaced (cell_row b (horizon + 1) c) m t).then e in
    (tells_free site b c t).back (
      inside,
      omega arith,
      λ x lt (lo, hi). bytes x (omega arith) ∙ zeros x (omega arith) (omega arith) (omega arith),
    ))
    (λ e.
    let (cell, early, zeros) = (tells_free site b c t).then e in
    (tells_spaced (cell_row b (horizon + 1) c) m t).back (
      omega arith,
      λ x lt lo hi. sym (bytes x (omega arith)) ∙ zeros x (omega arith) (omega arith, omega arith),
    ))

pub rows_done : (b : List ℕ) (cells horizon m block : ℕ) (l₀ l : List ℕ) (n : ℕ) → header + cells * (horizon + 1) ≤ length b → cells ≤ n → n ≤ cells
    → FreeRows b (horizon + 1) m block l₀ l n → FreeBlock b cells horizon m block l₀ l
rows_done b cells horizon m block l₀ l n room all only g =
    record {
      late = λ site same_cells same_horizon same_margin c i h e.
          g.done c i (omega arith) e ∙ spaced_is b site horizon m c (block_ticks * block + i) (omega (arith, cell_run c cells (horizon + 1) h)) (omega arith) same_horizon same_margin;
      early = λ c i h e. g.early c i e;
      after = λ j h. g.after j (let same : n ≡ cells = omega arith in rw same h);
      sized = g.sized;
    }
