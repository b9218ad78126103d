-- The tables from block to block, and what the blocks so far have found.
-- Assumes nothing.
use Prim.Native.Nat.{ℕ, zero, suc, ◌+◌, ◌-◌, ◌*◌, ◌≤◌, ◌<◌}
use native.Mathlib.Nat.{mul-le-mul_right, suc-mul}
use native.Mathlib.Omega.{arith}
use mathlib.Core.Path.{◌≡◌, refl, sym, ap, ◌∙◌, subst}
use mathlib.Core.Bool.{Bool, true, false, false≢true}
use mathlib.Core.List.{List}
use lib.Dec.{leb, ltb}
use lib.ListN.{length}
use borrow.Author.Tests.{le-leb, lt-leb}
use lib.Pow.{pow_pos}
use Rattle.meaning.proofs.BasicsLaws.{decide, and_left}
use Rattle.meaning.specs.Site.{Site, site_of}
use Rattle.meaning.specs.WellFormed.{WellFormed}
use Rattle.meaning.proofs.SiteLaws.{read_well}
use Rattle.meaning.specs.Board.{Free, free}
use Rattle.site.specs.Ready.{Ready}
use Rattle.site.specs.declared.Sizes.{Sizes}
use Rattle.search_sizes.specs.Sizes.{block_ticks, window_ticks, block_start}
use Rattle.search_ticks.specs.Rows.{at}
use Rattle.search_free.specs.Frees.{FreeBlock}
use Rattle.search_runs.specs.Runs.{ended, run_length, table_of, Shifted, Halves, Tables, Ahead, FirstTable}
use Rattle.search_runs.proofs.EndedLaws.{ended_at}
use Rattle.search_site.specs.Arrays.{span_at}
use Rattle.search_step.specs.Sets.{Room, TablesRight}
use Rattle.search_scene.specs.Arrays.{InArrays}
use Rattle.search_reach.specs.Explored.{free_from, Space}
use Rattle.search_reach.proofs.RightLaws.{ends_free}

-- ---- a test that never holds

pub never_true : (b : Bool) → (b ≡ true → ⊥) → b ≡ false
never_true true h = absurd (h refl)
never_true false h = refl

-- ---- rows of the tables

-- the row of a cell in a table is one of its rows
pub row_below : (t c cells tables : ℕ) → t < tables → c < cells → t * cells + c < tables * cells
row_below t c cells tables h lt = omega (arith, mul-le-mul_right cells h, suc-mul t cells)

-- ---- the next block

module _ (g : ℕ → ℕ → Bool) (cells tables b : ℕ) where
  pub halves_shifted : (tab₀ tab : List ℕ) → Shifted tab₀ tab (tables * cells) → Ahead g cells tables b tab₀ → Halves g cells tables b tab
  halves_shifted tab₀ tab shifted ahead t c i h lt small =
      shifted.moved (t * cells + c) i (row_below t c cells tables h lt) small ∙ ahead t c i h lt small

  pub halves_freed : (board tab₀ tab : List ℕ) (horizon margin : ℕ) → FreeBlock board cells horizon margin b tab₀ tab → Halves g cells tables b tab₀ → Halves g cells tables b tab
  halves_freed board tab₀ tab horizon margin freed halves zero c i h lt small =
      let first : 0 * cells + c ≡ c = omega arith in
      subst (λ (r : ℕ). at tab (r * window_ticks + i) ≡ at tab₀ (r * window_ticks + i)) (sym first) (freed.early c i lt small) ∙ halves zero c i h lt small
  halves_freed board tab₀ tab horizon margin freed halves (suc t) c i h lt small =
      let row = suc-mul t cells in
      freed.after ((suc t * cells + c) * window_ticks + i) (omega arith) ∙ halves (suc t) c i h lt small

  -- what one block leaves, the next one begins with
  pub tables_ahead : (tab : List ℕ) → Tables g cells tables b tab → Ahead g cells tables (b + 1) tab
  tables_ahead tab right t c i h lt small =
      let place : (t * cells + c) * window_ticks + (block_ticks + i) ≡ (t * cells + c) * window_ticks + block_ticks + i = omega arith in
      let position : block_ticks * b + (block_ticks + i) ≡ block_ticks * (b + 1) + i = omega arith in
      ap (at tab) (sym place) ∙ right t c (block_ticks + i) h lt (omega arith) ∙ ap (λ (u : ℕ). ended (g c) (run_length t) u) position

pub first_freed : (site : Site) (cells horizon margin b first : ℕ) (board tab₀ tab : List ℕ) → site.cells ≡ cells → site.horizon ≡ horizon
    → site.margin ≡ margin → first ≤ b → FreeBlock board cells horizon margin b tab₀ tab → FirstTable (free_from (free site board) first) cells b tab
first_freed site cells horizon margin b first board tab₀ tab same_cells same_horizon same_margin late freed c i lt small =
    let tick : block_start b + i - block_ticks ≡ block_ticks * b + i = omega arith in
    freed.late site same_cells same_horizon same_margin c i lt small
    ∙ sym (rw (le-leb (block_start first) (block_start b + i) (omega arith), tick) refl)

-- ---- empty tables

run_pos : (t : ℕ) → 1 ≤ run_length t
unfolding run_length
run_pos t = decide (ltb t 4) (λ e. rw e (omega arith)) (λ e. rw e (pow_pos (t - 1)))

pub blank_ahead : (f : Free) (cells tables first : ℕ) (tab : List ℕ) → ((j : ℕ) → at tab j ≡ false) → Ahead (free_from f first) cells tables first tab
blank_ahead f cells tables first tab blank t c i h lt small =
    blank _ ∙ sym (none_early (run_length t) (run_pos t))
  where
    before : leb (block_start first) (block_ticks * first + i) ≡ false
    before = lt-leb (block_start first) (block_ticks * first + i) (omega arith)

    none_early : (n : ℕ) → 1 ≤ n → ended (free_from f first c) n (block_ticks * first + i) ≡ false
    none_early n pos = never_true _ (λ e.
        let now = ended_at (free_from f first c) n (block_ticks * first + i) 0 e pos in
        let same : block_ticks * first + i - 0 ≡ block_ticks * first + i = omega arith in
        false≢true (sym before ∙ and_left _ _ (subst (λ (u : ℕ). free_from f first c u ≡ true) same now)))

-- ---- room

pub room_made : (l : Sizes) (mv tab : List ℕ) (tables : ℕ) → l.cells ≤ 1000 → Space l mv tables (length tab) → Room l.cells l.motions mv tab
room_made l mv tab tables few space =
    record {
      few = few;
      first = omega (arith, mul-le-mul_right l.cells space.some, space.tab);
      rows = λ m h. omega (arith, mul-le-mul_right l.cells (space.enough m h), suc-mul (table_of (suc (span_at mv m))) l.cells, space.tab);
    }

-- the same of lists that have kept their lengths
pub space_kept : (l : Sizes) (mv : List ℕ) (tables tab tab' : ℕ) → Space l mv tables tab → tab' ≡ tab → Space l mv tables tab'
space_kept l mv tables tab tab' s same = subst (Space l mv tables) (sym same) s

-- ---- the site of the file

-- what the counts of an accepted file keep in range
pub record Facts (file : List ℕ) (room : ℕ) (l : Sizes) : Type 0 where
  pub well : WellFormed (site_of file)
  pub cells : (site_of file).cells ≡ l.cells
  pub horizon : (site_of file).horizon ≡ l.horizon
  pub margin : (site_of file).margin ≡ l.margin
  pub near : l.margin ≤ 20
  pub few : l.cells ≤ 1000
  pub short : l.horizon ≤ 1000
  pub board : 4 + l.cells * (l.horizon + 1) ≤ room

pub facts : {file : List ℕ} {room : ℕ} {l : Sizes} → Ready file room l → Facts file room l
facts {file} {room} {l} ready =
    let w = read_well file (site_of file) ready.read in
    let same_cells : (site_of file).cells ≡ l.cells = sym (ap (λ (k : Sizes). k.cells) ready.sizes) in
    let same_horizon : (site_of file).horizon ≡ l.horizon = sym (ap (λ (k : Sizes). k.horizon) ready.sizes) in
    let same_margin : (site_of file).margin ≡ l.margin = sym (ap (λ (k : Sizes). k.margin) ready.sizes) in
    let size = ready.board ∙ ap (λ (c : ℕ). 4 + c * ((site_of file).horizon + 1)) same_cells ∙ ap (λ (h : ℕ). 4 + l.cells * (h + 1)) same_horizon in
    record {
      well = w;
      cells = same_cells;
      horizon = same_horizon;
      margin = same_margin;
      near = omega (arith, w.margin_range);
      few = omega (arith, w.cells_range);
      short = omega (arith, w.horizon_range);
      board = omega arith;
    }

-- ---- a block

module _ (file board : List ℕ) (l : Sizes) (tables b first : ℕ) (ready : Ready file (length board) l) where
  abbrev g : ℕ → ℕ → Bool
  g = free_from (free (site_of file) board) first

  -- the tables of the block are right, from what the block before it left
  pub tables_made : (tab₀ tab₁ tab₂ tab₃ : List ℕ) → first ≤ b → Shifted tab₀ tab₁ (tables * l.cells) → FreeBlock board l.cells l.horizon l.margin b tab₁ tab₂
      → ((h : ℕ → ℕ → Bool) (d : ℕ) → Halves h l.cells tables d tab₂ → FirstTable h l.cells d tab₂ → Tables h l.cells tables d tab₃)
      → Ahead g l.cells tables b tab₀ → Tables g l.cells tables b tab₃
  tables_made tab₀ tab₁ tab₂ tab₃ late shifted freed filled ahead =
      let q = facts ready in
      filled g b
      (halves_freed g l.cells tables b board tab₁ tab₂ l.horizon l.margin freed (halves_shifted g l.cells tables b tab₀ tab₁ shifted ahead))
      (first_freed (site_of file) l.cells l.horizon l.margin b first board tab₁ tab₂ q.cells q.horizon q.margin late freed)

  pub right_made : (st mv tab : List ℕ) (tab_size : ℕ) → InArrays file l st mv → Space l mv tables tab_size → Tables g l.cells tables b tab
      → TablesRight g l.cells l.states l.motions b st mv file tab
  right_made st mv tab tab_size arrays space right =
      record {
        tables = tables;
        some = space.some;
        enough = space.enough;
        right = right;
        ends = ends_free (site_of file) (facts ready).well l.states l.motions st mv file arrays.decoded g arrays.leads.to;
      }
