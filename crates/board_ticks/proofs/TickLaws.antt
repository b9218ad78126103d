-- The ticks of a cell: where they are on the board, which are free and what marking them leaves, from a tick on.
-- Assumes nothing.
use Prim.Native.Nat.{ℕ, zero, suc, ◌+◌, ◌*◌, ◌-◌, ◌<◌, ◌≤◌, min}
use native.Mathlib.Omega.{arith}
use mathlib.Core.Path.{◌≡◌, refl, sym, ap, ap₂, ◌∙◌, fun_ext}
use mathlib.Core.Bool.{Bool, true, false, not, ◌&&◌, true≢false, and-true}
use mathlib.Core.List.{List}
use borrow.Author.Tests.{ltb-true, ltb-false, eqb-true, eq-eqb, not-true}
use lib.Dec.{ltb, eqb}
use lib.ListN.{length, get_or, set, take, drop}
use lib.Seq.{drop-cons}
use Rattle.std.specs.List.{list_all}
use native.Mathlib.Numerals.{add-one}
use Rattle.meaning.specs.Limits.{header, horizon_limit}
use Rattle.meaning.specs.Basics.{all_from}
use Rattle.meaning.specs.Site.{Site}
use Rattle.meaning.specs.Board.{is_tug, place, byte_at, closable, free, run, run_to, mark, Free, board_length, all_free}
use Rattle.meaning.specs.Plan.{free_from_to}
use Rattle.meaning.specs.Refusals.{Not, Tug, Within}
use Rattle.meaning.proofs.BasicsLaws.{decide, same_test, all_from_in, all_from_true}
use Rattle.meaning.proofs.SentenceLaws.{misses, fails}
use Rattle.meaning.proofs.BytesLaws.{tells_tug, tells_free, tells_bytes}
use Rattle.meaning.proofs.BoardLaws.{place_in}
use Rattle.meaning.proofs.PlanLaws.{run_free}
use Rattle.board_ticks.specs.Runs.{OnBoard}
use Rattle.board_ticks.specs.Ticks.{plain, frees, closes, from_to}
use Rattle.board_ticks.specs.declared.cell_ticks.CellTicks.{CellTicks}

-- ---- a tick of the site is on its board

pub cell_on : (site : Site) (size cell : ℕ) → size ≡ board_length site → site.horizon ≤ horizon_limit → cell < site.cells → OnBoard size site.horizon cell
cell_on site size cell e short hc = record { short = short; inside = omega (arith, place_in site cell site.horizon hc (omega arith)) }

-- ---- ticks of a cell

-- the first of the ticks t to last, and the others
more : (t last : ℕ) → t ≤ last → suc last - t ≡ suc (suc last - (t + 1))
more t last h = omega arith

done : (t last : ℕ) → last < t → suc last - t ≡ 0
done t last h = omega arith

module _ (p : ℕ → Bool) (t last : ℕ) where
  pub free_turn : (b : Bool) → t ≤ last → p t ≡ b → all_from p t (suc last - t) ≡ b && all_from p (t + 1) (suc last - (t + 1))
  free_turn b h e = ap (all_from p t) (more t last h) ∙ ap₂ (λ (c : Bool) (u : ℕ). c && all_from p u (suc last - (t + 1))) e (sym (add-one t))

  pub free_end : last < t → all_from p t (suc last - t) ≡ true
  free_end h = ap (all_from p t) (done t last h)

-- a run of one tick
pub one_tick : (good : ℕ → Bool) (t : ℕ) → from_to good t t ≡ good t
one_tick good t = let one : suc t - t ≡ 1 = omega arith in ap (all_from good t) one ∙ and-true (good t)

-- a test of the bytes that begin at a place, from the tick first to the tick last
abbrev pub runs : (ℕ → Bool) → List ℕ → ℕ → ℕ → ℕ → Bool
runs p board row first last = all_from (λ (x : ℕ). p (get_or board (row + x) 0)) first (suc last - first)

-- is that of the slice of them
slice_runs : (p : ℕ → Bool) (board : List ℕ) (row n t : ℕ) → row + t + n ≤ length board
    → list_all p (take n (drop (row + t) board)) ≡ all_from (λ (x : ℕ). p (get_or board (row + x) 0)) t n
slice_runs p board row zero t fits = refl
slice_runs p board row (suc n) t fits =
    let place : suc (row + t) ≡ row + suc t = omega arith in
    ap (λ (bytes : List ℕ). list_all p (take (suc n) bytes)) (drop-cons board (row + t) 0 (omega arith))
    ∙ ap (λ (k : ℕ). p (get_or board (row + t) 0) && list_all p (take n (drop k board))) place
    ∙ ap (λ (b : Bool). p (get_or board (row + t) 0) && b) (slice_runs p board row n (suc t) (omega arith))

pub slice_tests : (p : ℕ → Bool) (board : List ℕ) (row first last : ℕ) → first ≤ suc last → row + last < length board
    → list_all p (take (row + last + 1 - (row + first)) (drop (row + first) board)) ≡ runs p board row first last
slice_tests p board row first last le fits =
    let size : row + last + 1 - (row + first) ≡ suc last - first = omega arith in
    ap (λ (n : ℕ). list_all p (take n (drop (row + first) board))) size ∙ slice_runs p board row (suc last - first) first (omega arith)

-- which bytes may be there: those of nobody, and those of no tug
abbrev pub unheld : ℕ → Bool
unheld b = eqb b 0

abbrev pub tugless : ℕ → Bool
tugless b = not (is_tug b)

module _ (site : Site) (h c t last : ℕ) (board : List ℕ) where
  pub mark_next : t ≤ last → mark site h (run_to c t last) board ≡ mark site h (run_to c (t + 1) last) (set board (place site c t) h)
  mark_next le =
      ap (λ (n : ℕ). mark site h (run c t n) board) (more t last le)
      ∙ ap (λ (u : ℕ). mark site h (run c u (suc last - (t + 1))) (set board (place site c t) h)) (sym (add-one t))

-- ---- a run within the margin

-- x is in the run or within the margin of it, up to the horizon
record Around (site : Site) (first last x : ℕ) : Type 0 where
  pub low : first - site.margin ≤ x
  pub high : x ≤ min (last + site.margin) site.horizon

-- the tick of the run that x is nearest to
nearest : (site : Site) (first last x : ℕ) → first ≤ last → Around site first last x → (t : ℕ) × (first ≤ t) × (t ≤ last) × Within site t x
nearest site first last x le a =
    decide (ltb x first)
    (λ e. let before : x < first = ltb-true x first e in (first, omega arith, le, (omega arith, omega arith)))
    (λ e. decide (ltb last x)
    (λ f. let after : last < x = ltb-true last x f in (last, le, omega arith, (omega arith, omega arith)))
    (λ f. (x, ltb-false x first e, ltb-false last x f, (omega arith, omega arith))))

-- within the margin of a tick of the run
around : (site : Site) (first last t x : ℕ) → first ≤ t → t ≤ last → x ≤ site.horizon → Within site t x → Around site first last x
around site first last t x lo hi in_time (near, far) = record { low = omega arith; high = omega arith }

-- a test of all ticks around the run is that of the ticks around each of its ticks
module _ (site : Site) (good : ℕ → Bool) (first last : ℕ) (le : first ≤ last) where
  abbrev around_run : Bool
  around_run = all_from good (first - site.margin) (suc (min (last + site.margin) site.horizon) - (first - site.margin))

  around_each : around_run ≡ true → (t x : ℕ) → first ≤ t → t ≤ last → x ≤ site.horizon → Within site t x → good x ≡ true
  around_each h t x lo hi in_time near =
      let a = around site first last t x lo hi in_time near in
      all_from_in good (first - site.margin) (suc (min (last + site.margin) site.horizon) - (first - site.margin)) x h a.low (omega (arith, a.high))

  each_around : ((t x : ℕ) → first ≤ t → t ≤ last → x ≤ site.horizon → Within site t x → good x ≡ true) → around_run ≡ true
  each_around h =
      all_from_true good (first - site.margin) (suc (min (last + site.margin) site.horizon) - (first - site.margin))
      (λ x lo hi.
      let (t, from, to, near) = nearest site first last x le (record { low = lo; high = omega arith }) in
      h t x from to (omega arith) near)

-- ---- free, and what a closure may take

-- a run of ticks that a test holds of
each_tick_so : (f : Free) (c first last : ℕ) → ((t : ℕ) → first ≤ t → t ≤ last → f c t ≡ true) → free_from_to f c first last ≡ true
each_tick_so f c first last h = all_from_true (f c) first (suc last - first) (λ t lo hi. h t lo (omega arith))

each_tick : (f : Free) (c first last : ℕ) → free_from_to f c first last ≡ true → (t : ℕ) → first ≤ t → t ≤ last → f c t ≡ true
each_tick f c first last h t lo hi = all_from_in (f c) first (suc last - first) t h lo (omega arith)

module _ (site : Site) (board : List ℕ) (c : ℕ) (hc : c < site.cells) where
  -- the byte of the cell at the tick passes a test
  abbrev passes : (ℕ → Bool) → ℕ → Bool
  passes p x = p (byte_at site board c x)

  no_tug_at : (x : ℕ) → passes tugless x ≡ true → Not (Tug (byte_at site board c x))
  no_tug_at x h = misses (tells_tug _) (not-true _ h)

  at_no_tug : (x : ℕ) → Not (Tug (byte_at site board c x)) → passes tugless x ≡ true
  at_no_tug x none = ap not (fails (tells_tug _) none)

  module _ (first last : ℕ) (le : first ≤ last) (in_time : last ≤ site.horizon) where
    abbrev row : ℕ
    row = header + c * (site.horizon + 1)

    pub clear_free : runs unheld board row (first - site.margin) (min (last + site.margin) site.horizon) ≡ free_from_to (free site board) c first last
    clear_free = same_test _ _
        (λ h. each_tick_so (free site board) c first last (λ t lo hi.
        (tells_free site board c t).back (hc, omega arith, λ x early near. eqb-true _ 0 (around_each site (passes unheld) first last le h t x lo hi early near))))
        (λ h. each_around site (passes unheld) first last le (λ t x lo hi early near.
        eq-eqb _ 0 (((tells_free site board c t).then (each_tick (free site board) c first last h t lo hi)).2 x early near)))

    -- what a closure may take: the run itself unheld, and no tug around it
    pub not_closable : runs unheld board row first last ≡ false → false ≡ free_from_to (closable site board) c first last
    not_closable h =
        decide (free_from_to (closable site board) c first last)
        (λ e.
        let all_clear : all_from (passes unheld) first (suc last - first) ≡ true =
        each_tick_so (λ (d : ℕ). passes unheld) c first last (λ t lo hi.
        eq-eqb _ 0 ((tells_bytes site board c t).then (each_tick (closable site board) c first last e t lo hi)).2) in
        absurd (true≢false (sym all_clear ∙ h)))
        (λ e. sym e)

    pub clear_closable : runs unheld board row first last ≡ true
        → runs tugless board row (first - site.margin) (min (last + site.margin) site.horizon) ≡ free_from_to (closable site board) c first last
    clear_closable zeros = same_test _ _
        (λ h. each_tick_so (closable site board) c first last (λ t lo hi.
        (tells_bytes site board c t).back (
          hc,
          omega arith,
          eqb-true _ 0 (each_tick (λ (d : ℕ). passes unheld) c first last zeros t lo hi),
          λ x early near. no_tug_at x (around_each site (passes tugless) first last le h t x lo hi early near),
        )))
        (λ h. each_around site (passes tugless) first last le (λ t x lo hi early near.
        at_no_tug x (((tells_bytes site board c t).then (each_tick (closable site board) c first last h t lo hi)).3 x early near)))

-- the same, by the numbers and the slices that the code has
module _ (ticks : CellTicks) (first last lo hi : ℕ) (le : first ≤ last) (in_time : last ≤ ticks.horizon)
    (low : lo ≡ first - ticks.margin) (high : hi ≡ min (last + ticks.margin) ticks.horizon) where
  abbrev start : ℕ
  start = header + ticks.cell * (ticks.horizon + 1)

  -- the slice of the cell's bytes from a tick to a tick
  abbrev bytes : ℕ → ℕ → List ℕ
  bytes t u = take (start + u + 1 - (start + t)) (drop (start + t) ticks.board.now)

  around_slice : (p : ℕ → Bool) → list_all p (bytes lo hi) ≡ runs p ticks.board.now start lo hi
  around_slice p = slice_tests p ticks.board.now start lo hi (omega arith) (omega (arith, ticks.on_board.inside))

  run_slice : (p : ℕ → Bool) → list_all p (bytes first last) ≡ runs p ticks.board.now start first last
  run_slice p = slice_tests p ticks.board.now start first last (omega arith) (omega (arith, ticks.on_board.inside))

  pub clear_free_of : list_all unheld (bytes lo hi) ≡ from_to (frees ticks) first last
  clear_free_of = around_slice unheld ∙ rw (low, high) (clear_free (plain ticks.horizon ticks.margin ticks.cell) ticks.board.now ticks.cell (omega arith) first last le in_time)

  pub not_closable_of : list_all unheld (bytes first last) ≡ false → false ≡ from_to (closes ticks) first last
  not_closable_of h = not_closable (plain ticks.horizon ticks.margin ticks.cell) ticks.board.now ticks.cell (omega arith) first last le in_time (sym (run_slice unheld) ∙ h)

  pub clear_closable_of : list_all unheld (bytes first last) ≡ true → list_all tugless (bytes lo hi) ≡ from_to (closes ticks) first last
  clear_closable_of h =
      around_slice tugless
      ∙ rw (low, high) (clear_closable (plain ticks.horizon ticks.margin ticks.cell) ticks.board.now ticks.cell (omega arith) first last le in_time (sym (run_slice unheld) ∙ h))

-- ---- on a site that has the cell, with this horizon and this margin

module _ (site : Site) (board : List ℕ) {horizon margin c : ℕ} (same : horizon ≡ site.horizon) (spaced : margin ≡ site.margin) (inside : c < site.cells) where
  abbrev here : Site
  here = plain site.horizon site.margin c

  pub plain_free : free (plain horizon margin c) board c ≡ free site board c
  plain_free = rw (same, spaced) (fun_ext (λ t. same_test _ _
      (λ h. let (hc, ht, zeros) = (tells_free here board c t).then h in (tells_free site board c t).back (inside, ht, zeros))
      (λ h. let (hc, ht, zeros) = (tells_free site board c t).then h in (tells_free here board c t).back (omega arith, ht, zeros))))

  pub plain_closable : closable (plain horizon margin c) board c ≡ closable site board c
  plain_closable = rw (same, spaced) (fun_ext (λ t. same_test _ _
      (λ h. let (hc, ht, nobody, none) = (tells_bytes here board c t).then h in (tells_bytes site board c t).back (inside, ht, nobody, none))
      (λ h. let (hc, ht, nobody, none) = (tells_bytes site board c t).then h in (tells_bytes here board c t).back (omega arith, ht, nobody, none))))

module _ (site : Site) (ticks : CellTicks) (same : ticks.horizon ≡ site.horizon) (spaced : ticks.margin ≡ site.margin) (inside : ticks.cell < site.cells) where
  pub frees_are : frees ticks ≡ free site ticks.board.now ticks.cell
  frees_are = plain_free site ticks.board.now same spaced inside

  pub closes_are : closes ticks ≡ closable site ticks.board.now ticks.cell
  closes_are = plain_closable site ticks.board.now same spaced inside

-- so what comes of them, as the answers of is_free, run_free and run_closable, is the same on each such site
module _ {A : Type 0} (ticks : CellTicks) (of_ticks : (ℕ → Bool) → A) (x : A) where
  pub free_on_each : x ≡ of_ticks (frees ticks)
      → (site : Site) → site.horizon ≡ ticks.horizon → site.margin ≡ ticks.margin → ticks.cell < site.cells → x ≡ of_ticks (free site ticks.board.now ticks.cell)
  free_on_each e site same spaced inside = e ∙ ap of_ticks (frees_are site ticks (sym same) (sym spaced) inside)

  pub closable_on_each : x ≡ of_ticks (closes ticks)
      → (site : Site) → site.horizon ≡ ticks.horizon → site.margin ≡ ticks.margin → ticks.cell < site.cells → x ≡ of_ticks (closable site ticks.board.now ticks.cell)
  closable_on_each e site same spaced inside = e ∙ ap of_ticks (closes_are site ticks (sym same) (sym spaced) inside)

-- ---- the pairs of a run are free where its ticks are

pub run_to_free : (f : Free) (c first last : ℕ) → all_free f (run_to c first last) ≡ free_from_to f c first last
run_to_free f c first last = run_free f c first (suc last - first)
