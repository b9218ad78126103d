-- Laws of interval, close and withdraw: the sizes and a named run, what a caller knows where none of their checks applies, and their work.
-- Assumes nothing.
use Prim.Native.Nat.{ℕ, ◌+◌, ◌<◌, ◌≤◌}
use native.Mathlib.Omega.{arith}
use mathlib.Core.Path.{◌≡◌, sym, ap, ◌∙◌}
use mathlib.Core.Bool.{Bool, true}
use mathlib.Core.List.{List, [], ◌∷◌}
use lib.Dec.{leb, ltb}
use lib.ListN.{length}
use borrow.Author.Tests.{ltb-true, leb-true, eqb-false, not-false}
use Rattle.meaning.specs.Limits.{header, last_edition}
use Rattle.meaning.specs.Answers.{lowest}
use Rattle.meaning.specs.Site.{Site, site_of}
use Rattle.meaning.specs.Board.{edition, closable, run_to, all_free, mark, clear, next_edition}
use Rattle.meaning.specs.Calls.{interval, listed, close, withdraw, lends, on_board, run_named, bytes_view, interval_refusals, close_refusals, withdraw_refusals, refusals, changed}
use Rattle.meaning.proofs.BasicsLaws.{every_at}
use Rattle.meaning.proofs.BoardLaws.{length_clear}
use Rattle.site.specs.Ready.{Ready}
use Rattle.site.specs.declared.Sizes.{Sizes}
use Rattle.board_ticks.specs.Ticks.{from_to}
use Rattle.board.proofs.EditionLaws.{edition_clear, next_mark, next_clear}
use Rattle.board_ticks.proofs.TickLaws.{run_to_free}
use Rattle.checks.proofs.Laws.{Editable}
use Rattle.checks.proofs.Passed.{later_passed}

-- ---- the sizes of a site

pub ready_horizon : {file : List ℕ} {room : ℕ} {l : Sizes} → Ready file room l → (site_of file).horizon ≡ l.horizon
ready_horizon r = sym (ap (λ (k : Sizes). k.horizon) r.sizes)

-- a site of which nothing but the horizon matters
abbrev pub bare : ℕ → Site
bare horizon = record { horizon = horizon; cells = 0; margin = 0; states = []; motions = []; centres = [] }

-- ---- a run that is named

module _ (site : Site) (cell first last : ℕ) where
  abbrev tests : List Bool
  tests = ltb cell site.cells ∷ leb first site.horizon ∷ leb last site.horizon ∷ leb first last ∷ []

  -- what a run that is named has
  pub named_cell : run_named site cell first last ≡ true → cell < site.cells
  unfolding run_named
  named_cell h = ltb-true _ _ (every_at tests h 0)

  pub named_last : run_named site cell first last ≡ true → last ≤ site.horizon
  unfolding run_named
  named_last h = leb-true _ _ (every_at tests h 2)

  -- a test of the run's ticks, which of them a closure may take, is that of its pairs
  pub run_closes : (board : List ℕ) (good : ℕ → Bool) (b : Bool) → good ≡ closable site board cell → b ≡ from_to good first last
      → b ≡ all_free (closable site board) (run_to cell first last)
  run_closes board good b same told =
      told ∙ ap (λ (f : ℕ → Bool). from_to f first last) same ∙ sym (run_to_free (closable site board) cell first last)

-- ---- interval

-- no check of it applies
module _ (file board out : List ℕ) (cell : ℕ) (none : lowest (refusals file (lends board out []) (interval cell)) ≡ 0) where
  pub interval_cell : cell < (site_of file).cells
  unfolding interval_refusals
  interval_cell = ltb-true _ _ (not-false _ (later_passed file (lends board out []) (interval cell) none 10))

  pub interval_room : (site_of file).horizon + 2 ≤ length out
  unfolding interval_refusals
  interval_room = leb-true _ _ (not-false _ (later_passed file (lends board out []) (interval cell) none 14))

-- ---- close

module _ (file board : List ℕ) (h cell first last : ℕ) (none : lowest (refusals file (on_board board) (listed (close h cell first last))) ≡ 0) where
  pub close_named : run_named (site_of file) cell first last ≡ true
  unfolding close_refusals
  close_named = not-false _ (later_passed file (on_board board) (listed (close h cell first last)) none 10)

  pub close_edition : edition board ≡ last_edition → ⊥
  unfolding close_refusals bytes_view
  close_edition = eqb-false _ _ (later_passed file (on_board board) (listed (close h cell first last)) none 15)

-- the board that the call leaves
pub close_changes : (site : Site) (h cell first last : ℕ) (board new end : List ℕ) → new ≡ mark site h (run_to cell first last) board → end ≡ next_edition new new
    → end ≡ changed site board (close h cell first last)
unfolding changed
close_changes site h cell first last board new end marked e =
    e ∙ ap (λ (b : List ℕ). next_edition b b) marked ∙ next_mark site h (run_to cell first last) board

-- ---- withdraw

pub withdraw_edition : (file board : List ℕ) (h : ℕ) → lowest (refusals file (on_board board) (listed (withdraw h))) ≡ 0 → edition board ≡ last_edition → ⊥
unfolding withdraw_refusals bytes_view
withdraw_edition file board h none = eqb-false _ _ (later_passed file (on_board board) (listed (withdraw h)) none 15)

pub clear_editable : (h : ℕ) (board new : List ℕ) → new ≡ clear h board → Editable board → Editable new
clear_editable h board new e (long, below) =
    let size : length new ≡ length board = ap length e ∙ length_clear (bare 0) h board in
    let same : edition new ≡ edition board = ap edition e ∙ edition_clear h board long in
    (omega arith, omega arith)

pub withdraw_changes : (site : Site) (h : ℕ) (board new end : List ℕ) → header ≤ length board → new ≡ clear h board → end ≡ next_edition new new
    → end ≡ changed site board (withdraw h)
unfolding changed
withdraw_changes site h board new end long cleared e =
    e ∙ ap (λ (b : List ℕ). next_edition b b) cleared ∙ next_clear h board long
