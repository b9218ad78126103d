-- A cell of a file that is ready: its ticks are on the board, and free, or open to a closure, as on the file's site.
-- Assumes nothing.
use Prim.Native.Nat.{ℕ, ◌<◌}
use mathlib.Core.Path.{◌≡◌, ap}
use mathlib.Core.List.{List}
use Rattle.meaning.specs.Site.{site_of}
use Rattle.meaning.specs.Board.{closable, free}
use Rattle.meaning.proofs.SiteLaws.{read_well}
use Rattle.site.specs.Ready.{Ready}
use Rattle.site.specs.declared.Sizes.{Sizes}
use Rattle.board_ticks.specs.Runs.{OnBoard}
use Rattle.board_ticks.specs.Ticks.{plain}
use Rattle.board_ticks.proofs.TickLaws.{cell_on, plain_free, plain_closable}

module _ {file : List ℕ} {room : ℕ} {l : Sizes} (r : Ready file room l) (c : ℕ) (inside : c < (site_of file).cells) where
  same_horizon : l.horizon ≡ (site_of file).horizon
  same_horizon = ap (λ (x : Sizes). x.horizon) r.sizes

  same_margin : l.margin ≡ (site_of file).margin
  same_margin = ap (λ (x : Sizes). x.margin) r.sizes

  pub ready_cell : OnBoard room l.horizon c
  ready_cell = rw same_horizon (cell_on (site_of file) room c r.board (read_well file (site_of file) r.read).horizon_range.1 inside)

  pub ready_frees : (board : List ℕ) → free (plain l.horizon l.margin c) board c ≡ free (site_of file) board c
  ready_frees board = plain_free (site_of file) board same_horizon same_margin inside

  pub ready_closes : (board : List ℕ) → closable (plain l.horizon l.margin c) board c ≡ closable (site_of file) board c
  ready_closes board = plain_closable (site_of file) board same_horizon same_margin inside
