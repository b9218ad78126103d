-- Laws of post and audit: what their checks ask, what a caller knows where none of them applies, and the work of a post.
-- Assumes nothing.
use Prim.Native.Nat.{ℕ, ◌≤◌, ◌<◌}
use mathlib.Core.Path.{◌≡◌, ap, ◌∙◌}
use mathlib.Core.Bool.{true}
use mathlib.Core.List.{List}
use lib.ListN.{length, get_or}
use native.Mathlib.Omega.{arith}
use borrow.Author.Tests.{eqb-false, not-false}
use Rattle.meaning.specs.Limits.{file_limit, motion_limit, last_edition}
use Rattle.meaning.specs.Answers.{lowest}
use Rattle.meaning.specs.Site.{Site, site_of}
use Rattle.meaning.specs.Board.{edition, free, mark, next_edition}
use Rattle.meaning.specs.Light.{Light, is_light, light_of, start_of}
use Rattle.meaning.specs.Calls.{listed, post, on_board, light_named, light_valid, light_pairs, bytes_view, light_refusals, refusals, changed}
use Rattle.meaning.proofs.BasicsLaws.{every_at}
use Rattle.meaning.proofs.SiteLaws.{read_passes}
use Rattle.meaning.proofs.CallLaws.{named_goal}
use Rattle.site_layout.specs.Laid.{state_place}
use Rattle.site.specs.Ready.{Ready}
use Rattle.site.specs.declared.Sizes.{Sizes}
use Rattle.site_read.proofs.Laws.{read_laid, laid_few}
use Rattle.board.proofs.EditionLaws.{next_mark}
use Rattle.checks.proofs.Passed.{later_passed, edition_below}
use Rattle.checks_light.specs.Work.{Postable}

-- ---- what the checks ask

-- the goal that a light names is one of the site's states
pub goal_below : (site : Site) (l : Light) → light_named site l ≡ true → l.goal < length site.states
unfolding light_named
goal_below site l h = named_goal site (start_of l) l.goal l.dwell (every_at _ h 0)

-- of a file that is ready the layout says where its motions start, and how many they are
pub ready_index : {file : List ℕ} {room : ℕ} {l : Sizes} → Ready file room l
    → (length file ≤ file_limit) × (l.start ≡ state_place (length (site_of file).states)) × (l.motions ≡ length (site_of file).motions)
ready_index {file} r = ((read_passes file _ r.read).short, ap (λ (k : Sizes). k.start) r.sizes, ap (λ (k : Sizes). k.motions) r.sizes)

-- they are no more than any site may have
pub ready_few : {file : List ℕ} {room : ℕ} {l : Sizes} → Ready file room l → l.motions ≤ motion_limit
ready_few {file} r =
    let (_, _, count) = ready_index r in
    let few = laid_few file (read_laid file _ r.read) in
    omega arith

-- ---- no check of a post applies

module _ (file board light : List ℕ) (none : lowest (refusals file (on_board board) (listed (post light))) ≡ 0) where
  post_light : is_light light ≡ true
  unfolding light_refusals
  post_light = not-false _ (later_passed file (on_board board) (listed (post light)) none 8)

  post_edition : edition board ≡ last_edition → ⊥
  unfolding light_refusals bytes_view
  post_edition = eqb-false _ _ (later_passed file (on_board board) (listed (post light)) none 15)

  post_valid : light_valid (site_of file) (free (site_of file) board) (light_of light) ≡ true
  unfolding light_refusals bytes_view
  post_valid = not-false _ (later_passed file (on_board board) (listed (post light)) none 17)

  -- a board is made of bytes
  pub post_passed : {l : Sizes} → Ready file (length board) l → ((i : ℕ) → get_or board i 0 < 256) → Postable file board l light
  post_passed ready bytes = record { ready = ready; lit = post_light; valid = post_valid; below = edition_below board bytes post_edition }

-- ---- the work

-- the board that a post leaves
pub post_changes : (site : Site) (light board new end : List ℕ) → new ≡ mark site (light_of light).tug (light_pairs site (light_of light)) board → end ≡ next_edition new new
    → end ≡ changed site board (post light)
unfolding changed
post_changes site light board new end marked e =
    e ∙ ap (λ (b : List ℕ). next_edition b b) marked ∙ next_mark site (light_of light).tug (light_pairs site (light_of light)) board
