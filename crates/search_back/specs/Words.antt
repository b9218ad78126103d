-- The back pointer of a pair from the reached pairs, its word, and which pairs are reached.
-- Assumes nothing.
use Rattle.std.specs.Prelude.{ℕ, ◌+◌, ◌-◌, ◌≤◌, ◌≡◌, Bool, ◌&&◌, List, leb, eqb, length}
use Rattle.std.proofs.Math.Option.{Option}
use Rattle.meaning.specs.Basics.{least}
use Rattle.meaning.specs.Site.{Site, motion_at}
use Rattle.meaning.specs.Board.{Free}
use Rattle.meaning.specs.Plan.{Node, node, wait, move, allowed}
use Rattle.search_sizes.specs.Sizes.{block_ticks}
use Rattle.search_ticks.specs.Rows.{has}
use Rattle.search_ends.specs.Ends.{reached_at}
use Rattle.search_back.specs.declared.Back.{Back}

-- the word of a back pointer, as the table of the reached pairs has it
abbrev pub word_of : Back → ℕ
word_of Back.NotReached = 0
word_of Back.Start = 1
word_of Back.Wait = 2
word_of (Back.Move m) = m + 3

-- a wait of one tick ends in (s, t) and begins in the set
unfoldable pub wait_hit : Site → Free → List ℕ → ℕ → ℕ → Bool
wait_hit site f re s t = has re s (block_ticks + (t - 1)) && allowed site f (wait 1) (node s (t - 1))

-- motion m does
unfoldable pub move_hit : Site → Free → List ℕ → ℕ → ℕ → ℕ → Bool
move_hit site f re s t m =
    eqb (motion_at site m).to s
    && (leb (motion_at site m).span t
    && (has re (motion_at site m).from (block_ticks + (t - (motion_at site m).span)) && allowed site f (move m) (node (motion_at site m).from (t - (motion_at site m).span))))

unfoldable pub first_move : Site → Free → List ℕ → ℕ → ℕ → Option ℕ
first_move site f re s t = least (move_hit site f re s t) 0 (length site.motions)

-- row s has up to the tick `last` the ticks at which state s is reached
abbrev pub ReachedTo : Site → Free → Node → ℕ → List ℕ → Type 0
ReachedTo site f a last re = (s t : ℕ) → t ≤ last → has re s (block_ticks + t) ≡ reached_at site f a s t
