-- `board::next_edition` meets its contract: the edition that was read, plus 1, is written.
-- Assumes nothing.
use Prim.Native.Nat.{ℕ, ◌+◌}
use mathlib.Core.Path.{◌∙◌, ap}
use Rattle.meaning.specs.Board.{with_edition, next_edition}
use Rattle.board.proofs.next_edition.Goals as goal

pub returns : goal.returns
unfolding next_edition
returns c = c.write_edition.ensures
    ∙ ap (λ (n : ℕ). with_edition (n + 1) c.args.board.now) c.read_edition-n.ensures
