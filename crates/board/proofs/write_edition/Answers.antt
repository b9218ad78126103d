-- `board::write_edition` meets its contract: the edition's bytes, high byte first, are written over the first four.
-- Assumes nothing.
use mathlib.Core.Path.{ap, ◌∙◌}
use mathlib.Core.List.{List, ◌++◌}
use Prim.Native.Nat.{ℕ}
use lib.ListN.{drop}
use Rattle.meaning.specs.Limits.{header}
use Rattle.meaning.specs.Board.{with_edition}
use Rattle.board.proofs.EditionLaws.{high_byte}
use Rattle.board.proofs.write_edition.Goals as goal

pub returns : goal.returns
unfolding with_edition
returns c =
    ap (λ (bytes : List ℕ). bytes ++ drop header c.args.board.now) (c.copy_from_slice.ensures.after ∙ c.to_be_bytes.ensures)
    ∙ high_byte c.args.n _
