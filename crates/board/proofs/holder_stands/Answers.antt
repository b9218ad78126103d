-- `board::holder_stands` meets its contract. The invariant: what was found and the bytes from a place on answer as all do.
-- Assumes nothing.
use Prim.Native.Nat.{ℕ, ◌+◌}
use native.Mathlib.Omega.{arith}
use mathlib.Core.Path.{◌≡◌, sym, ap, ◌∙◌}
use mathlib.Core.Bool.{Bool, false, ◌&&◌, ◌||◌, or-false}
use lib.Dec.{eqb}
use lib.ListN.{drop, drop_of_length-le}
use Rattle.meaning.specs.Board.{is_holder}
use Rattle.meaning.proofs.BasicsLaws.{any_nil}
use Rattle.board.proofs.HolderLaws.{cell_bytes, behind, any_more, stands_any}
use Rattle.board.proofs.holder_stands.Invariants.{carried}
use Rattle.board.proofs.holder_stands.Goals as goal

pub loop-b-preserved : goal.loop-b-preserved
loop-b-preserved c = let l = c.loop-b in
    let bytes = cell_bytes c.args.board.now in
    ap (λ (b : Bool). (l.found || b) || carried c.args.h (drop (l.b-index + 1) bytes)) c.carries-found.ensures
    ∙ sym (any_more (λ (b : ℕ). is_holder b && eqb b c.args.h) bytes l.b-index l.found (omega arith))
    ∙ l.invariant

pub returns : goal.returns
returns c = let l = c.loop-b in
    let bytes = cell_bytes c.args.board.now in
    let none : carried c.args.h (drop l.b-index bytes) ≡ false =
    ap (carried c.args.h) (drop_of_length-le bytes {i = l.b-index} (omega arith)) ∙ any_nil _ in
    sym (ap (λ (b : Bool). l.found || b) none ∙ or-false l.found)
    ∙ l.invariant
    ∙ ap (carried c.args.h) (behind c.args.board.now)
    ∙ sym (stands_any c.args.board.now c.args.h)
