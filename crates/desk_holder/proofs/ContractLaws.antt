-- What the contracts of close and withdraw promise is what is meant, in one equation each, and the site file stays. `Learnt` and its arguments are those of
-- crates/desk_board/proofs/ContractLaws.antt.
-- Assumes nothing.
use Prim.Native.Nat.{ℕ}
use mathlib.Core.Path.{◌≡◌}
use mathlib.Core.List.{List}
use contract.Lifetimes.{Lfts}
use denote.Ref.{Bor, MutBor}
use Rattle.std.specs.Prelude.{Result}
use Rattle.meaning.specs.Calls.{listed, close, withdraw, lends, meant}
use Rattle.answers.specs.declared.Refusal.{Refusal}
use Rattle.answers.specs.Answers.{number_of}
use Rattle.answers.proofs.DeskLaws.{board_done, board_exact}
use Rattle.desk_holder.proofs.close.Reads as close_reads
use Rattle.desk_holder.proofs.withdraw.Reads as withdraw_reads

-- every exit is a reference of its own: what stays as it was is what the contract says
module _ (file : Bor (List ℕ)) (board : MutBor (List ℕ)) (file' : Bor (List ℕ)) (left : MutBor (List ℕ)) (out words : List ℕ) (r : Result Unit Refusal) where
  pub close_meant : (κs : Lfts 2) (h cell first last h' cell' first' last' : ℕ)
      → close_reads.Learnt κs (file, (board, (h, (cell, (first, (last, tt)))))) r (file', (left, (h', (cell', (first', (last', tt))))))
      → (board_done (number_of r) left.now out words ≡ meant file.now (lends board.now out words) (listed (close h cell first last))) × (file'.now ≡ file.now)
  close_meant κs h cell first last h' cell' first' last' p =
      (board_exact file.now board.now out words left.now (listed (close h cell first last)) tt (number_of r) p.0 p.1.0, p.1.1)

  pub withdraw_meant : (κs : Lfts 2) (h h' : ℕ) → withdraw_reads.Learnt κs (file, (board, (h, tt))) r (file', (left, (h', tt)))
      → (board_done (number_of r) left.now out words ≡ meant file.now (lends board.now out words) (listed (withdraw h))) × (file'.now ≡ file.now)
  withdraw_meant κs h h' p = (board_exact file.now board.now out words left.now (listed (withdraw h)) tt (number_of r) p.0 p.1.0, p.1.1)
