-- What the contracts of open and interval promise is what is meant, in one equation each, and the site file stays. `Learnt κs arguments result exits` of a
-- function's `Reads` is what its contract ensures: of the arguments at entry, the result, and the parameters as the function leaves
-- them. `κs` are the lifetimes of the call's references, and a reference's list is `now` of it.
-- Assumes nothing.
use Prim.Native.Nat.{ℕ}
use mathlib.Core.Path.{◌≡◌}
use mathlib.Core.List.{List}
use contract.Lifetimes.{Lfts}
use denote.Ref.{Bor, MutBor}
use Rattle.std.specs.Prelude.{Result}
use Rattle.meaning.specs.Calls.{opening, interval, lends, meant}
use Rattle.answers.specs.declared.Refusal.{Refusal}
use Rattle.answers.specs.Answers.{number_of, counted_values}
use Rattle.answers.proofs.DeskLaws.{board_done, board_exact, interval_exact}
use Rattle.desk_board.proofs.open.Reads as open_reads
use Rattle.desk_board.proofs.interval.Reads as interval_reads

-- every exit is a reference of its own: what stays as it was is what the contract says
module _ (file : Bor (List ℕ)) (board : MutBor (List ℕ)) (file' : Bor (List ℕ)) (left : MutBor (List ℕ)) (out words : List ℕ) (r : Result Unit Refusal) where
  pub open_meant : (κs : Lfts 2) → open_reads.Learnt κs (file, (board, tt)) r (file', (left, tt))
      → (board_done (number_of r) left.now out words ≡ meant file.now (lends board.now out words) opening) × (file'.now ≡ file.now)
  open_meant κs p = (board_exact file.now board.now out words left.now opening tt (number_of r) p.0 p.1.0, p.1.1)

pub interval_meant : (file board : Bor (List ℕ)) (out : MutBor (List ℕ)) (file' board' : Bor (List ℕ)) (left : MutBor (List ℕ)) (words : List ℕ) (r : Result ℕ Refusal) (κs : Lfts 3) (cell cell' : ℕ)
    → interval_reads.Learnt κs (file, (board, (cell, (out, tt)))) r (file', (board', (cell', (left, tt))))
    → (record { number = number_of r; values = counted_values r; lent = lends board'.now left.now words }
    ≡ meant file.now (lends board.now out.now words) (interval cell)) × (file'.now ≡ file.now)
interval_meant file board out file' board' left words r κs cell cell' p =
    (interval_exact file.now board.now out.now words board'.now p.1.1.1.1 cell (number_of r) (counted_values r) left.now p.0 p.1.0 p.1.1.0, p.1.1.1.0)
