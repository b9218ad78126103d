-- What the contract of route promises is what is meant, in one equation, and the site file stays. `Learnt` and its arguments are those of
-- crates/desk_board/proofs/ContractLaws.antt.
-- Assumes nothing.
use Prim.Native.Nat.{ℕ}
use mathlib.Core.Path.{◌≡◌}
use mathlib.Core.List.{List}
use contract.Lifetimes.{Lfts}
use denote.Ref.{Bor, MutBor}
use Rattle.std.specs.Prelude.{Result}
use Rattle.meaning.specs.Plan.{node}
use Rattle.meaning.specs.Calls.{listed, route, lends, meant}
use Rattle.answers.specs.declared.Granted.{Granted}
use Rattle.answers.specs.declared.Refusal.{Refusal}
use Rattle.answers.specs.Answers.{number_of, granted_values}
use Rattle.answers.proofs.DeskLaws.{route_exact}
use Rattle.desk_route.proofs.route.Reads as route_reads

pub route_meant : (file board : Bor (List ℕ)) (out words : MutBor (List ℕ)) (file' board' : Bor (List ℕ)) (left cleared : MutBor (List ℕ)) (r : Result Granted Refusal) (κs : Lfts 4) (tug start tick goal dwell tug' start' tick' goal' dwell' : ℕ)
    → route_reads.Learnt κs (file, (board, (tug, (start, (tick, (goal, (dwell, (out, (words, tt))))))))) r (file', (board', (tug', (start', (tick', (goal', (dwell', (left, (cleared, tt)))))))))
    → (record { number = number_of r; values = granted_values r; lent = lends board'.now left.now cleared.now }
    ≡ meant file.now (lends board.now out.now words.now) (listed (route tug (node start tick) goal dwell))) × (file'.now ≡ file.now)
route_meant file board out words file' board' left cleared r κs tug start tick goal dwell tug' start' tick' goal' dwell' p = (
  route_exact file.now (lends board.now out.now words.now) tug (node start tick) goal dwell board'.now p.1.1.1.1.1 (number_of r) (granted_values r) left.now cleared.now
      p.0 p.1.0 p.1.1.0 p.1.1.1.0,
  p.1.1.1.1.0,
)
