-- What the contracts of audit and post promise is what is meant, in one equation each, and the site file and the light stay. `Learnt` and its arguments are those of
-- crates/desk_board/proofs/ContractLaws.antt.
-- Assumes nothing.
use Prim.Native.Nat.{ℕ}
use mathlib.Core.Path.{◌≡◌}
use mathlib.Core.List.{List}
use contract.Lifetimes.{Lfts}
use denote.Ref.{Bor, MutBor}
use Rattle.std.specs.Prelude.{Result}
use Rattle.meaning.specs.Calls.{listed, audit, post, lends, meant}
use Rattle.answers.specs.declared.Refusal.{Refusal}
use Rattle.answers.specs.Answers.{number_of}
use Rattle.answers.proofs.DeskLaws.{board_done, board_exact, audit_exact}
use Rattle.desk_light.proofs.audit.Reads as audit_reads
use Rattle.desk_light.proofs.post.Reads as post_reads

module _ (file board light file' left light' : Bor (List ℕ)) (out words : List ℕ) (r : Result Unit Refusal) (κs : Lfts 3) where
  pub audit_meant : audit_reads.Learnt κs (file, (board, (light, tt))) r (file', (left, (light', tt)))
      → (board_done (number_of r) left.now out words ≡ meant file.now (lends board.now out words) (listed (audit light.now)))
      × ((file'.now ≡ file.now) × (light'.now ≡ light.now))
  audit_meant p =
      (audit_exact file.now board.now out words left.now light.now p.1.1.0 (number_of r) p.0, (p.1.0, p.1.1.1))

module _ (file : Bor (List ℕ)) (board : MutBor (List ℕ)) (light file' : Bor (List ℕ)) (left : MutBor (List ℕ)) (light' : Bor (List ℕ)) (out words : List ℕ) (r : Result Unit Refusal) (κs : Lfts 3) where
  pub post_meant : post_reads.Learnt κs (file, (board, (light, tt))) r (file', (left, (light', tt)))
      → (board_done (number_of r) left.now out words ≡ meant file.now (lends board.now out words) (listed (post light.now)))
      × ((file'.now ≡ file.now) × (light'.now ≡ light.now))
  post_meant p =
      (board_exact file.now board.now out words left.now (listed (post light.now)) tt (number_of r) p.0 p.1.0, p.1.1)
