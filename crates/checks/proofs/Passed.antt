-- What a caller knows of a call where no check applies: the site, the board's length, the edition, and each of the later checks.
-- Assumes nothing.
use Prim.Native.Nat.{ℕ, ◌<◌, ◌≤◌}
use native.Mathlib.Omega.{arith}
use mathlib.Core.Path.{◌≡◌, ap}
use mathlib.Core.Bool.{false}
use mathlib.Core.List.{List}
use lib.ListN.{length, get_or}
use Rattle.meaning.specs.Limits.{horizon_limit, last_edition}
use Rattle.meaning.specs.Answers.{lowest}
use Rattle.meaning.specs.Site.{site_of}
use Rattle.meaning.specs.Board.{edition}
use Rattle.meaning.specs.Calls.{PublicCall, Lent, later_refusals, refusals}
use Rattle.meaning.proofs.CallLaws.{none_parts}
use Rattle.meaning.proofs.SiteLaws.{read_well}
use Rattle.meaning.proofs.BoardLaws.{edition_small}
use Rattle.site.specs.Ready.{Ready}
use Rattle.site.specs.declared.Sizes.{Sizes}
use Rattle.site.specs.declared.hall.Hall.{Hall}
use Rattle.checks.proofs.Laws.{applies_in, passed_at}

-- ---- checks 1 to 7

-- the hall that they answer is made of the file and the board that were lent
pub hall_ready : (hall : Hall) {file board : List ℕ} → (hall.file.bytes.now ≡ file) × (hall.board.now ≡ board) → Ready file (length board) hall.sizes
hall_ready hall (of_file, of_board) = rw (← of_file, ← of_board) hall.ready

pub ready_short : {file : List ℕ} {room : ℕ} {l : Sizes} → Ready file room l → l.horizon ≤ horizon_limit
ready_short {file} r =
    let short = (read_well file (site_of file) r.read).horizon_range.1 in
    let same = ap (λ (k : Sizes). k.horizon) r.sizes in
    omega arith

-- ---- the later checks

-- the check with the number n does not apply
pub later_passed : (file : List ℕ) (lent : Lent) (q : PublicCall) → lowest (refusals file lent q) ≡ 0 → (n : ℕ) → applies_in n (later_refusals (site_of file) lent q) ≡ false
later_passed file lent q none n = passed_at n (later_refusals (site_of file) lent q) (none_parts file lent q none).later

-- ---- the edition

-- a board is made of bytes: an edition that is not the last is below it
pub edition_below : (board : List ℕ) → ((i : ℕ) → get_or board i 0 < 256) → (edition board ≡ last_edition → ⊥) → edition board < last_edition
edition_below board bytes other = let small = edition_small board bytes in omega arith
