-- The edition: its four bytes written, and the next one, read before or after a change.
-- Assumes nothing.
use Prim.Native.Nat.{ℕ, ◌+◌, ◌/◌, ◌%◌, ◌≤◌}
use native.Mathlib.Omega.{arith}
use mathlib.Core.Path.{◌≡◌, sym, ap, ◌∙◌}
use native.Mathlib.Nat.{div-div-eq-div-mul}
use mathlib.Core.Bool.{cond}
use mathlib.Core.List.{List, ◌∷◌, map}
use lib.Dec.{eqb}
use lib.ListN.{length, take, drop, get_or-append}
use lib.Seq.{length-take-le, get_or-take}
use Rattle.meaning.specs.Limits.{header}
use Rattle.meaning.specs.Site.{Site}
use Rattle.meaning.specs.Board.{mark, Pair, edition, clear, with_edition, next_edition}
use Rattle.meaning.proofs.BoardLaws.{same_edition, edition_mark}

-- ---- the four bytes

pub high_byte : (n : ℕ) (rest : List ℕ) → (n / 16777216 % 256 ∷ rest) ≡ (n / 65536 / 256 % 256 ∷ rest)
high_byte n rest = ap (λ (u : ℕ). u % 256 ∷ rest) (sym (div-div-eq-div-mul n 65536 256))

-- ---- the next edition, read before or after a change

pub edition_clear : (h : ℕ) (board : List ℕ) → header ≤ length board → edition (clear h board) ≡ edition board
unfolding clear
edition_clear h board long =
    let back : List ℕ = map (λ (b : ℕ). cond (eqb b h) 0 b) (drop header board) in
    let front : length (take header board) ≡ header = length-take-le header board long in
    same_edition (clear h board) board
    (λ i lt. get_or-append (take header board) back 0 i (omega arith) ∙ get_or-take header board i 0 lt)

pub next_mark : (site : Site) (h : ℕ) (ps : List Pair) (board : List ℕ)
    → next_edition (mark site h ps board) (mark site h ps board) ≡ next_edition board (mark site h ps board)
unfolding next_edition
next_mark site h ps board = ap (λ (n : ℕ). with_edition (n + 1) (mark site h ps board)) (edition_mark site h ps board)

pub next_clear : (h : ℕ) (board : List ℕ) → header ≤ length board
    → next_edition (clear h board) (clear h board) ≡ next_edition board (clear h board)
unfolding next_edition
next_clear h board long = ap (λ (n : ℕ). with_edition (n + 1) (clear h board)) (edition_clear h board long)
