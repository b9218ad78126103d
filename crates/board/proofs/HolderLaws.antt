-- Who stands on the board, and the board after a holder is withdrawn, from a place on.
-- Assumes nothing.
use Prim.Native.Nat.{ℕ, ◌+◌, ◌-◌, ◌<◌, ◌≤◌}
use native.Mathlib.Omega.{arith}
use mathlib.Core.Path.{◌≡◌, refl, sym, ap, ap₂, ◌∙◌}
use mathlib.Core.Bool.{Bool, true, false, cond, ◌&&◌, ◌||◌, and-true, and-false, and-or_distrib_left}
use mathlib.Core.List.{List, [], ◌∷◌, ◌++◌, map, append-nil}
use borrow.Author.Tests.{eqb-true}
use lib.Dec.{eqb}
use lib.ListN.{length, take, drop, get_or, length-drop, drop_of_length-le}
use lib.Seq.{drop-cons, take_all}
use native.Mathlib.Numerals.{add-one}
use Rattle.meaning.specs.Limits.{header}
use Rattle.meaning.specs.Basics.{every, any}
use Rattle.meaning.specs.Board.{is_holder, stands, clear}
use Rattle.meaning.proofs.BasicsLaws.{decide}

-- ---- the bytes behind the edition

abbrev pub cell_bytes : List ℕ → List ℕ
cell_bytes board = take (length board - header) (drop header board)

all_behind : (board : List ℕ) → length (drop header board) ≤ length board - header
all_behind board = omega (arith, length-drop header board)

pub behind : (board : List ℕ) → cell_bytes board ≡ drop header board
behind board = take_all (length board - header) (drop header board) (all_behind board)

-- ---- a search from a place on

pub any_more : (p : ℕ → Bool) (l : List ℕ) (i : ℕ) (found : Bool) → i < length l
    → (found || any p (drop i l)) ≡ ((found || p (get_or l i 0)) || any p (drop (i + 1) l))
unfolding any
any_more p l i true lt = refl
any_more p l i false lt = rw (add-one i, drop-cons l i 0 lt)

-- ---- standing

-- a byte that carries h sorts as h does
carry : (h b : ℕ) → (is_holder b && eqb b h) ≡ (is_holder h && eqb b h)
carry h b =
    decide (eqb b h)
    (λ e. ap (λ (x : ℕ). is_holder x && eqb b h) (eqb-true b h e))
    (λ e. rw e (and-false (is_holder b) ∙ sym (and-false (is_holder h))))

any_carry : (h : ℕ) (l : List ℕ) → any (λ (b : ℕ). is_holder b && eqb b h) l ≡ (is_holder h && any (λ (b : ℕ). eqb b h) l)
unfolding any
any_carry h [] = sym (and-false (is_holder h))
any_carry h (b ∷ l) = ap₂ ◌||◌ (carry h b) (any_carry h l) ∙ sym (and-or_distrib_left (is_holder h) (eqb b h) _)

-- so h stands where a byte from header on sorts as a holder and is h
pub stands_any : (board : List ℕ) (h : ℕ) → stands board h ≡ any (λ (b : ℕ). is_holder b && eqb b h) (drop header board)
unfolding stands every
stands_any board h = ap (λ (t : Bool). is_holder h && t) (and-true _) ∙ sym (any_carry h (drop header board))

-- ---- a holder's bytes from a place on

abbrev withdrawn : ℕ → ℕ → ℕ
withdrawn h b = cond (eqb b h) 0 b

abbrev pub clear_from : ℕ → ℕ → List ℕ → List ℕ
clear_from h i l = take i l ++ map (λ (b : ℕ). cond (eqb b h) 0 b) (drop i l)

pub clear_end : (h i : ℕ) (l : List ℕ) → length l ≤ i → clear_from h i l ≡ l
clear_end h i l le = ap₂ (λ (x y : List ℕ). x ++ map (withdrawn h) y) (take_all i l le) (drop_of_length-le l {i = i} le) ∙ append-nil l

-- and the board once those behind the edition are
pub cleared : (h : ℕ) (board bytes : List ℕ) → bytes ≡ clear_from h 0 (cell_bytes board)
    → take header board ++ (bytes ++ drop (length board - header) (drop header board)) ≡ clear h board
unfolding clear
cleared h board bytes e =
    ap (λ (x : List ℕ). take header board ++ (bytes ++ x)) (drop_of_length-le (drop header board) {i = length board - header} (all_behind board))
    ∙ ap (λ (x : List ℕ). take header board ++ x) (append-nil bytes ∙ e ∙ ap (map (withdrawn h)) (behind board))
