-- A test of bytes: of all of them by a fold, and piece by piece.
-- Assumes nothing.
use Prim.Native.Nat.{ℕ, zero, suc, ◌+◌, ◌*◌}
use native.Mathlib.Omega.{arith}
use mathlib.Core.Path.{◌≡◌, refl, sym, ap, ap₂, ◌∙◌}
use mathlib.Core.Bool.{Bool, true, ◌&&◌, and-true, and_assoc}
use mathlib.Core.List.{List, [], ◌∷◌}
use lib.ListN.{take, drop}
use lib.Seq.{drop-drop}
use denote.Ref.{Bor}
use denote.Param.Members.{Mut}
use Rattle.std.specs.declared.slice.Iter.{Iter}
use Rattle.std.specs.Fn.{Called}
use Rattle.std.specs.Iterator.{Drains}
use Rattle.std.specs.List.{list_all, FoldsTo}
use Rattle.std.specs.Slice.Iter.{iter_rest, iter_steps}
use Rattle.std.specs.Simd.{first_chunks}
use Rattle.std.proofs.lemmas.List.{take-append-drop}
use Rattle.std.proofs.lemmas.List.Folds.{list_all-append}
use Rattle.std.proofs.lemmas.Fn.{fold_over, slice_gives, fronts}

module _ (p : ℕ → Bool) where
  -- a fold by a closure that joins the test of each byte
  module _ {F : Type 0} (g : Mut F (Bool × (Bor ℕ × Unit {0})) Bool) (f : F) (joins : (a : Bool) (x : Bor ℕ) (b : Bool) (k : F) → Called g f (a, (x, tt)) b k → (b ≡ a && p x.now) × (k ≡ f)) where
    pub all_by_fold : (s : Iter ℕ) (r : Bool) → (xs : List (Bor ℕ)) × (k : F) × Drains iter_steps s xs × FoldsTo {P = F × Bool} (λ q x t. Called g q.0 (q.1, (x, tt)) t.1 t.0) (f, true) xs (k, r) → r ≡ list_all p (iter_rest s)
    all_by_fold s r ran =
        fold_over fronts (λ b. b.now) g (λ ys all. all ≡ list_all p ys) f
        (λ ys a x b k so call.
        let one = joins a x b k call in
        (one.0 ∙ ap (λ c. c && p x.now) so ∙ sym (list_all-append p ys (x.now ∷ []) ∙ ap (λ c. list_all p ys && c) (and-true (p x.now))), one.1))
        s _ true r (slice_gives s) refl ran

  -- some from the front, and the rest
  all_split : (n : ℕ) (xs : List ℕ) → list_all p xs ≡ list_all p (take n xs) && list_all p (drop n xs)
  all_split n xs = ap (list_all p) (sym (take-append-drop n xs)) ∙ list_all-append p (take n xs) (drop n xs)

  -- k pieces of n bytes, and the rest
  all_by_pieces : (n k : ℕ) (xs : List ℕ) → list_all (list_all p) (first_chunks n k xs) && list_all p (drop (k * n) xs) ≡ list_all p xs
  all_by_pieces n zero xs = let none : 0 * n ≡ 0 = omega arith in ap (λ (i : ℕ). list_all p (drop i xs)) none
  all_by_pieces n (suc k) xs =
      let more : suc k * n ≡ n + k * n = omega arith in
      ap (λ (i : ℕ). list_all (list_all p) (first_chunks n (suc k) xs) && list_all p (drop i xs)) more
      ∙ ap (λ (ys : List ℕ). list_all (list_all p) (first_chunks n (suc k) xs) && list_all p ys) (sym (drop-drop (k * n) n xs))
      ∙ and_assoc (list_all p (take n xs)) (list_all (list_all p) (first_chunks n k (drop n xs))) (list_all p (drop (k * n) (drop n xs)))
      ∙ ap (λ (b : Bool). list_all p (take n xs) && b) (all_by_pieces n k (drop n xs))
      ∙ sym (all_split n xs)

  pub told_by_pieces : (n k : ℕ) (xs rest : List ℕ) (pieces : List (List ℕ)) → pieces ≡ first_chunks n k xs → rest ≡ drop (k * n) xs → list_all (list_all p) pieces && list_all p rest ≡ list_all p xs
  told_by_pieces n k xs rest pieces front back = ap₂ (λ a b. list_all (list_all p) a && list_all p b) front back ∙ all_by_pieces n k xs
