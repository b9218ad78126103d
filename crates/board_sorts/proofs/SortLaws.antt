-- The tests of a byte's sort, as the code makes them, are those of the definitions.
-- Assumes nothing.
use Prim.Native.Nat.{ℕ}
use mathlib.Core.Path.{◌≡◌, refl}
use mathlib.Core.Bool.{Bool, true, false, cond}
use mathlib.Core.Logic.{◌⊎◌, inl, inr}
use denote.Enum.Bare.{sameb}
use lib.Dec.{leb, eqb}
use Rattle.meaning.specs.Limits.{last_tug, last_closure}
use Rattle.meaning.specs.Board.{Sort, nobody, tug, closure, unknown, sort_of, tug_sort, closure_sort, holder_sort}
use Rattle.board_sorts.specs.Sorts.{sort_case}
use Rattle.board_sorts.specs.declared.Sort.TheVariants.{Free, Tug, Closure, Unknown}
use Rattle.board_sorts.specs.contracts.Sort.{the_type}
use Rattle.board_sorts.specs.declared.Sort as Read

-- ---- a case of the enum, compared

pub same_tug : (k : Read.Sort) → sameb the_type k Tug ≡ tug_sort (sort_case k)
same_tug Free = refl
same_tug Tug = refl
same_tug Closure = refl
same_tug Unknown = refl

pub same_closure : (k : Read.Sort) → sameb the_type k Closure ≡ closure_sort (sort_case k)
same_closure Free = refl
same_closure Tug = refl
same_closure Closure = refl
same_closure Unknown = refl

-- ---- the cases of a holder

pub is_holders : (k : Read.Sort) → (k ≡ Tug) ⊎ (k ≡ Closure) → true ≡ holder_sort (sort_case k)
is_holders Free (inl e) = cc
is_holders Free (inr e) = cc
is_holders Tug _ = refl
is_holders Closure _ = refl
is_holders Unknown (inl e) = cc
is_holders Unknown (inr e) = cc

pub no_holders : (k : Read.Sort) → (k ≡ Tug → ⊥) → (k ≡ Closure → ⊥) → false ≡ holder_sort (sort_case k)
no_holders Free _ _ = refl
no_holders Tug other _ = absurd (other refl)
no_holders Closure _ other = absurd (other refl)
no_holders Unknown _ _ = refl

-- ---- the byte of nobody

-- a byte sorts as free where it is 0
abbrev pub free_sort : Sort → Bool
free_sort nobody = true
free_sort tug = false
free_sort closure = false
free_sort unknown = false

pub same_free : (k : Read.Sort) → sameb the_type k Free ≡ free_sort (sort_case k)
same_free Free = refl
same_free Tug = refl
same_free Closure = refl
same_free Unknown = refl

free_cases : (zero? low? known? : Bool) → free_sort (cond zero? nobody (cond low? tug (cond known? closure unknown))) ≡ zero?
free_cases true _ _ = refl
free_cases false true _ = refl
free_cases false false true = refl
free_cases false false false = refl

pub free_sort_lem : (b : ℕ) → free_sort (sort_of b) ≡ eqb b 0
unfolding sort_of
free_sort_lem b = free_cases (eqb b 0) (leb b last_tug) (leb b last_closure)
