-- What the other files share: tests on lists, searches, and numbers in bytes.
-- Assumes nothing.
use Rattle.std.specs.Prelude.{ℕ, zero, suc, ◌+◌, ◌*◌, ◌/◌, ◌%◌, ◌<◌, Bool, true, false, cond, ◌&&◌, ◌||◌, List, [], ◌∷◌, ◌++◌, get_or, leb}
use Rattle.std.proofs.Math.Option.{Option, none, some}

-- ---- tests

-- every one of some tests holds
unfoldable pub every : List Bool → Bool
every [] = true
every (b ∷ bs) = b && every bs

module _ {A : Type 0} (p : A → Bool) where
  unfoldable pub any : List A → Bool
  any [] = false
  any (x ∷ xs) = p x || any xs

  unfoldable pub all : List A → Bool
  all [] = true
  all (x ∷ xs) = p x && all xs

-- the test holds at each number below n
unfoldable pub all_below : (ℕ → Bool) → ℕ → Bool
all_below p zero = true
all_below p (suc n) = all_below p n && p n

-- the test holds at i, i + 1, .., n of them
abbrev pub all_from : (ℕ → Bool) → ℕ → ℕ → Bool
all_from p i zero = true
all_from p i (suc n) = p i && all_from p (suc i) n

unfoldable pub within : ℕ → ℕ → ℕ → Bool
within lo hi n = leb lo n && leb n hi

abbrev pub is_zero : ℕ → Bool
is_zero zero = true
is_zero (suc n) = false

-- ---- lists

-- f i, f (i + 1), .., n of them
abbrev pub tabulate : {A : Type 0} → (ℕ → A) → ℕ → ℕ → List A
tabulate f i zero = []
tabulate f i (suc n) = f i ∷ tabulate f (suc i) n

-- every element has the property
abbrev pub Each : {A : Type 0} → (A → Type 0) → List A → Type 0
Each P [] = Unit {0}
Each P (x ∷ xs) = P x × Each P xs

-- some element has it
pub data Some {A : Type 0} (P : A → Type 0) : List A → Type 0 where
  here : {x : A} {xs : List A} → P x → Some P (x ∷ xs)
  there : {x : A} {xs : List A} → Some P xs → Some P (x ∷ xs)

-- ---- searches

-- the least of the n numbers from i on at which the test holds
abbrev pub least : (ℕ → Bool) → ℕ → ℕ → Option ℕ
least p i zero = none
least p i (suc n) = let later : Option ℕ = least p (suc i) n in cond (p i) (some i) later

-- the answer where the test holds, and else none
abbrev pub when : {A : Type 0} → Bool → Option A → Option A
when true o = o
when false o = none

abbrev pub is_none : {A : Type 0} → Option A → Bool
is_none none = true
is_none (some a) = false

-- ---- numbers in bytes: unsigned, high byte first

abbrev pub Bytes : List ℕ → Type 0
Bytes s = Each (λ (b : ℕ). b < 256) s

abbrev pub u16_at : List ℕ → ℕ → ℕ
u16_at s i = get_or s i 0 * 256 + get_or s (i + 1) 0

abbrev pub u32_at : List ℕ → ℕ → ℕ
u32_at s i = u16_at s i * 65536 + u16_at s (i + 2)

abbrev pub put16 : ℕ → List ℕ
put16 n = n / 256 % 256 ∷ n % 256 ∷ []

abbrev pub put32 : ℕ → List ℕ
put32 n = put16 (n / 65536) ++ put16 n
