-- Laws of the definitions in Basics.
-- Assumes nothing.
use Prim.Native.Nat.{ℕ, zero, suc, ◌+◌, ◌*◌, ◌-◌, ◌/◌, ◌%◌, ◌≤◌, ◌<◌}
use native.Mathlib.Nat.{not-suc-le-zero, le_of_suc-le-suc}
use native.Mathlib.Omega.{arith}
use mathlib.Core.Path.{◌≡◌, refl, sym, ap, ap₂, ◌∙◌}
use mathlib.Core.Bool.{Bool, true, false, cond, ◌&&◌, false≢true, true≢false}
use mathlib.Core.Option.{Option, none, some}
use mathlib.Core.List.{List, [], ◌∷◌, ◌++◌}
use lib.Dec.{leb, eqb}
use borrow.Author.Tests.{eqb-true, eqb-false, leb-true, le-leb}
use lib.ListN.{length, get_or}
use Rattle.meaning.specs.Basics.{every, any, all, all_below, all_from, within, is_zero, tabulate, Each, Some, here, there, least, when}

-- ---- conjunctions

pub and_left : (x y : Bool) → x && y ≡ true → x ≡ true
and_left true y h = refl
and_left false y h = h

pub and_right : (x y : Bool) → x && y ≡ true → y ≡ true
and_right true y h = h
and_right false y h = absurd (false≢true h)

-- the test at a place
pub every_at : (tests : List Bool) → every tests ≡ true → (i : ℕ) → get_or tests i true ≡ true
unfolding every
every_at [] h i = refl
every_at (b ∷ bs) h zero = and_left b (every bs) h
every_at (b ∷ bs) h (suc i) = every_at bs (and_right b (every bs) h) i

-- tests that hold, one by one: every-cons _ _ h (every-cons _ _ k every-nil)
pub every_nil : every [] ≡ true
unfolding every
every_nil = refl

pub every_cons : (b : Bool) (bs : List Bool) → b ≡ true → every bs ≡ true → every (b ∷ bs) ≡ true
unfolding every
every_cons b bs h k = simp (h, k)

-- a test is one or the other
pub decide {ℓ} : {X : Type ℓ} (b : Bool) → (b ≡ true → X) → (b ≡ false → X) → X
decide true yes_case no_case = yes_case refl
decide false yes_case no_case = no_case refl

-- one test fails: a conjunction of tests does not hold
pub every_fails : (tests : List Bool) (i : ℕ) → get_or tests i true ≡ false → every tests ≡ false
every_fails tests i h = decide (every tests) (λ e. absurd (true≢false (sym (every_at tests e i) ∙ h))) (λ e. e)

-- ---- when

pub when_test : {A : Type 0} (b : Bool) (o : Option A) {a : A} → when b o ≡ some a → b ≡ true
when_test true o h = refl
when_test false o h = let z : false ≡ true = cc in z

pub when_value : {A : Type 0} (b : Bool) (o : Option A) {a : A} → when b o ≡ some a → o ≡ some a
when_value true o h = h
when_value false o {a} h = cc

-- ---- all, at a place

pub all_nil : {A : Type 0} (p : A → Bool) → all p [] ≡ true
unfolding all
all_nil p = refl

pub all_cons : {A : Type 0} (p : A → Bool) (x : A) (xs : List A) → p x ≡ true → all p xs ≡ true → all p (x ∷ xs) ≡ true
unfolding all
all_cons p x xs h k = simp (h, k)

pub all_head : {A : Type 0} (p : A → Bool) (x : A) (xs : List A) → all p (x ∷ xs) ≡ true → p x ≡ true
unfolding all
all_head p x xs h = and_left (p x) (all p xs) h

pub all_tail : {A : Type 0} (p : A → Bool) (x : A) (xs : List A) → all p (x ∷ xs) ≡ true → all p xs ≡ true
unfolding all
all_tail p x xs h = and_right (p x) (all p xs) h

pub all_append : {A : Type 0} (p : A → Bool) (xs ys : List A) → all p xs ≡ true → all p ys ≡ true → all p (xs ++ ys) ≡ true
all_append p [] ys h k = k
all_append p (x ∷ xs) ys h k = all_cons p x (xs ++ ys) (all_head p x xs h) (all_append p xs ys (all_tail p x xs h) k)

pub all_at : {A : Type 0} (p : A → Bool) (xs : List A) (d : A) → all p xs ≡ true → (i : ℕ) → i < length xs → p (get_or xs i d) ≡ true
unfolding all
all_at p [] d h i k = absurd (not-suc-le-zero k)
all_at p (x ∷ xs) d h zero k = and_left (p x) (all p xs) h
all_at p (x ∷ xs) d h (suc i) k = all_at p xs d (and_right (p x) (all p xs) h) i (le_of_suc-le-suc k)

-- ---- all_from, at a place, and from its places

pub all_from_at : (p : ℕ → Bool) (i n j : ℕ) → all_from p i n ≡ true → j < n → p (i + j) ≡ true
all_from_at p i zero j h lt = absurd (not-suc-le-zero lt)
all_from_at p i (suc n) zero h lt =
    let same : i + 0 ≡ i = omega arith in rw same (and_left _ (all_from p (suc i) n) h)
all_from_at p i (suc n) (suc j) h lt =
    let same : suc i + j ≡ i + suc j = omega arith in
    rw same at (all_from_at p (suc i) n j (and_right (p i) (all_from p (suc i) n) h) (le_of_suc-le-suc lt))

pub all_from_in : (p : ℕ → Bool) (t n x : ℕ) → all_from p t n ≡ true → t ≤ x → x < t + n → p x ≡ true
all_from_in p t n x h lo hi =
    let same : t + (x - t) ≡ x = omega arith in
    rw same at (all_from_at p t n (x - t) h (omega arith))

pub all_from_true : (p : ℕ → Bool) (t n : ℕ) → ((x : ℕ) → t ≤ x → x < t + n → p x ≡ true) → all_from p t n ≡ true
all_from_true p t zero h = refl
all_from_true p t (suc n) h = simp (h t (omega arith) (omega arith), all_from_true p (suc t) n (λ x lo hi. h x (omega arith) (omega arith)))

-- ---- tabulate, at a place

pub length_tabulate : {A : Type 0} (g : ℕ → A) (i n : ℕ) → length (tabulate g i n) ≡ n
length_tabulate g i zero = refl
length_tabulate g i (suc n) = ap suc (length_tabulate g (suc i) n)

tabulate_from : {A : Type 0} (g : ℕ → A) (d : A) (i n j : ℕ) → j < n → get_or (tabulate g i n) j d ≡ g (i + j)
tabulate_from g d i zero j h = absurd (not-suc-le-zero h)
tabulate_from g d i (suc n) zero h = ap g (omega arith)
tabulate_from g d i (suc n) (suc j) h = tabulate_from g d (suc i) n j (le_of_suc-le-suc h) ∙ ap g (omega arith)

pub tabulate_at : {A : Type 0} (g : ℕ → A) (d : A) (n j : ℕ) → j < n → get_or (tabulate g 0 n) j d ≡ g j
tabulate_at g d n j h = tabulate_from g d 0 n j h ∙ ap g (omega arith)

-- ---- least

some_inj : {a b : ℕ} → some a ≡ some b → a ≡ b
some_inj q = cc

pub least_holds : (p : ℕ → Bool) (i n j : ℕ) → least p i n ≡ some j → p j ≡ true
least_holds p i zero j h = cc
least_holds p i (suc n) j h =
    decide (p i)
    (λ e. let same : i ≡ j = some_inj (simp e at h) in rw (← same) e)
    (λ e. least_holds p (suc i) n j (simp e at h))

pub least_below : (p : ℕ → Bool) (i n j : ℕ) → least p i n ≡ some j → (l : ℕ) → i ≤ l → l < j → p l ≡ false
least_below p i zero j h l lo hi = cc
least_below p i (suc n) j h l lo hi =
    decide (p i)
    (λ e. let same : i ≡ j = some_inj (simp e at h) in absurd (omega arith))
    (λ e. decide (eqb l i)
    (λ q. let same : l ≡ i = eqb-true l i q in rw same e)
    (λ q. let other : l ≡ i → ⊥ = eqb-false l i q in least_below p (suc i) n j (simp e at h) l (omega arith) hi))

pub least_none : (p : ℕ → Bool) (i n : ℕ) → least p i n ≡ none → (l : ℕ) → i ≤ l → l < i + n → p l ≡ false
least_none p i zero h l lo hi = absurd (omega arith)
least_none p i (suc n) h l lo hi =
    decide (p i)
    (λ e. let z : some i ≡ none = simp e at h in cc)
    (λ e. decide (eqb l i)
    (λ q. let same : l ≡ i = eqb-true l i q in rw same e)
    (λ q. let other : l ≡ i → ⊥ = eqb-false l i q in least_none p (suc i) n (simp e at h) l (omega arith) (omega arith)))

pub least_range : (p : ℕ → Bool) (i n j : ℕ) → least p i n ≡ some j → j < i + n
least_range p i zero j h = let z : ◌≡◌ {A = ℕ} 0 1 = cc in omega arith
least_range p i (suc n) j h =
    decide (p i)
    (λ e. let same : i ≡ j = some_inj (simp e at h) in omega arith)
    (λ e. let r : j < suc i + n = least_range p (suc i) n j (simp e at h) in omega arith)

-- a search is answered one way or the other
pub options : {A : Type 0} {X : Type 0} (o : Option A) → (o ≡ none → X) → ((a : A) → o ≡ some a → X) → X
options none f g = f refl
options (some a) f g = g a refl

pub least_found : (p : ℕ → Bool) (i n l : ℕ) → p l ≡ true → i ≤ l → l < i + n → (j : ℕ) × (least p i n ≡ some j)
least_found p i n l h lo hi =
    options (least p i n)
    (λ e. let z : p l ≡ false = least_none p i n e l lo hi in absurd (true≢false (sym h ∙ z)))
    (λ j e. (j, e))

-- two tests that agree find the same
pub least_same : (p q : ℕ → Bool) (i n : ℕ) → ((j : ℕ) → j < i + n → p j ≡ q j) → least p i n ≡ least q i n
least_same p q i zero h = refl
least_same p q i (suc n) h =
    let rest : least p (suc i) n ≡ least q (suc i) n = least_same p q (suc i) n (λ j lt. h j (omega arith)) in
    ap₂ (λ (b : Bool) (o : Option ℕ). cond b (some i) o) (h i (omega arith)) rest

-- ---- one more at the end: what a loop that counts up needs

-- a search that has found nothing yet, at its next number
pub least_snoc : (p : ℕ → Bool) (i n : ℕ) → least p i n ≡ none → least p i (suc n) ≡ cond (p (i + n)) (some (i + n)) none
least_snoc p i zero h = let same : i + 0 ≡ i = omega arith in rw same
least_snoc p i (suc n) h =
    let same : suc i + n ≡ i + suc n = omega arith in
    decide (p i)
    (λ e. let z : some i ≡ none = simp e at h in cc)
    (λ e. simp e (least_snoc p (suc i) n (simp e at h) ∙ ap (λ (j : ℕ). cond (p j) (some j) none) same))

-- and one that has found something
pub least_more : (p : ℕ → Bool) (i n j : ℕ) → least p i n ≡ some j → least p i (suc n) ≡ some j
least_more p i zero j h = cc
least_more p i (suc n) j h =
    decide (p i)
    (λ e. simp e (simp e at h))
    (λ e. simp e (least_more p (suc i) n j (simp e at h)))

-- ---- any

pub any_at : {A : Type 0} (p : A → Bool) (xs : List A) (d : A) → any p xs ≡ true → (i : ℕ) × (i < length xs) × (p (get_or xs i d) ≡ true)
unfolding any
any_at p [] d h = absurd (false≢true h)
any_at p (x ∷ xs) d h =
    decide (p x)
    (λ e. (0, omega arith, e))
    (λ e. let (i, lt, found) = any_at p xs d (simp e at h) in (suc i, omega arith, found))

pub any_from_lem : {A : Type 0} (p : A → Bool) (xs : List A) (d : A) (i : ℕ) → i < length xs → p (get_or xs i d) ≡ true → any p xs ≡ true
unfolding any
any_from_lem p [] d i h e = absurd (not-suc-le-zero h)
any_from_lem p (x ∷ xs) d zero h e = simp e
any_from_lem p (x ∷ xs) d (suc i) h e = decide (p x) (λ q. simp q) (λ q. simp q (any_from_lem p xs d i (le_of_suc-le-suc h) e))

pub any_here : {A : Type 0} (p : A → Bool) (x : A) (xs : List A) → p x ≡ true → any p (x ∷ xs) ≡ true
unfolding any
any_here p x xs h = simp h

pub any_there : {A : Type 0} (p : A → Bool) (x : A) (xs : List A) → any p xs ≡ true → any p (x ∷ xs) ≡ true
unfolding any
any_there p x xs h = decide (p x) (λ e. simp e) (λ e. simp (e, h))

pub any_nil : {A : Type 0} (p : A → Bool) → any p [] ≡ false
unfolding any
any_nil p = refl

-- an element passes: the first, or one of the others
pub any_case : {A X : Type 0} (p : A → Bool) (x : A) (xs : List A) → any p (x ∷ xs) ≡ true → (p x ≡ true → X) → (p x ≡ false → any p xs ≡ true → X) → X
unfolding any
any_case p x xs h f g = decide (p x) f (λ e. g e (simp e at h))

-- the tests as properties
pub some_any : {A : Type 0} (P : A → Type 0) (p : A → Bool) → ((x : A) → P x → p x ≡ true) → {xs : List A} → Some P xs → any p xs ≡ true
some_any P p f (here {x = x} {xs = xs} h) = any_here p x xs (f x h)
some_any P p f (there {x = x} {xs = xs} s) = any_there p x xs (some_any P p f s)

pub any_some : {A : Type 0} (P : A → Type 0) (p : A → Bool) → ((x : A) → p x ≡ true → P x) → (xs : List A) → any p xs ≡ true → Some P xs
any_some P p f [] h = absurd (true≢false (sym h ∙ any_nil p))
any_some P p f (x ∷ xs) h = any_case p x xs h (λ e. here (f x e)) (λ e k. there (any_some P p f xs k))

pub each_all : {A : Type 0} (P : A → Type 0) (p : A → Bool) → ((x : A) → P x → p x ≡ true) → (xs : List A) → Each P xs → all p xs ≡ true
each_all P p f [] h = all_nil p
each_all P p f (x ∷ xs) (h, k) = all_cons p x xs (f x h) (each_all P p f xs k)

pub all_each : {A : Type 0} (P : A → Type 0) (p : A → Bool) → ((x : A) → p x ≡ true → P x) → (xs : List A) → all p xs ≡ true → Each P xs
all_each P p f [] h = tt
all_each P p f (x ∷ xs) h = (f x (all_head p x xs h), all_each P p f xs (all_tail p x xs h))

pub each_at : {A : Type 0} (P : A → Type 0) (xs : List A) (d : A) → Each P xs → (i : ℕ) → i < length xs → P (get_or xs i d)
each_at P [] d h i k = absurd (not-suc-le-zero k)
each_at P (x ∷ xs) d (h, hs) zero k = h
each_at P (x ∷ xs) d (h, hs) (suc i) k = each_at P xs d hs i (le_of_suc-le-suc k)

pub each_map : {A : Type 0} (P Q : A → Type 0) → ((x : A) → P x → Q x) → (xs : List A) → Each P xs → Each Q xs
each_map P Q f [] h = tt
each_map P Q f (x ∷ xs) (h, k) = (f x h, each_map P Q f xs k)

pub each_append : {A : Type 0} (P : A → Type 0) (xs ys : List A) → Each P (xs ++ ys) → Each P xs × Each P ys
each_append P [] ys h = (tt, h)
each_append P (x ∷ xs) ys (e, h) = let (left, right) = each_append P xs ys h in ((e, left), right)

-- two tests that hold in the same cases are equal
pub same_test : (x y : Bool) → (x ≡ true → y ≡ true) → (y ≡ true → x ≡ true) → x ≡ y
same_test true y f g = sym (f refl)
same_test false true f g = g refl
same_test false false f g = refl

-- ---- numbers

pub within_range : (lo hi n : ℕ) → within lo hi n ≡ true → (lo ≤ n) × (n ≤ hi)
unfolding within
within_range lo hi n h = (leb-true _ _ (and_left (leb lo n) (leb n hi) h), leb-true _ _ (and_right (leb lo n) (leb n hi) h))

pub range_within : (lo hi n : ℕ) → lo ≤ n → n ≤ hi → within lo hi n ≡ true
unfolding within
range_within lo hi n l h = simp (le-leb lo n l, le-leb n hi h)

pub not_zero : (n : ℕ) → 1 ≤ n → is_zero n ≡ false
not_zero zero h = absurd (not-suc-le-zero h)
not_zero (suc n) h = refl

pub u16_back : (n : ℕ) → n < 65536 → n / 256 % 256 * 256 + n % 256 ≡ n
u16_back n h = omega arith

pub u32_back : (n : ℕ) → n < 4294967296
    → (n / 65536 / 256 % 256 * 256 + n / 65536 % 256) * 65536 + (n / 256 % 256 * 256 + n % 256) ≡ n
u32_back n h = omega arith

-- a number's two bytes, from the number
pub u16_bytes : (h l : ℕ) → h < 256 → l < 256 → ((h * 256 + l) / 256 % 256 ≡ h) × ((h * 256 + l) % 256 ≡ l)
u16_bytes h l p q = (omega arith, omega arith)

-- ---- all_below, at a place, and from its places

pub below_at : (p : ℕ → Bool) (n : ℕ) → all_below p n ≡ true → (j : ℕ) → j < n → p j ≡ true
unfolding all_below
below_at p zero h j lt = absurd (not-suc-le-zero lt)
below_at p (suc n) h j lt =
    decide (eqb j n)
    (λ e. let same : j ≡ n = eqb-true j n e in rw same (and_right (all_below p n) (p n) h))
    (λ e. let other : j ≡ n → ⊥ = eqb-false j n e in below_at p n (and_left (all_below p n) (p n) h) j (omega arith))

pub below_all : (p : ℕ → Bool) (n : ℕ) → ((j : ℕ) → j < n → p j ≡ true) → all_below p n ≡ true
unfolding all_below
below_all p zero h = refl
below_all p (suc n) h = simp (below_all p n (λ j lt. h j (omega arith)), h n (omega arith))
