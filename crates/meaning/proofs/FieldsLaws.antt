-- Laws of the fields of some bytes: what is written is read back, and what is read is written back.
-- Assumes nothing.
use Prim.Native.Nat.{ℕ, zero, suc, ◌+◌, ◌*◌, ◌/◌, ◌%◌, ◌≤◌, ◌<◌}
use native.Mathlib.Omega.{arith}
use mathlib.Core.Path.{◌≡◌, refl, sym, ap, ◌∙◌}
use mathlib.Core.Bool.{true, false≢true}
use mathlib.Core.List.{List, [], ◌∷◌, ◌++◌}
use lib.Dec.{leb}
use lib.ListN.{length, get_or, take, drop, length-append, length-drop, take-append-drop}
use lib.Seq.{ext_get_or, drop-drop, length-take-le, take-append_seam, drop-append_seam}
use borrow.Author.Tests.{le-leb, lt-leb, leb-true}
use Rattle.meaning.specs.Basics.{tabulate, Each, Bytes, u16_at, put16, put32}
use Rattle.meaning.specs.Fields.{Field, Fields, end, cut, next, split, fields, complete, listed, field_bytes, fields_bytes}
use Rattle.meaning.proofs.BasicsLaws.{decide, length_tabulate, tabulate_at, u16_back, u16_bytes}

-- ---- reading

-- more fuel changes nothing
pub split_more : (k m : ℕ) (s : List ℕ) → length s ≤ k → length s ≤ m → split k s ≡ split m s
unfolding split
split_more zero zero s p q = refl
split_more zero (suc m) [] p q = refl
split_more zero (suc m) (x ∷ s) p q = absurd (omega arith)
split_more (suc k) zero [] p q = refl
split_more (suc k) zero (x ∷ s) p q = absurd (omega arith)
split_more (suc k) (suc m) [] p q = refl
split_more (suc k) (suc m) (t ∷ []) p q = refl
split_more (suc k) (suc m) (t ∷ h ∷ []) p q = refl
split_more (suc k) (suc m) (t ∷ h ∷ l ∷ s) p q =
    let e = length-drop (h * 256 + l) s in
    rw (split_more k m (drop (h * 256 + l) s) (omega arith) (omega arith))

-- the four cases
pub fields_end : (s : List ℕ) → length s ≡ 0 → fields s ≡ end
unfolding fields split
fields_end [] p = refl
fields_end (x ∷ s) p = absurd (omega arith)

pub fields_short : (s : List ℕ) → 0 < length s → length s < 3 → fields s ≡ cut
unfolding fields split
fields_short [] p q = absurd (omega arith)
fields_short (t ∷ []) p q = refl
fields_short (t ∷ h ∷ []) p q = refl
fields_short (t ∷ h ∷ l ∷ s) p q = absurd (omega arith)

pub fields_cut : (s : List ℕ) → 3 ≤ length s → length s < 3 + u16_at s 1 → fields s ≡ cut
unfolding fields split
fields_cut [] p q = absurd (omega arith)
fields_cut (t ∷ []) p q = absurd (omega arith)
fields_cut (t ∷ h ∷ []) p q = absurd (omega arith)
fields_cut (t ∷ h ∷ l ∷ s) p q =
    rw (lt-leb (h * 256 + l) (length s) (omega arith))

pub fields_next : (s : List ℕ) → 3 + u16_at s 1 ≤ length s →
    fields s ≡ next (record { tag = get_or s 0 0; value = take (u16_at s 1) (drop 3 s) }) (fields (drop (3 + u16_at s 1) s))
unfolding fields split
fields_next [] q = absurd (omega arith)
fields_next (t ∷ []) q = absurd (omega arith)
fields_next (t ∷ h ∷ []) q = absurd (omega arith)
fields_next (t ∷ h ∷ l ∷ s) q =
    let n = h * 256 + l in
    let e = length-drop n s in
    rw (
      le-leb n (length s) (omega arith),
      ← drop-drop n 3 (t ∷ h ∷ l ∷ s),
      split_more (suc (suc (length s))) (length (drop n s)) (drop n s) (omega arith) (omega arith),
    )

-- some byte is the first of a field, whole or cut
pub fields_some : (b : ℕ) (s : List ℕ) → fields (b ∷ s) ≡ end → ⊥
unfolding fields split
fields_some b [] e = let z : ◌≡◌ {A = ℕ} 0 1 = cc in omega arith
fields_some b (h ∷ []) e = let z : ◌≡◌ {A = ℕ} 0 1 = cc in omega arith
fields_some b (h ∷ l ∷ s) e =
    decide (leb (h * 256 + l) (length s))
    (λ q. let y : _ = simp q at e in let z : ◌≡◌ {A = ℕ} 0 1 = cc in omega arith)
    (λ q. let y : _ = simp q at e in let z : ◌≡◌ {A = ℕ} 0 1 = cc in omega arith)

-- ---- what is written is read back

pub fields_field : (f : Field) (rest : List ℕ) → length f.value < 65536 → fields (field_bytes f ++ rest) ≡ next f (fields rest)
fields_field f rest h =
    let n = length f.value in
    let s = field_bytes f ++ rest in
    let size : u16_at s 1 ≡ n = u16_back n h in
    let long = length-append f.value rest in
    fields_next s (omega arith) ∙ rw (size, ← drop-drop n 3 s, take-append_seam f.value rest, drop-append_seam f.value rest)

pub fields_of : (fs : List Field) → Each (λ (f : Field). length f.value < 65536) fs
    → (complete (fields (fields_bytes fs)) ≡ true) × (listed (fields (fields_bytes fs)) ≡ fs)
unfolding complete listed
fields_of [] h = rw (fields_end [] refl) (refl, refl)
fields_of (f ∷ fs) (h, hs) =
    let (whole, list) = fields_of fs hs in
    rw (fields_field f (fields_bytes fs) h) (whole, ap (λ gs. f ∷ gs) list)

-- ---- what is read is written back

pub bytes_take : (n : ℕ) (s : List ℕ) → Bytes s → Bytes (take n s)
bytes_take zero s h = tt
bytes_take (suc n) [] h = tt
bytes_take (suc n) (b ∷ s) (h, hs) = (h, bytes_take n s hs)

pub bytes_drop : (n : ℕ) (s : List ℕ) → Bytes s → Bytes (drop n s)
bytes_drop zero s h = h
bytes_drop (suc n) [] h = h
bytes_drop (suc n) (b ∷ s) (h, hs) = bytes_drop n s hs

-- a field of bytes
abbrev pub Fits : Field → Type 0
Fits f = (f.tag < 256) × Bytes f.value × (length f.value < 65536)

-- the fields are fields of bytes and written are s
abbrev Whole : List ℕ → Fields → Type 0
Whole s fs = (fields_bytes (listed fs) ≡ s) × Each Fits (listed fs)

whole_next : (t h l : ℕ) (s : List ℕ) (fs : Fields) → Bytes (t ∷ h ∷ l ∷ s) → h * 256 + l ≤ length s → Whole (drop (h * 256 + l) s) fs
    → Whole (t ∷ h ∷ l ∷ s) (next (record { tag = t; value = take (h * 256 + l) s }) fs)
unfolding listed
whole_next t h l s fs (bt, (bh, (bl, bs))) room (back, fit) =
    let n = h * 256 + l in
    let size = length-take-le n s room in
    let (high, low) = u16_bytes h l bh bl in
    (rw (size, high, low, back, take-append-drop n s), ((bt, bytes_take n s bs, omega arith), fit))

split_bytes : (k : ℕ) (s : List ℕ) → length s ≤ k → Bytes s → complete (split k s) ≡ true → Whole s (split k s)
unfolding split complete listed
split_bytes zero [] p b c = (refl, tt)
split_bytes zero (x ∷ s) p b c = absurd (omega arith)
split_bytes (suc k) [] p b c = (refl, tt)
split_bytes (suc k) (t ∷ []) p b c = absurd (false≢true c)
split_bytes (suc k) (t ∷ h ∷ []) p b c = absurd (false≢true c)
split_bytes (suc k) (t ∷ h ∷ l ∷ s) p b c =
    let n = h * 256 + l in
    let e = length-drop n s in
    decide (leb n (length s))
    (λ q. rw q (whole_next t h l s (split k (drop n s)) b (leb-true _ _ q)
    (split_bytes k (drop n s) (omega arith) (bytes_drop n s b.1.1.1) (rw q at c))))
    (λ q. absurd (false≢true (rw q at c)))

pub bytes_of : (s : List ℕ) → Bytes s → complete (fields s) ≡ true
    → (fields_bytes (listed (fields s)) ≡ s) × Each (λ (f : Field). (f.tag < 256) × Bytes f.value × (length f.value < 65536)) (listed (fields s))
unfolding fields
bytes_of s b c = split_bytes (length s) s (omega arith) b c

-- ---- a field, by its tag and the bytes of its value

pub field_is : (f : Field) (t : ℕ) (v : List ℕ) → f.tag ≡ t → f.value ≡ v → record { tag = t; value = v } ≡ f
field_is f t v p q = λ i. record { tag = sym p i; value = sym q i }

-- a list, by its bytes
pub list_of : (s : List ℕ) (n : ℕ) → length s ≡ n → s ≡ tabulate (λ (i : ℕ). get_or s i 0) 0 n
list_of s n e =
    let size = length_tabulate (λ (i : ℕ). get_or s i 0) 0 n in
    ext_get_or 0 s (tabulate (λ (i : ℕ). get_or s i 0) 0 n) (e ∙ sym size)
    (λ i lt. sym (tabulate_at (λ (j : ℕ). get_or s j 0) 0 n i (omega arith)))

pub byte_at_lem : (s : List ℕ) → Bytes s → (i : ℕ) → get_or s i 0 < 256
byte_at_lem [] h i = omega arith
byte_at_lem (b ∷ s) (h, hs) zero = h
byte_at_lem (b ∷ s) (h, hs) (suc i) = byte_at_lem s hs i

pub u16_below : (s : List ℕ) → Bytes s → (i : ℕ) → u16_at s i < 65536
u16_below s h i = omega (arith, byte_at_lem s h i, byte_at_lem s h (i + 1))

pub put16_at : (s : List ℕ) → Bytes s → (i : ℕ) → put16 (u16_at s i) ≡ get_or s i 0 ∷ get_or s (i + 1) 0 ∷ []
put16_at s h i = let (high, low) = u16_bytes (get_or s i 0) (get_or s (i + 1) 0) (byte_at_lem s h i) (byte_at_lem s h (i + 1)) in rw (high, low)

-- a number's four bytes, from the number
pub u32_bytes : (a b c d : ℕ) → a < 256 → b < 256 → c < 256 → d < 256
    → put32 ((a * 256 + b) * 65536 + (c * 256 + d)) ≡ a ∷ b ∷ c ∷ d ∷ []
u32_bytes a b c d p q r s =
    let n = (a * 256 + b) * 65536 + (c * 256 + d) in
    let first : n / 65536 / 256 % 256 ≡ a = omega arith in
    let second : n / 65536 % 256 ≡ b = omega arith in
    let third : n / 256 % 256 ≡ c = omega arith in
    let fourth : n % 256 ≡ d = omega arith in
    rw (first, second, third, fourth)
