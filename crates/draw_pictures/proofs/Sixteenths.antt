-- Exact arithmetic of 32-bit floats on sixteenths: a sum, a difference and a product is exact where it comes to fewer than 2 ^ 24 of them.
-- Assumes nothing.
use mathlib.Core.Path.{◌≡◌, refl, sym, ap, ◌∙◌, subst}
use mathlib.Core.Bool.{Bool, true, false, true≢false}
use Prim.Native.Nat.{ℕ, ◌+◌, ◌-◌, ◌*◌, ◌^◌, ◌≤◌, ◌<◌}
use native.Mathlib.Nat.{mul_comm, mul_assoc, mul_right_comm, add-mul, mul-pos, mul-le-mul, mul-le-mul_right, mul-mul-mul_comm, eq_of_mul-eq-mul_right, lt_of_lt_of_le}
use native.Mathlib.Omega.{arith}
use lib.Dec.{lit<, lit≤}
use lib.IntN.{ℤ}
use lib.Pow.{shl_lt}
use lib.Ieee.{Float, nan, inf, fin, binary32, unlike, up, down, round, neg, sum, add, sub, mul, of_int, of_bits}
use lib.Ieee.Fits.{down_pos}
use lib.Ieee.Exact.{HasValue, round_exact}
use lib.Ieee.Back.{round_whole}
use borrow.Author.Tests.{le-ltb, lt-ltb}
use Rattle.draw_pictures.specs.Floats.{float, sixteenth, sixteenths, drawn}

-- x is finite, has the sign s and is a / 16 in size
abbrev pub Is16 : Float → Bool → ℕ → Type 0
Is16 x s a = HasValue x s a 16

-- from one fraction to another of the same size
pub rescale : (x : Float) (s : Bool) (w l num den : ℕ) → 0 < l → num * l ≡ w * den → HasValue x s w l → HasValue x s num den
rescale nan s w l num den p h v = v
rescale (inf t) s w l num den p h v = v
rescale (fin t m e) s w l num den p h v = (
  v.0,
  eq_of_mul-eq-mul_right l p (m * up e * den) (num * down e)
      (mul_right_comm (m * up e) den l
      ∙ ap (λ (x : ℕ). x * den) v.1
      ∙ mul_right_comm w (down e) den
      ∙ ap (λ (x : ℕ). x * down e) (sym h)
      ∙ mul_right_comm num l (down e)),
)

-- a fraction that is a / 16, with a below 2 ^ 24, is not changed by `round`
round16 : (s : Bool) (num den a : ℕ) → 0 < den → a < 2 ^ 24 → num * 16 ≡ a * den → HasValue (round binary32 s num den) s a 16
round16 s num den a dp small h =
    let e : num * 2 ^ 149 ≡ a * 2 ^ 145 * den = sym (mul_assoc num 16 (2 ^ 145)) ∙ ap (λ (x : ℕ). x * 2 ^ 145) h ∙ mul_right_comm a den (2 ^ 145) in
    let fine : a * 2 ^ 145 < 2 ^ 277 = lt_of_lt_of_le (shl_lt 24 145 small) (lit≤ tt) in
    rescale (round binary32 s num den) s num den a 16 dp (sym h) (round_exact binary32 s num den a 145 dp small fine e)

-- X / u is a / 16, so X * v / (u * v) is
wider : (X u v a : ℕ) → X * 16 ≡ a * u → X * v * 16 ≡ a * (u * v)
wider X u v a h = mul_right_comm X v 16 ∙ ap (λ (x : ℕ). x * v) h ∙ mul_assoc a u v

wider' : (X u v a : ℕ) → X * 16 ≡ a * u → X * v * 16 ≡ a * (v * u)
wider' X u v a h = wider X u v a h ∙ ap (λ (x : ℕ). a * x) (mul_comm u v)

-- numerators over one denominator C are in the order of the sixteenths
order : (A B C a b : ℕ) → A * 16 ≡ a * C → B * 16 ≡ b * C → a ≤ b → A ≤ B
order A B C a b p q h = omega (arith, mul-le-mul_right C h)

order_lt : (A B C a b : ℕ) → A * 16 ≡ a * C → B * 16 ≡ b * C → 0 < C → a + 1 ≤ b → A < B
order_lt A B C a b p q c h = omega (arith, mul-le-mul_right C h, add-mul a 1 C)

-- a law of two floats of the signs s and t holds where it holds for finite ones
finite : (s t : Bool) (P : Float → Float → ℕ → ℕ → Type 0)
    → ((m : ℕ) (e : ℤ) (n : ℕ) (d : ℤ) (a b : ℕ) → m * up e * 16 ≡ a * down e → n * up d * 16 ≡ b * down d → P (fin s m e) (fin t n d) a b)
    → (x y : Float) (a b : ℕ) → Is16 x s a → Is16 y t b → P x y a b
finite s t P g nan y a b p q = absurd p
finite s t P g (inf r) y a b p q = absurd p
finite s t P g (fin r m e) nan a b p q = absurd q
finite s t P g (fin r m e) (inf u) a b p q = absurd q
finite s t P g (fin r m e) (fin u n d) a b p q =
    subst (λ (z : Bool). P (fin z m e) (fin u n d) a b) (sym p.0) (subst (λ (z : Bool). P (fin s m e) (fin z n d) a b) (sym q.0) (g m e n d a b p.1 q.1))

-- ---- sums

-- a law of their sum holds where it holds for two fractions A / C and B / C
added : (s t : Bool) (P : Float → ℕ → ℕ → Type 0)
    → ((A B C a b : ℕ) → 0 < C → A * 16 ≡ a * C → B * 16 ≡ b * C → P (sum binary32 s A t B C) a b)
    → (x y : Float) (a b : ℕ) → Is16 x s a → Is16 y t b → P (add binary32 x y) a b
unfolding add
added s t P g = finite s t (λ x y a b. P (add binary32 x y) a b) (λ m e n d a b p q.
    g (m * up e * down d) (n * up d * down e) (down e * down d) a b (mul-pos (down_pos e) (down_pos d))
    (wider (m * up e) (down e) (down d) a p) (wider' (n * up d) (down d) (down e) b q))

-- two that are not negative
add_pp : (x y : Float) (a b : ℕ) → Is16 x false a → Is16 y false b → a + b < 2 ^ 24 → Is16 (add binary32 x y) false (a + b)
unfolding sum
add_pp = added false false (λ z a b. a + b < 2 ^ 24 → Is16 z false (a + b)) (λ A B C a b c p q h.
    round16 false (A + B) C (a + b) c h (omega (arith, add-mul a b C)))

-- one that is not negative and a negative one that is no larger
add_pn : (x y : Float) (a b : ℕ) → Is16 x false a → Is16 y true b → (r : ℕ) → r + b ≡ a → r < 2 ^ 24 → Is16 (add binary32 x y) false r
unfolding sum
add_pn = added false true (λ z a b. (r : ℕ) → r + b ≡ a → r < 2 ^ 24 → Is16 z false r) (λ A B C a b c p q r k h.
    let ka : (r + b) * C ≡ a * C = ap (λ (z : ℕ). z * C) k in
    let le : B ≤ A = order B A C b a q p (omega arith) in
    rw (le-ltb A B le) (round16 false (A - B) C r c h (omega (arith, add-mul r b C))))

-- one that is not negative and a negative one that is larger
add_np : (x y : Float) (a b : ℕ) → Is16 x false a → Is16 y true b → (r : ℕ) → r + a ≡ b → 0 < r → r < 2 ^ 24 → Is16 (add binary32 x y) true r
unfolding sum
add_np = added false true (λ z a b. (r : ℕ) → r + a ≡ b → 0 < r → r < 2 ^ 24 → Is16 z true r) (λ A B C a b c p q r k l h.
    let ka : (r + a) * C ≡ b * C = ap (λ (z : ℕ). z * C) k in
    let lt : A < B = order_lt A B C a b p q c (omega arith) in
    rw (lt-ltb A B lt) (round16 true (B - A) C r c h (omega (arith, add-mul r a C))))

neg16 : (y : Float) (b : ℕ) → Is16 y false b → Is16 (neg y) true b
unfolding neg
neg16 nan b q = absurd q
neg16 (inf t) b q = absurd q
neg16 (fin true n d) b q = absurd (true≢false q.0)
neg16 (fin false n d) b q = (refl, q.1)

-- ---- products: c sixteenths, where a * b is 16 * c

mul16 : (X Y u v a b c : ℕ) → X * 16 ≡ a * u → Y * 16 ≡ b * v → a * b ≡ c * 16 → X * Y * 16 ≡ c * (u * v)
mul16 X Y u v a b c p q k =
    eq_of_mul-eq-mul_right 16 (lit< tt) (X * Y * 16) (c * (u * v))
    (mul_assoc (X * Y) 16 16 ∙ mul-mul-mul_comm X Y 16 16 ∙ ap (λ (z : ℕ). z * (Y * 16)) p ∙ ap (λ (z : ℕ). a * u * z) q
    ∙ mul-mul-mul_comm a u b v ∙ ap (λ (z : ℕ). z * (u * v)) k ∙ mul_right_comm c 16 (u * v))

multiplied : (s t : Bool) (x y : Float) (a b : ℕ) → Is16 x s a → Is16 y t b → (c : ℕ) → a * b ≡ c * 16 → c < 2 ^ 24 → Is16 (mul binary32 x y) (unlike s t) c
unfolding mul
multiplied s t = finite s t (λ x y a b. (c : ℕ) → a * b ≡ c * 16 → c < 2 ^ 24 → Is16 (mul binary32 x y) (unlike s t) c) (λ m e n d a b p q c k h.
    round16 (unlike s t) (m * up e * (n * up d)) (down e * down d) c (mul-pos (down_pos e) (down_pos d)) h
    (mul16 (m * up e) (n * up d) (down e) (down d) a b c p q k))

-- ---- a whole number, the constant 0.0625, and their product

pub whole16 : (n : ℕ) → n < 2 ^ 20 → Is16 (float n) false (n * 16)
unfolding of_int
whole16 n h = rescale (round binary32 false n 1) false n 1 (n * 16) 16 (lit< tt) (omega arith) (round_whole binary32 false n (omega arith))

one_sixteenth : Is16 sixteenth false 1
unfolding of_bits
one_sixteenth = (refl, refl)

pub value16 : (n : ℕ) → n < 2 ^ 20 → Is16 (sixteenths n) false n
value16 n h = multiplied false false (float n) sixteenth (n * 16) 1 (whole16 n h) one_sixteenth n (omega arith) (omega arith)

-- ---- the operations of a drawn coordinate

module _ (x y : ℕ) (hx : x < 65536) (hy : y < 65536) where
  abbrev diff : Float
  diff = sub binary32 (float y) (float x)

  pub diff_up : x ≤ y → Is16 diff false ((y - x) * 16)
  unfolding sub
  diff_up h = add_pn (float y) (neg (float x)) (y * 16) (x * 16) (whole16 y (omega arith)) (neg16 (float x) (x * 16) (whole16 x (omega arith))) ((y - x) * 16) (omega arith) (omega arith)

  pub diff_down : y < x → Is16 diff true ((x - y) * 16)
  unfolding sub
  diff_down h = add_np (float y) (neg (float x)) (y * 16) (x * 16) (whole16 y (omega arith)) (neg16 (float x) (x * 16) (whole16 x (omega arith))) ((x - y) * 16) (omega arith) (omega arith) (omega arith)

  module _ (k : ℕ) (hk : k ≤ 16) where
    abbrev prod : Float
    prod = mul binary32 (sixteenths k) diff

    -- k sixteenths of a difference d
    part : (d : ℕ) → d ≤ 65536 → k * d ≤ 16 * 65536
    part d h = mul-le-mul hk h

    prod_is : (s : Bool) (d : ℕ) → d ≤ 65536 → Is16 diff s (d * 16) → Is16 prod (unlike false s) (k * d)
    prod_is s d h v = multiplied false s (sixteenths k) diff k (d * 16) (value16 k (omega arith)) v (k * d) (sym (mul_assoc k d 16)) (omega (arith, part d h))

    pub prod_up : x ≤ y → Is16 prod false (k * (y - x))
    prod_up h = prod_is false (y - x) (omega arith) (diff_up h)

    pub prod_down : y < x → Is16 prod true (k * (x - y))
    prod_down h = prod_is true (x - y) (omega arith) (diff_down h)

    pub sum_up : x ≤ y → Is16 (drawn x y k) false (16 * x + k * (y - x))
    sum_up h =
        let d = y - x in
        let e : x * 16 + k * d ≡ 16 * x + k * d = omega arith in
        subst (λ (z : ℕ). Is16 (drawn x y k) false z) e
        (add_pp (float x) prod (x * 16) (k * d) (whole16 x (omega arith)) (prod_up h) (omega (arith, part d (omega arith))))

    pub sum_down : y < x → Is16 (drawn x y k) false (16 * x - k * (x - y))
    sum_down h =
        let d = x - y in
        let dl : d ≤ x = omega arith in
        let small : k * d ≤ 16 * x = mul-le-mul hk dl in
        add_pn (float x) prod (x * 16) (k * d) (whole16 x (omega arith)) (prod_down h) (16 * x - k * d) (omega arith) (omega arith)
