-- A format has one float of a sign and a size.
-- Assumes nothing.
use mathlib.Core.Path.{◌≡◌, sym, ap, ◌∙◌}
use Prim.Native.Nat.{ℕ, ◌+◌, ◌-◌, ◌*◌, ◌/◌, ◌^◌, ◌<◌}
use native.Mathlib.Nat.{mul_right_comm}
use mathlib.Core.Bool.{Bool, cond}
use lib.Dec.{T}
use lib.Ieee.{Float, nan, inf, fin, Format, prec, low, up, down, size, hid, top, fits, of_bits, to_bits}
use lib.Ieee.Fits.{down_pos}
use lib.Ieee.Exact.{HasValue}
use lib.Ieee.Nearest.{div_same}
use lib.Ieee.Bits.{of_bits-to_bits}

-- the bit pattern of the sign s and n of the format's smallest values
abbrev pattern : Format → Bool → ℕ → ℕ
pattern f s n = cond s (top f) 0 + (size n - prec f) * hid f + n / 2 ^ (size n - prec f)

-- a float's pattern comes from its sign and size alone
pattern_is : (f : Format) (x : Float) (s : Bool) (a c : ℕ) → 0 < c → HasValue x s a c → to_bits f x ≡ pattern f s (a * 2 ^ low f / c)
unfolding to_bits
pattern_is f nan s a c p v = absurd v
pattern_is f (inf t) s a c p v = absurd v
pattern_is f (fin t m e) s a c p v =
    let w = 2 ^ low f in
    let same : m * up e * w * c ≡ a * w * down e = mul_right_comm (m * up e) w c ∙ ap (λ (z : ℕ). z * w) v.1 ∙ mul_right_comm a (down e) w in
    ap (λ (z : Bool). pattern f z (m * up e * w / down e)) v.0
    ∙ ap (λ (n : ℕ). pattern f s n) (div_same (m * up e * w) (down e) (a * w) c (down_pos e) p same)

pub one_float : (f : Format) (x y : Float) (s : Bool) (a c : ℕ) → 0 < c → T (fits f x) → T (fits f y) → HasValue x s a c → HasValue y s a c → x ≡ y
one_float f x y s a c p hx hy v w =
    sym (of_bits-to_bits f x hx) ∙ ap (λ (n : ℕ). of_bits f n) (pattern_is f x s a c p v ∙ sym (pattern_is f y s a c p w)) ∙ of_bits-to_bits f y hy
