-- The theorems about places in 32-bit floats: one statement, proved in proofs/Theorems.antt. `HasValue r s a c` of lib.Ieee.Exact says
-- that the float r is finite, has the sign s (true is negative) and is a / c in size; `fits binary32 r` that 32 bits hold it.
-- Assumes nothing.
use Rattle.std.specs.Prelude.{ℕ, ◌+◌, ◌-◌, ◌*◌, ◌≤◌, ◌<◌, ◌≡◌, true, false, T}
use lib.Ieee.{Float, binary32, sub, mul, fits}
use Rattle.std.specs.Float.Ieee.Exact.{HasValue}
use Rattle.meaning.specs.Pictures.{between}
use Rattle.draw_pictures.specs.Floats.{float, sixteenths, drawn}

pub record FloatsRight : Type 0 where
  -- the float of n sixteenths is exactly n / 16, and no other float is, for every coordinate of a place
  pub value : (n : ℕ) → n ≤ 16 * 65535 → HasValue (sixteenths n) false n 16
  pub only : (n : ℕ) (x : Float) → n ≤ 16 * 65535 → T (fits binary32 x) → HasValue x false n 16 → x ≡ sixteenths n
  -- each operation is exact over whole numbers: the casts, the share, the difference, the product, the sum
  pub whole : (n : ℕ) → n < 65536 → HasValue (float n) false n 1
  pub share : (k : ℕ) → k ≤ 16 → HasValue (sixteenths k) false k 16
  pub ahead : (x y : ℕ) → x < 65536 → y < 65536 → x ≤ y → HasValue (sub binary32 (float y) (float x)) false (y - x) 1
  pub back : (x y : ℕ) → x < 65536 → y < 65536 → y < x → HasValue (sub binary32 (float y) (float x)) true (x - y) 1
  pub part_ahead : (x y k : ℕ) → x < 65536 → y < 65536 → k ≤ 16 → x ≤ y
      → HasValue (mul binary32 (sixteenths k) (sub binary32 (float y) (float x))) false (k * (y - x)) 16
  pub part_back : (x y k : ℕ) → x < 65536 → y < 65536 → k ≤ 16 → y < x
      → HasValue (mul binary32 (sixteenths k) (sub binary32 (float y) (float x))) true (k * (x - y)) 16
  -- sixteen times a drawn coordinate is 16 times the old one plus k times the difference
  pub sum_ahead : (x y k : ℕ) → x < 65536 → y < 65536 → k ≤ 16 → x ≤ y → HasValue (drawn x y k) false (16 * x + k * (y - x)) 16
  pub sum_back : (x y k : ℕ) → x < 65536 → y < 65536 → k ≤ 16 → y < x → HasValue (drawn x y k) false (16 * x - k * (x - y)) 16
  pub exact : (x y k : ℕ) → x < 65536 → y < 65536 → k ≤ 16 → drawn x y k ≡ sixteenths (between k x y)
  -- frames 0 and 16 sit on the centres
  pub first_frame : (x y : ℕ) → x < 65536 → y < 65536 → drawn x y 0 ≡ float x
  pub last_frame : (x y : ℕ) → x < 65536 → y < 65536 → drawn x y 16 ≡ float y
