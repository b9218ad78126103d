-- The light: what is written is read back, and what is read keeps the layout and is written back.
-- Assumes nothing.
use Prim.Native.Nat.{ℕ, zero, suc, ◌+◌, ◌*◌, ◌≤◌, ◌<◌}
use native.Mathlib.Omega.{arith}
use mathlib.Core.Path.{◌≡◌, refl, sym, ap, ap₂, ◌∙◌}
use mathlib.Core.Bool.{Bool, true, false, not, ◌&&◌, ◌||◌, false≢true}
use mathlib.Core.Option.{some}
use mathlib.Core.List.{List, [], ◌∷◌, ◌++◌, map}
use lib.Dec.{eqb}
use lib.ListN.{length, get_or, drop}
use borrow.Author.Tests.{le-leb, leb-true, eqb-true}
use Rattle.meaning.specs.Limits.{light_limit, light_tag, wait_tag, move_tag, field_header, light_head_size, step_size}
use Rattle.meaning.specs.Basics.{Each, Bytes, is_zero, u16_at, u32_at, put16, put32}
use Rattle.meaning.specs.Fields.{Field, no_field, fields, complete, listed, fields_bytes}
use Rattle.meaning.specs.Plan.{Step, wait, move}
use Rattle.meaning.specs.Light.{Light, light_head, step_field, encode, step_of, light_head_of, step_fields, light_of}
use Rattle.meaning.specs.Light.{is_light_head, is_wait, is_move, in_layout, is_light, decode}
use Rattle.meaning.specs.WellFormed.{InLayout, KeepsLayout}
use Rattle.meaning.specs.Laws.{LightsRight}
use Rattle.meaning.proofs.BasicsLaws.{and_left, and_right, every_at, every_nil, every_cons, decide, when_test, when_value}
use Rattle.meaning.proofs.BasicsLaws.{not_zero, u16_back, u32_back}
use Rattle.meaning.proofs.FieldsLaws.{fields_of, bytes_of, Fits, field_is, list_of, byte_at_lem, u16_below, put16_at, u32_bytes}

-- ---- sizes

length_steps : (ps : List Step) → length (fields_bytes (map step_field ps)) ≡ 5 * length ps
length_steps [] = refl
length_steps (wait n ∷ ps) = let ih = length_steps ps in omega arith
length_steps (move m ∷ ps) = let ih = length_steps ps in omega arith

pub length_encode : (l : Light) → length (encode l) ≡ (field_header + light_head_size) + (field_header + step_size) * length l.steps
unfolding encode
length_encode l = let e = length_steps l.steps in omega arith

-- ---- what is written is read back

steps_small : (ps : List Step) → Each (λ (f : Field). length f.value < 65536) (map step_field ps)
steps_small [] = tt
steps_small (wait n ∷ ps) = (omega arith, steps_small ps)
steps_small (move m ∷ ps) = (omega arith, steps_small ps)

steps_read : (may_wait : Bool) (ps : List Step) → InLayout may_wait ps
    → (in_layout may_wait (map step_field ps) ≡ true) × (map step_of (map step_field ps) ≡ ps)
unfolding in_layout is_move is_wait
steps_read may_wait [] h = (refl, refl)
steps_read may_wait (wait n ∷ ps) (may, pos, fits, rest) =
    let (laid, same) = steps_read false ps rest in
    (simp (may, u16_back n fits, not_zero n pos, laid), rw (u16_back n fits, same))
steps_read may_wait (move m ∷ ps) (fits, rest) =
    let (laid, same) = steps_read true ps rest in
    (laid, rw (u16_back m fits, same))

-- the fields of a light's bytes
encode_fields : (l : Light) → (complete (fields (encode l)) ≡ true) × (listed (fields (encode l)) ≡ light_head l ∷ map step_field l.steps)
unfolding encode
encode_fields l = fields_of (light_head l ∷ map step_field l.steps) (omega arith, steps_small l.steps)

is_light_lem : (l : Light) → KeepsLayout l → is_light (encode l) ≡ true
unfolding is_light is_light_head
is_light_lem l k =
    let size = length_encode l in
    let (whole, list) = encode_fields l in
    let (laid, same) = steps_read true l.steps k.laid_out in
    rw list (every_cons _ _ (le-leb (length (encode l)) light_limit (omega arith))
    (every_cons _ _ whole (every_cons _ _ refl (every_cons _ _ laid every_nil))))

light_of_lem : (l : Light) → KeepsLayout l → light_of (encode l) ≡ l
unfolding light_of
light_of_lem l k =
    let (whole, list) = encode_fields l in
    let (laid, same) = steps_read true l.steps k.laid_out in
    rw (
      list,
      same,
      u32_back l.edition (omega arith),
      u16_back l.start k.start_fits,
      u16_back l.tick k.tick_fits,
      u16_back l.goal k.goal_fits,
      u16_back l.arrival k.arrival_fits,
      u16_back l.dwell k.dwell_fits,
    )

pub decode_encode : (l : Light) → KeepsLayout l → decode (encode l) ≡ some l
unfolding decode
decode_encode l k = rw (is_light_lem l k, light_of_lem l k)

-- ---- what is read

pub decode_some : (bytes : List ℕ) (l : Light) → decode bytes ≡ some l → (is_light bytes ≡ true) × (light_of bytes ≡ l)
unfolding decode
decode_some bytes l h =
    let test = when_test (is_light bytes) (some (light_of bytes)) h in
    let value = when_value (is_light bytes) (some (light_of bytes)) h in
    (test, cc)

pub light_decode : (bytes : List ℕ) → is_light bytes ≡ true → decode bytes ≡ some (light_of bytes)
unfolding decode
light_decode bytes h = rw h

-- ---- the tests of a field, as facts

pub head_tests : (f : Field) → is_light_head f ≡ true → (f.tag ≡ light_tag) × (length f.value ≡ light_head_size)
unfolding is_light_head
head_tests f h = (
  eqb-true _ _ (and_left (eqb f.tag light_tag) (eqb (length f.value) light_head_size) h),
  eqb-true _ _ (and_right (eqb f.tag light_tag) (eqb (length f.value) light_head_size) h),
)

pub move_tests : (f : Field) → is_move f ≡ true → (f.tag ≡ move_tag) × (length f.value ≡ step_size)
unfolding is_move
move_tests f h = (
  eqb-true _ _ (and_left (eqb f.tag move_tag) (eqb (length f.value) step_size) h),
  eqb-true _ _ (and_right (eqb f.tag move_tag) (eqb (length f.value) step_size) h),
)

not_is_zero : (n : ℕ) → not (is_zero n) ≡ true → 1 ≤ n
not_is_zero zero h = absurd (false≢true h)
not_is_zero (suc n) h = omega arith

pub wait_tests : (f : Field) → is_wait f ≡ true → (f.tag ≡ wait_tag) × (length f.value ≡ step_size) × (1 ≤ u16_at f.value 0)
unfolding is_wait
wait_tests f h =
    let a = eqb f.tag wait_tag in
    let b = eqb (length f.value) step_size in
    let c = not (is_zero (u16_at f.value 0)) in
    let ab = and_left (a && b) c h in
    (eqb-true _ _ (and_left a b ab), eqb-true _ _ (and_right a b ab), not_is_zero _ (and_right (a && b) c h))

-- ---- what is read is written back

step_value : (v : List ℕ) → Bytes v → length v ≡ step_size → v ≡ put16 (u16_at v 0)
step_value v b e = list_of v 2 e ∙ sym (put16_at v b 0)

-- a step
move_back : (f : Field) → Bytes f.value → is_move f ≡ true
    → (step_of f ≡ move (u16_at f.value 0)) × (step_field (move (u16_at f.value 0)) ≡ f)
move_back f b h =
    let (tag_is, size) = move_tests f h in
    (rw tag_is, field_is f _ _ tag_is (step_value f.value b size))

wait_back : (f : Field) → Bytes f.value → is_wait f ≡ true
    → (step_of f ≡ wait (u16_at f.value 0)) × (step_field (wait (u16_at f.value 0)) ≡ f) × (1 ≤ u16_at f.value 0)
wait_back f b h =
    let (tag_is, size, pos) = wait_tests f h in
    (rw tag_is, field_is f _ _ tag_is (step_value f.value b size), pos)

steps_back : (may_wait : Bool) (fs : List Field) → Each Fits fs → in_layout may_wait fs ≡ true
    → (map step_field (map step_of fs) ≡ fs) × InLayout may_wait (map step_of fs)
unfolding in_layout
steps_back may_wait [] fit h = (refl, tt)
steps_back may_wait (f ∷ fs) (fit, fits) h =
    let first = and_left (is_move f || (may_wait && is_wait f)) (in_layout (is_move f) fs) h in
    let later = and_right (is_move f || (may_wait && is_wait f)) (in_layout (is_move f) fs) h in
    let below = u16_below f.value fit.1 0 in
    decide (is_move f)
    (λ e.
    let (step, back) = move_back f fit.1 e in
    let (same, laid) = steps_back true fs fits (rw e at later) in
    rw step (rw (back, same), (below, laid)))
    (λ e.
    let waits = rw e at first in
    let (step, back, pos) = wait_back f fit.1 (and_right may_wait (is_wait f) waits) in
    let (same, laid) = steps_back false fs fits (rw e at later) in
    rw step (rw (back, same), (and_left may_wait (is_wait f) waits, pos, below, laid)))

-- the head
join : {a b c d : List ℕ} → a ≡ b → c ≡ d → a ++ c ≡ b ++ d
join p q = ap₂ {A = List ℕ} {B = List ℕ} {C = List ℕ} (λ x y. x ++ y) p q

head_value : (v : List ℕ) → Bytes v → length v ≡ light_head_size
    → v ≡ put32 (u32_at v 0) ++ (get_or v 4 0 ∷ (put16 (u16_at v 5) ++ (put16 (u16_at v 7) ++ (put16 (u16_at v 9) ++ (put16 (u16_at v 11) ++ put16 (u16_at v 13))))))
head_value v b e =
    let at = byte_at_lem v b in
    let later = join (put16_at v b 5) (join (put16_at v b 7) (join (put16_at v b 9) (join (put16_at v b 11) (put16_at v b 13)))) in
    list_of v light_head_size e
    ∙ sym (join (u32_bytes (get_or v 0 0) (get_or v 1 0) (get_or v 2 0) (get_or v 3 0) (at 0) (at 1) (at 2) (at 3)) (ap (λ (r : List ℕ). get_or v 4 0 ∷ r) later))

-- the first field is there
head_there : (fs : List Field) → is_light_head (get_or fs 0 no_field) ≡ true → fs ≡ get_or fs 0 no_field ∷ drop 1 fs
unfolding is_light_head
head_there [] h = absurd (false≢true h)
head_there (f ∷ fs) h = refl

-- the whole light
light_back : (bytes : List ℕ) → Bytes bytes → is_light bytes ≡ true → KeepsLayout (light_of bytes) × (encode (light_of bytes) ≡ bytes)
unfolding is_light light_of encode
light_back bytes b h =
    let small = leb-true (length bytes) light_limit (every_at _ h 0) in
    let head_good_lem = every_at _ h 2 in
    let (written, fit) = bytes_of bytes b (every_at _ h 1) in
    let list = head_there (listed (fields bytes)) head_good_lem in
    let fits : Each Fits (light_head_of bytes ∷ step_fields bytes) = rw list at fit in
    let v = (light_head_of bytes).value in
    let vb = fits.0.1 in
    let (tag_is, size) = head_tests (light_head_of bytes) head_good_lem in
    let (same, laid) = steps_back true (step_fields bytes) fits.1 (every_at _ h 3) in
    let head = field_is (light_head_of bytes) _ _ tag_is (head_value v vb size) in
    let back : encode (light_of bytes) ≡ bytes = ap fields_bytes (ap₂ (λ (g : Field) (gs : List Field). g ∷ gs) head same ∙ sym list) ∙ written in
    let long = length_encode (light_of bytes) in
    let e = ap length back in (
      record {
        edition_fits = omega (arith, u16_below v vb 0, u16_below v vb 2);
        tug_fits = byte_at_lem v vb 4;
        start_fits = u16_below v vb 5;
        tick_fits = u16_below v vb 7;
        goal_fits = u16_below v vb 9;
        arrival_fits = u16_below v vb 11;
        dwell_fits = u16_below v vb 13;
        laid_out = laid;
        short = omega arith;
      },
      back,
    )

pub lights_right : LightsRight
lights_right =
    record {
      read_back = decode_encode;
      only_those = λ bytes l b h.
          let (test, same) = decode_some bytes l h in
          rw same at (light_back bytes b test);
    }
