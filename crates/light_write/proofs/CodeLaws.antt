-- Laws of codes and of their bytes.
-- Assumes nothing.
use Prim.Native.Nat.{ℕ, zero, suc, ◌+◌, ◌*◌, ◌-◌, ◌≤◌, ◌<◌}
use native.Mathlib.Omega.{arith}
use native.Mathlib.Numerals.{add-one}
use mathlib.Core.Path.{◌≡◌, refl, sym, ap, ap₂, ◌∙◌}
use mathlib.Core.List.{List, [], ◌∷◌, ◌++◌}
use borrow.Author.Tests.{lt-ltb, le-ltb}
use lib.ListN.{length, get_or, take, length-append}
use lib.Seq.{paste-zero, get_or-take, length-take-le}
use Rattle.meaning.specs.Plan.{Step, wait, move}
use Rattle.meaning.specs.Fields.{field_bytes}
use Rattle.meaning.specs.Light.{Light, light_head, step_field, encode}
use Rattle.meaning.specs.Calls.{over}
use Rattle.light.specs.Sizes.{first_step, step_length, light_length}
use Rattle.light_fields.specs.Areas.{placed}
use Rattle.light_fields.proofs.AreaLaws.{placed_before, placed_front}
use Rattle.light_write.specs.Codes.{first_move, step_of_code, steps_in, step_bytes}

-- ---- codes

pub code_wait : (c : ℕ) → c < first_move → wait c ≡ step_of_code c
unfolding step_of_code
code_wait c h = simp (lt-ltb c first_move h)

pub code_move : (c : ℕ) → first_move ≤ c → move (c - first_move) ≡ step_of_code c
unfolding step_of_code
code_move c h = simp (le-ltb c first_move h)

pub steps_more : (path : List ℕ) (c : ℕ) → steps_in path (c + 1) ≡ step_of_code (get_or path c 0) ∷ steps_in path c
unfolding steps_in
steps_more path c = rw (add-one c)

pub length_steps : (path : List ℕ) (c : ℕ) → length (steps_in path c) ≡ c
unfolding steps_in
length_steps path zero = refl
length_steps path (suc c) = ap suc (length_steps path c)

-- the codes of a stack's front are the first of the whole
steps_front : (path : List ℕ) (n c : ℕ) → c ≤ n → steps_in (take n path) c ≡ steps_in path c
unfolding steps_in
steps_front path n zero le = refl
steps_front path n (suc c) le =
    ap₂ (λ (x : ℕ) (ps : List Step). step_of_code x ∷ ps) (get_or-take n path c 0 (omega arith)) (steps_front path n c (omega arith))

pub steps_of_front : (path : List ℕ) (c : ℕ) → c ≤ length path → steps_in (take c path) (length (take c path)) ≡ steps_in path c
steps_of_front path c le = ap (steps_in (take c path)) (length-take-le c path le) ∙ steps_front path c c (omega arith)

-- ---- bytes

length_step : (p : Step) → length (field_bytes (step_field p)) ≡ step_length
length_step (wait n) = refl
length_step (move m) = refl

length_bytes : (ps : List Step) → length (step_bytes ps) ≡ step_length * length ps
length_bytes [] = refl
length_bytes (p ∷ ps) =
    length-append (field_bytes (step_field p)) (step_bytes ps) ∙ omega (arith, length_step p, length_bytes ps)

-- the first i codes are written from `at` on, up to the place `end`
pub record Written (path area out : List ℕ) (end i at : ℕ) : Type 0 where
  pub place : at + step_length * i ≡ end
  pub same : length out ≡ length area
  pub bytes : out ≡ placed at (step_bytes (steps_in path i)) area

pub written_none : (path area : List ℕ) (end at : ℕ) → at ≡ end → Written path area area end 0 at
unfolding steps_in
written_none path area end at e = record { place = omega arith; same = refl; bytes = paste-zero area at [] }

pub written_more : (path area out out' : List ℕ) (end i at : ℕ) → end ≤ length area → step_length ≤ at → Written path area out end i at
    → length out' ≡ length out → out' ≡ placed (at - step_length) (field_bytes (step_field (step_of_code (get_or path i 0)))) out
    → Written path area out' end (i + 1) (at - step_length)
written_more path area out out' end i at long far w kept put =
    let p : Step = step_of_code (get_or path i 0) in
    let ps : List Step = steps_in path i in
    let size : length (step_bytes ps) ≡ step_length * i = length_bytes ps ∙ ap (λ (n : ℕ). step_length * n) (length_steps path i) in
    record {
      place = omega (arith, w.place);
      same = kept ∙ w.same;
      bytes =
          put
          ∙ ap (placed (at - step_length) (field_bytes (step_field p))) w.bytes
          ∙ placed_before (at - step_length) at (field_bytes (step_field p)) (step_bytes ps) area (omega (arith, length_step p)) (omega (arith, w.place))
          ∙ ap (λ (qs : List Step). placed (at - step_length) (step_bytes qs) area) (sym (steps_more path i));
    }

pub written_all : (path area out : List ℕ) (end i at count : ℕ) → i ≡ count → end ≡ light_length count → Written path area out end i at
    → out ≡ placed first_step (step_bytes (steps_in path count)) area
written_all path area out end i at count done last w =
    let front : at ≡ first_step = omega (arith, w.place) in
    w.bytes ∙ ap (λ (a : ℕ). placed a (step_bytes (steps_in path i)) area) front ∙ ap (λ (n : ℕ). placed first_step (step_bytes (steps_in path n)) area) done

-- a head written after its steps makes the light
pub light_written : (l : Light) (count : ℕ) (area out : List ℕ) → length l.steps ≡ count → light_length count ≤ length area
    → out ≡ placed first_step (step_bytes l.steps) area → over (field_bytes (light_head l)) out ≡ over (encode l) area
unfolding encode
light_written l count area out many room e =
    let head = field_bytes (light_head l) in
    let steps = step_bytes l.steps in
    let fits : first_step + length steps ≤ length area = omega (arith, length_bytes l.steps, ap (λ (n : ℕ). step_length * n) many) in
    ap (over head) e ∙ placed_before 0 first_step head steps area refl fits ∙ placed_front (head ++ steps) area
