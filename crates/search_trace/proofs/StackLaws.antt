-- The stack of codes: a code pushed is a step in front, and a wait on top grows.
-- Assumes nothing.
use Prim.Native.Nat.{ℕ, zero, suc, ◌+◌, ◌-◌, ◌≤◌, ◌<◌}
use native.Mathlib.Omega.{arith}
use native.Mathlib.Numerals.{add-one}
use mathlib.Core.Path.{◌≡◌, refl, sym, ap, ap₂, ◌∙◌}
use mathlib.Core.List.{List, ◌∷◌}
use lib.ListN.{length, get_or, set}
use lib.Seq.{get_or-set_same, get_or-set_other}
use Rattle.meaning.specs.Plan.{Step, wait, move}
use Rattle.meaning.specs.Reach.{wait_one}
use Rattle.light_write.specs.Codes.{step_of_code, steps_in}
use Rattle.light_write.proofs.CodeLaws.{code_wait, code_move, steps_more}
use Rattle.search_trace.specs.Turns.{wait_in_front}

-- codes above do not count
steps_kept : (path : List ℕ) (i v c : ℕ) → c ≤ i → steps_in (set path i v) c ≡ steps_in path c
unfolding steps_in
steps_kept path i v zero h = refl
steps_kept path i v (suc c) h =
    ap₂ (λ (x : ℕ) (ps : List Step). step_of_code x ∷ ps) (get_or-set_other path i c v 0 (λ e. omega arith)) (steps_kept path i v c (omega arith))

pub pushed : (path : List ℕ) (count code : ℕ) → count < length path
    → steps_in (set path count code) (count + 1) ≡ step_of_code code ∷ steps_in path count
pushed path count code h =
    steps_more (set path count code) count
    ∙ ap₂ (λ (x : ℕ) (ps : List Step). step_of_code x ∷ ps) (get_or-set_same path count code 0 h) (steps_kept path count code count (omega arith))

-- the step on top
steps_top : (path : List ℕ) (count : ℕ) → (count ≡ 0 → ⊥) → steps_in path count ≡ step_of_code (get_or path (count - 1) 0) ∷ steps_in path (count - 1)
steps_top path count some =
    let same : count ≡ count - 1 + 1 = omega arith in
    ap (steps_in path) same ∙ steps_more path (count - 1)

-- a wait of one tick where none is on top
pub wait_on_none : (path : List ℕ) (count : ℕ) → count ≡ 0 → step_of_code 1 ∷ steps_in path count ≡ wait_one (steps_in path count)
unfolding steps_in
wait_on_none path count e = rw (e, ← code_wait 1 (omega arith))

pub wait_on_move : (path : List ℕ) (count : ℕ) → (count ≡ 0 → ⊥) → 1001 ≤ get_or path (count - 1) 0
    → step_of_code 1 ∷ steps_in path count ≡ wait_one (steps_in path count)
wait_on_move path count some h =
    let top : steps_in path count ≡ move (get_or path (count - 1) 0 - 1001) ∷ steps_in path (count - 1) =
    steps_top path count some ∙ ap (λ (p : Step). p ∷ steps_in path (count - 1)) (sym (code_move (get_or path (count - 1) 0) h)) in
    rw (top, ← code_wait 1 (omega arith))

-- a wait on top
wait_top : (path : List ℕ) (count : ℕ) → (count ≡ 0 → ⊥) → get_or path (count - 1) 0 < 1001
    → steps_in path count ≡ wait (get_or path (count - 1) 0) ∷ steps_in path (count - 1)
wait_top path count some h =
    steps_top path count some ∙ ap (λ (p : Step). p ∷ steps_in path (count - 1)) (sym (code_wait (get_or path (count - 1) 0) h))

pub wait_on_wait : (path : List ℕ) (count : ℕ) → (count ≡ 0 → ⊥) → get_or path (count - 1) 0 < 1001 → wait_in_front (steps_in path count) < 1000
    → step_of_code (get_or path (count - 1) 0 + 1) ∷ steps_in path (count - 1) ≡ wait_one (steps_in path count)
wait_on_wait path count some h room =
    let top : steps_in path count ≡ wait (get_or path (count - 1) 0) ∷ steps_in path (count - 1) = wait_top path count some h in
    let code : ℕ = get_or path (count - 1) 0 in
    let short : wait_in_front (steps_in path count) ≡ code = ap wait_in_front top in
    sym
    (ap wait_one top
    ∙ ap (λ (p : Step). p ∷ steps_in path (count - 1)) (ap wait (sym (add-one code)) ∙ code_wait (code + 1) (omega arith)))

pub motion_code : (m : ℕ) (ps : List Step) → step_of_code (m + 1001) ∷ ps ≡ move m ∷ ps
motion_code m ps =
    let same : m + 1001 - 1001 ≡ m = omega arith in
    ap (λ (p : Step). p ∷ ps) (sym (code_move (m + 1001) (omega arith)) ∙ ap move same)
