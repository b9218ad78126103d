-- The states in turn, and why the turns come to an end.
-- Assumes nothing.
use Prim.Native.Nat.{ℕ, zero, suc, ◌+◌, ◌-◌, ◌*◌, ◌^◌, ◌<◌, min}
use native.Mathlib.Omega.{arith}
use mathlib.Core.Path.{◌≡◌, refl, sym, ap, ◌∙◌}
use mathlib.Core.Bool.{Bool, true, false, cond, false≢true}
use mathlib.Core.List.{List}
use lib.Dec.{eqb}
use lib.ListN.{length, get_or}
use borrow.Author.Tests.{eqb-true, eqb-false}
use Rattle.meaning.proofs.BasicsLaws.{decide}
use Rattle.search_ticks.specs.Rows.{Words, total, has}
use Rattle.search_ticks.proofs.RowLaws.{total_bound}
use Rattle.search_site.specs.Arrays.{from_at, Leads}
use Rattle.search_step.specs.Sets.{Closed, Within, TablesRight, RowsReady}
use Rattle.search_lists.specs.Lists.{Listed}
use Rattle.search_spread.specs.Spread.{Stepped, Tried, StillTried, Progress, more, quiet, UnnotedBut}
use Rattle.search_fixpoint.specs.Turns.{NoneGrown, FlagsAre, in_turn}

module _ (n k : ℕ) (st mv sw : List ℕ) (g : ℕ → ℕ → Bool) (b : ℕ) where
  -- at the start no motion is known, and growth is noted everywhere
  ready_start : (known : List Bool) (al : List ℕ) → FlagsAre k false known → RowsReady g k b mv sw known al
  ready_start known al none m lt marked i h = absurd (false≢true (sym (none m lt) ∙ marked))

  tried_start : (noted : List Bool) (l : List ℕ) → FlagsAre n true noted → Tried n k st mv sw g b noted (has l)
  tried_start noted l all s h e = absurd (false≢true (sym e ∙ all s h))

  -- no growth is noted
  tried_closed : (noted : List Bool) (l : List ℕ) → Leads n k mv → NoneGrown n noted → Tried n k st mv sw g b noted (has l) → Closed n k st mv sw g b (has l)
  tried_closed noted l leads none c =
      (λ s h. (c s h (none s h)).0, λ m h. (c (from_at mv m) (leads.from m h) (none (from_at mv m) (leads.from m h))).1 m h refl)

-- all steps from the start on are done, and no growth is noted
pub settled : {cells n k b : ℕ} {st mv sw tab : List ℕ} {known₀ : List Bool} {al₀ l₀ : List ℕ} {known : List Bool} {al l : List ℕ} (ls : List ℕ) (noted₀ noted : List Bool) → FlagsAre k false known₀ → FlagsAre n true noted₀ → Leads n k mv → NoneGrown n noted
    → Stepped cells n k b st mv sw tab known₀ al₀ l₀ known al l (λ g. Closed n k st mv sw g b) (StillTried n k st mv sw ls b noted₀ l₀ noted l)
    → (g : ℕ → ℕ → Bool) → TablesRight g cells n k b st mv sw tab → Listed 0 k mv ls → Within (Closed n k st mv sw g b) l₀ l × Closed n k st mv sw g b (has l)
settled {n = n} {k = k} {b = b} {st = st} {mv = mv} {sw = sw} {known₀ = known₀} {al₀ = al₀} {l₀ = l₀} {l = l} ls noted₀ noted unknown every leads none steps g right all =
    let (ready, (within, tried)) = steps.right g right (ready_start n k st mv sw g b known₀ al₀ unknown) in
    (within, tried_closed n k st mv sw g b noted l leads none (tried all (tried_start n k st mv sw g b noted₀ l₀ every)))

-- ---- the states in turn

-- up, or down
by_turn : {X : Type 0} (n : ℕ) (down : Bool) → (((s : ℕ) → in_turn n s down ≡ s) → X) → (((s : ℕ) → in_turn n s down ≡ n - 1 - s) → X) → X
by_turn n true up down = down (λ s. refl)
by_turn n false up down = up (λ s. refl)

-- no growth is noted of the states whose turn came before s
abbrev pub Quiet : ℕ → Bool → ℕ → List Bool → Type 0
Quiet n way s noted = (x : ℕ) → x < n → in_turn n x way < s → get_or noted x false ≡ false

pub quiet_more : (noted noted' : List Bool) (n : ℕ) (way : Bool) (s r : ℕ) → s < n → r ≡ in_turn n s way → Quiet n way s noted → UnnotedBut noted noted' r → Quiet n way (s + 1) noted'
quiet_more noted noted' n way s r h is before one x small early =
    decide (eqb x r)
    (λ u. ap (λ (y : ℕ). get_or noted' y false) (eqb-true x r u) ∙ one.here)
    (λ u.
    let ne : x ≡ r → ⊥ = eqb-false x r u in
    one.others x ne ∙ before x small
    (by_turn n way
    (λ up. let at_x = up x in let at_s = up s in other ne at_x at_s)
    (λ down. let at_x = down x in let at_s = down s in below ne at_x at_s)))
  where
    other : (x ≡ r → ⊥) → in_turn n x way ≡ x → in_turn n s way ≡ s → in_turn n x way < s
    other ne at_x at_s = omega arith

    below : (x ≡ r → ⊥) → in_turn n x way ≡ n - 1 - x → in_turn n s way ≡ n - 1 - s → in_turn n x way < s
    below ne at_x at_s = omega arith

-- ---- the end

-- how many of the first n states have growth noted
unfoldable pub notes : ℕ → List Bool → ℕ
notes zero noted = 0
notes (suc n) noted = cond (get_or noted n false) (1 + notes n noted) (notes n noted)

notes_none : (n : ℕ) (noted : List Bool) → NoneGrown n noted → notes n noted ≡ 0
unfolding notes
notes_none zero noted none = refl
notes_none (suc n) noted none = rw (none n (omega arith)) (notes_none n noted (λ s h. none s (omega arith)))

none_notes : (n : ℕ) (noted : List Bool) → notes n noted ≡ 0 → NoneGrown n noted
unfolding notes
none_notes zero noted e s h = absurd (omega arith)
none_notes (suc n) noted e s h =
    decide (get_or noted n false)
    (λ u. let some : 1 + notes n noted ≡ 0 = rw u at e in absurd (omega arith))
    (λ u.
    let fewer : notes n noted ≡ 0 = rw u at e in
    decide (eqb s n)
    (λ v. rw (eqb-true s n v) u)
    (λ v. let ne : s ≡ n → ⊥ = eqb-false s n v in none_notes n noted fewer s (omega arith)))

notes_some : (n : ℕ) (noted : List Bool) → (NoneGrown n noted → ⊥) → 0 < notes n noted
notes_some n noted some = decide (eqb (notes n noted) 0)
    (λ u. absurd (some (none_notes n noted (eqb-true (notes n noted) 0 u))))
    (λ u. omega (arith, eqb-false (notes n noted) 0 u))

-- the bits still unset, as a number
unfoldable pub unset : List ℕ → ℕ
unset l = length l * 2 ^ 64 - total l

-- a turn sets a bit, or it is the last one
unfoldable pub left : ℕ → List ℕ → List Bool → ℕ
left n l noted = 2 * unset l + min 1 (notes n noted)

pub turn_less : (n : ℕ) (l l' : List ℕ) (noted noted' : List Bool) → length l' ≡ length l → Words l' → (NoneGrown n noted → ⊥) → Progress l l' (NoneGrown n noted') → left n l' noted' < left n l noted
unfolding left unset
turn_less n l l' noted noted' sized fit some (more h) =
    let e = ap (λ (x : ℕ). x * 2 ^ 64) sized in
    omega (arith, total_bound l' (2 ^ 64) fit)
turn_less n l l' noted noted' sized fit some (quiet e none) =
    let z = notes_none n noted' none in
    let s = notes_some n noted some in
    let same = ap unset e in
    omega arith
