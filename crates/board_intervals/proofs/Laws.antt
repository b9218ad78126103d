-- Laws of the interval list, as the loops go through the ticks: where an interval begins and ends, and what one turn writes.
-- Assumes nothing.
use Prim.Native.Nat.{ℕ, zero, suc, ◌+◌, ◌*◌, ◌-◌, ◌≤◌, ◌<◌}
use native.Mathlib.Omega.{arith}
use native.Mathlib.Numerals.{add-one}
use native.Mathlib.Nat.{zero-add}
use mathlib.Core.Path.{◌≡◌, refl, sym, ap, ap₂, ◌∙◌}
use mathlib.Core.Bool.{Bool, true, false, and-true, and-false}
use mathlib.Core.List.{List, [], ◌∷◌, ◌++◌}
use lib.Dec.{ltb, eqb}
use borrow.Author.Tests.{ltb-true, ltb-false, eqb-true, eqb-false}
use lib.ListN.{length, set, drop, length-set}
use lib.Seq.{sets, sets-eq}
use Rattle.meaning.specs.Intervals.{Interval, free_before, begins, run_end, intervals_from, intervals, numbers_of}
use Rattle.meaning.specs.Calls.{over}
use Rattle.meaning.proofs.BasicsLaws.{decide}
use Rattle.meaning.proofs.IntervalLaws.{intervals_right}

-- ---- where an interval begins

module _ (p : ℕ → Bool) where
  -- none begins after a free tick
  none_after : (t : ℕ) → p t ≡ true → begins p (suc t) ≡ false
  unfolding begins
  none_after t e = simp e (and-false (p (suc t)))

  -- where no free tick is before it, one begins at a tick if that is free
  begins_if_free : (t : ℕ) → free_before p t ≡ false → p t ≡ begins p t
  unfolding begins
  begins_if_free t e = sym (simp e (and-true (p t)))

  -- the same, for other crates, by the tick before: at the first tick, behind a free one, and behind one that is not
  pub begins_first : (t : ℕ) → t ≡ 0 → p t ≡ begins p t
  begins_first t e = begins_if_free t (ap (free_before p) e)

  pub begins_not : (t : ℕ) → (t ≡ 0 → ⊥) → p (t - 1) ≡ true → begins p t ≡ false
  begins_not zero pos e = absurd (pos refl)
  begins_not (suc t) pos e = none_after t (ap p (omega arith) ∙ e)

  pub begins_free : (t : ℕ) → (t ≡ 0 → ⊥) → p (t - 1) ≡ false → p t ≡ begins p t
  begins_free zero pos e = absurd (pos refl)
  begins_free (suc t) pos e = begins_if_free (suc t) (ap p (omega arith) ∙ e)

  -- ---- where the run of free ticks ends

  module _ (t horizon : ℕ) where
    pub end_stop : t < horizon → p (t + 1) ≡ false → run_end p t (horizon - t) ≡ t
    unfolding run_end
    end_stop lt e =
        let more : horizon - t ≡ suc (horizon - (t + 1)) = omega arith in
        let e' : p (suc t) ≡ false = rw (← add-one t) e in
        ap (run_end p t) more ∙ simp e'

    pub end_next : t < horizon → p (t + 1) ≡ true → run_end p t (horizon - t) ≡ run_end p (t + 1) (horizon - (t + 1))
    unfolding run_end
    end_next lt e =
        let more : horizon - t ≡ suc (horizon - (t + 1)) = omega arith in
        let e' : p (suc t) ≡ true = rw (← add-one t) e in
        ap (run_end p t) more ∙ simp e' (ap (λ (u : ℕ). run_end p u (horizon - (t + 1))) (sym (add-one t)))

    pub end_last : horizon ≤ t → run_end p t (horizon - t) ≡ t
    unfolding run_end
    end_last le = let none : horizon - t ≡ 0 = omega arith in ap (run_end p t) none

  -- ---- what a run tells of the ticks behind its first

  pub end_late : (n t : ℕ) → t ≤ run_end p t n
  unfolding run_end
  end_late zero t = omega arith
  end_late (suc n) t = decide (p (suc t)) (λ e. simp e (let h = end_late n (suc t) in omega arith)) (λ e. simp e (omega arith))

  -- no interval begins at one of them, nor at the tick that ends it
  none_inside : (n t : ℕ) → p t ≡ true → (u : ℕ) → t < u → u ≤ suc (run_end p t n) → begins p u ≡ false
  unfolding run_end
  none_inside zero t e u lo hi = let same : u ≡ suc t = omega arith in rw same (none_after t e)
  none_inside (suc n) t e u lo hi =
      decide (eqb u (suc t))
      (λ g. let same : u ≡ suc t = eqb-true u (suc t) g in rw same (none_after t e))
      (λ g.
      let other : u ≡ suc t → ⊥ = eqb-false u (suc t) g in
      decide (p (suc t))
      (λ f. let same : run_end p t (suc n) ≡ run_end p (suc t) n = simp f refl in none_inside n (suc t) f u (omega arith) (omega arith))
      (λ f. let same : run_end p t (suc n) ≡ t = simp f refl in absurd (omega arith)))

  -- and that one is not free, unless the run ends at the horizon
  end_held : (n t u : ℕ) → u ≡ suc (run_end p t n) → u ≤ t + n → p u ≡ false
  unfolding run_end
  end_held zero t u e le = absurd (omega arith)
  end_held (suc n) t u e le =
      decide (p (suc t))
      (λ f. end_held n (suc t) u (e ∙ simp f refl) (omega arith))
      (λ f. let same : u ≡ suc t = e ∙ simp f refl in rw same f)

  -- `next` is the first tick that no run before t tells of
  pub record Told (horizon t next : ℕ) : Type 0 where
    pub none : (u : ℕ) → t ≤ u → u < next → begins p u ≡ false
    pub before : next ≤ t → free_before p t ≡ false
    pub held : (u : ℕ) → suc u ≡ next → u ≤ horizon → p u ≡ false

  pub told_start : (horizon : ℕ) → Told horizon 0 0
  told_start horizon = record {
    none = λ u lo hi. absurd (omega arith);
    before = λ le. refl;
    held = λ u e le. absurd (omega arith);
  }

  module _ (horizon t next : ℕ) (now : Told horizon t next) (le : t ≤ horizon) where
    -- at a tick of which nothing is told an interval begins if it is free
    pub begins_untold : next ≤ t → p t ≡ begins p t
    begins_untold first = begins_if_free t (now.before first)

    -- at another none begins
    pub begins_told : t < next → begins p t ≡ false
    begins_told = now.none t (omega arith)

    -- at the next tick, if no run is added: where nothing was told of this one, it is not free
    pub told_on : (next ≤ t → p t ≡ false) → Told horizon (t + 1) next
    told_on here = record {
      none = λ u lo hi. now.none u (omega arith) hi;
      before = λ first. ap (free_before p) (add-one t) ∙ decide (ltb t next)
          (λ g. let lt = ltb-true t next g in now.held t (omega arith) le)
          (λ g. here (ltb-false t next g));
      held = now.held;
    }

    -- and behind a run that begins here
    pub told_run : p t ≡ true → (last : ℕ) → last ≡ run_end p t (horizon - t) → Told horizon (t + 1) (last + 2)
    told_run free last e =
        let late = end_late (horizon - t) t in
        record {
          none = λ u lo hi. none_inside (horizon - t) t free u (omega arith) (rw (← e) (omega arith));
          before = λ first. absurd (omega arith);
          held = λ u s most. end_held (horizon - t) t u (let same : u ≡ suc last = omega arith in same ∙ ap suc e) (omega arith);
        }

  -- ---- what is left to write from a tick on

  abbrev pub rest : ℕ → ℕ → List Interval
  rest horizon t = intervals_from p t (suc horizon - t)

  module _ (t horizon : ℕ) where
    rest_begins : t ≤ horizon → begins p t ≡ true → rest horizon t ≡ record { first = t; last = run_end p t (horizon - t) } ∷ rest horizon (t + 1)
    unfolding intervals_from
    rest_begins le b =
        let more : suc horizon - t ≡ suc (horizon - t) = omega arith in
        let same : horizon - t ≡ suc horizon - (t + 1) = omega arith in
        let found : Interval = record { first = t; last = run_end p t (horizon - t) } in
        ap (intervals_from p t) more
        ∙ simp b (ap₂ (λ (u n : ℕ). found ∷ intervals_from p u n) (sym (add-one t)) same)

    rest_skips : t ≤ horizon → begins p t ≡ false → rest horizon t ≡ rest horizon (t + 1)
    unfolding intervals_from
    rest_skips le b =
        let more : suc horizon - t ≡ suc (horizon - t) = omega arith in
        let same : horizon - t ≡ suc horizon - (t + 1) = omega arith in
        ap (intervals_from p t) more ∙ simp b (ap₂ (intervals_from p) (sym (add-one t)) same)

    rest_ends : horizon < t → rest horizon t ≡ []
    unfolding intervals_from
    rest_ends lt = let none : suc horizon - t ≡ 0 = omega arith in ap (intervals_from p t) none

  -- ---- two numbers an interval

  length_numbers : (is : List Interval) → length (numbers_of is) ≡ 2 * length is
  length_numbers [] = refl
  length_numbers (i ∷ is) = let ih : length (numbers_of is) ≡ 2 * length is = length_numbers is in omega arith

  pub fits : (horizon : ℕ) → 2 * length (intervals p horizon) ≤ horizon + 2
  fits horizon = omega (arith, length_numbers (intervals p horizon), intervals_right.fit p horizon)

  -- ---- the loop: writing what is left from k intervals on leaves what writing them all leaves

  pub record Turn (horizon t k : ℕ) (out₀ out : List ℕ) : Type 0 where
    pub in_time : t ≤ horizon + 1
    pub same_size : length out ≡ length out₀
    pub counted : k + length (rest horizon t) ≡ length (intervals p horizon)
    pub written : sets out (2 * k) (numbers_of (rest horizon t)) ≡ sets out₀ 0 (numbers_of (intervals p horizon))

  module _ (horizon : ℕ) (out₀ : List ℕ) where
    pub turn_start : Turn horizon 0 0 out₀ out₀
    unfolding intervals
    turn_start =
        let same : suc horizon - 0 ≡ suc horizon = omega arith in
        let whole : rest horizon 0 ≡ intervals p horizon = ap (intervals_from p 0) same in
        record {
          in_time = omega arith;
          same_size = refl;
          counted = zero-add (length (rest horizon 0)) ∙ ap length whole;
          written = ap (λ (is : List Interval). sets out₀ 0 (numbers_of is)) whole;
        }

    module _ (t k : ℕ) (out : List ℕ) (now : Turn horizon t k out₀ out) where
      pub turn_skips : t ≤ horizon → begins p t ≡ false → Turn horizon (t + 1) k out₀ out
      turn_skips le b =
          let same : rest horizon t ≡ rest horizon (t + 1) = rest_skips t horizon le b in
          record {
            in_time = omega arith;
            same_size = now.same_size;
            counted = ap (λ (is : List Interval). k + length is) (sym same) ∙ now.counted;
            written = ap (λ (is : List Interval). sets out (2 * k) (numbers_of is)) (sym same) ∙ now.written;
          }

      one_more : t ≤ horizon → begins p t ≡ true → k + (1 + length (rest horizon (t + 1))) ≡ length (intervals p horizon)
      one_more le b =
          let size : length (rest horizon t) ≡ suc (length (rest horizon (t + 1))) = ap length (rest_begins t horizon le b) in
          let all = now.counted in
          omega arith

      pub few : 2 * k ≤ horizon + 2
      few =
          let all = now.counted in
          omega (arith, fits horizon)

      -- there is room for an interval that begins
      pub room : t ≤ horizon → begins p t ≡ true → horizon + 2 ≤ length out₀ → 2 * k + 1 < length out
      room le b enough =
          let size = now.same_size in
          omega (arith, one_more le b, fits horizon)

      pub turn_begins : (last : ℕ) → t ≤ horizon → begins p t ≡ true → last ≡ run_end p t (horizon - t)
          → Turn horizon (t + 1) (k + 1) out₀ (set (set out (2 * k) t) (2 * k + 1) last)
      turn_begins last le b e =
          let more : List Interval = rest horizon (t + 1) in
          let left : rest horizon t ≡ record { first = t; last = last } ∷ more =
          rest_begins t horizon le b ∙ ap {B = List Interval} (λ (u : ℕ). record { first = t; last = u } ∷ more) (sym e) in
          let next : suc (suc (2 * k)) ≡ 2 * (k + 1) = omega arith in
          record {
            in_time = omega arith;
            same_size = length-set (set out (2 * k) t) (2 * k + 1) last ∙ length-set out (2 * k) t ∙ now.same_size;
            counted = omega (arith, one_more le b);
            written =
                ap₂ (λ (i j : ℕ). sets (set (set out (2 * k) t) i last) j (numbers_of more)) (add-one (2 * k)) (sym next)
                ∙ ap (λ (is : List Interval). sets out (2 * k) (numbers_of is)) (sym left)
                ∙ now.written;
          }

      pub turn_count : horizon < t → k ≡ length (intervals p horizon)
      turn_count lt =
          let none : length (rest horizon t) ≡ 0 = ap length (rest_ends t horizon lt) in
          let all = now.counted in
          omega arith

      pub turn_out : horizon < t → horizon + 2 ≤ length out₀ → out ≡ over (numbers_of (intervals p horizon)) out₀
      turn_out lt enough =
          let numbers : List ℕ = numbers_of (intervals p horizon) in
          let size : length numbers ≡ 2 * length (intervals p horizon) = length_numbers (intervals p horizon) in
          let most = fits horizon in
          sym (ap (λ (is : List Interval). sets out (2 * k) (numbers_of is)) (rest_ends t horizon lt))
          ∙ now.written
          ∙ sets-eq numbers out₀ 0 (omega arith)
          ∙ ap (λ (n : ℕ). numbers ++ drop n out₀) (zero-add (length numbers))
