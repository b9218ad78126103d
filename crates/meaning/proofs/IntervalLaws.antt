-- The interval list has all safe intervals of a cell and only those, in rising order, and at most H + 2 numbers.
-- Assumes nothing.
use Prim.Native.Nat.{ℕ, zero, suc, ◌+◌, ◌≤◌, ◌<◌}
use native.Mathlib.Omega.{arith}
use mathlib.Core.Path.{◌≡◌, refl, sym, ◌∙◌, subst}
use mathlib.Core.Bool.{Bool, true, false, not, true≢false}
use mathlib.Core.List.{[], ◌∷◌}
use lib.Dec.{ltb, eqb}
use borrow.Author.Tests.{ltb-true, ltb-false, eqb-true, eqb-false, not-true}
use lib.ListN.{length}
use Rattle.meaning.specs.Basics.{Each, Some, here, there}
use Rattle.meaning.specs.Intervals.{Interval, free_before, begins, run_end, intervals_from, intervals, numbers_of}
use Rattle.meaning.specs.SafeIntervals.{SafeInterval, RisingFrom, AllSafeIntervals}
use Rattle.meaning.specs.Laws.{IntervalsRight}
use Rattle.meaning.proofs.BasicsLaws.{and_left, and_right, decide}

-- a test is not both
clash : {A : Type 0} (b : Bool) → b ≡ true → b ≡ false → A
clash b e f = absurd (true≢false (sym e ∙ f))

module _ (p : ℕ → Bool) where
  -- ---- where an interval begins

  begins_free : (t : ℕ) → begins p t ≡ true → p t ≡ true
  unfolding begins
  begins_free t h = and_left (p t) (not (free_before p t)) h

  begins_before : (t : ℕ) → begins p t ≡ true → free_before p t ≡ false
  unfolding begins
  begins_before t h = not-true _ (and_right (p t) (not (free_before p t)) h)

  free_begins : (t : ℕ) → p t ≡ true → free_before p t ≡ false → begins p t ≡ true
  unfolding begins
  free_begins t e b = simp (e, b)

  -- none begins after a free tick
  next_not : (t : ℕ) → p t ≡ true → begins p (suc t) ≡ false
  next_not t e = decide (begins p (suc t)) (λ b. clash (p t) e (begins_before (suc t) b)) (λ b. b)

  before_first : (t u : ℕ) → free_before p t ≡ false → suc u ≡ t → p u ≡ false
  before_first zero u b e = absurd (omega arith)
  before_first (suc v) u b e = let same : u ≡ v = omega arith in rw same b

  first_before : (t : ℕ) → ((u : ℕ) → suc u ≡ t → p u ≡ false) → free_before p t ≡ false
  first_before zero h = refl
  first_before (suc v) h = h v refl

  -- ---- where the run of free ticks ends

  -- u is the last tick of the run of free ticks from t on, where n ticks follow t
  record RunEnd (t n u : ℕ) : Type 0 where
    late : t ≤ u
    in_time : u ≤ t + n
    safe : p t ≡ true → (x : ℕ) → t ≤ x → x ≤ u → p x ≡ true
    stops : u < t + n → p (suc u) ≡ false

  -- it ends at t, or goes on
  stays : (t n : ℕ) → (0 < n → p (suc t) ≡ false) → RunEnd t n t
  stays t n h = record {
    late = omega arith;
    in_time = omega arith;
    safe = λ q x lo hi. let same : x ≡ t = omega arith in rw same q;
    stops = λ lt. h (omega arith);
  }

  goes_on : (t n u : ℕ) → p (suc t) ≡ true → RunEnd (suc t) n u → RunEnd t (suc n) u
  goes_on t n u e r =
      let late : suc t ≤ u = r.late in
      let in_time : u ≤ suc t + n = r.in_time in
      record {
        late = omega arith;
        in_time = omega arith;
        safe = λ q x lo hi. decide (eqb x t)
            (λ g. let same : x ≡ t = eqb-true x t g in rw same q)
            (λ g. let other : x ≡ t → ⊥ = eqb-false x t g in r.safe e x (omega arith) hi);
        stops = λ lt. r.stops (omega arith);
      }

  run_end_lem : (n t : ℕ) → RunEnd t n (run_end p t n)
  unfolding run_end
  run_end_lem zero t = stays t 0 (λ lt. absurd (omega arith))
  run_end_lem (suc n) t =
      decide (p (suc t))
      (λ e. simp e (goes_on t n (run_end p (suc t) n) e (run_end_lem n (suc t))))
      (λ e. simp e (stays t (suc n) (λ lt. e)))

  -- ---- the list, where an interval begins and where none does

  abbrev from : ℕ → ℕ → Interval
  from t n = record { first = t; last = run_end p t n }

  list_begins : (t n : ℕ) → begins p t ≡ true → intervals_from p t (suc n) ≡ from t n ∷ intervals_from p (suc t) n
  unfolding intervals_from
  list_begins t n b = simp b

  list_skips : (t n : ℕ) → begins p t ≡ false → intervals_from p t (suc n) ≡ intervals_from p (suc t) n
  unfolding intervals_from
  list_skips t n b = simp b

  list_ends : (t : ℕ) → intervals_from p t 0 ≡ []
  unfolding intervals_from
  list_ends t = refl

  -- ---- rising order

  -- none begins at a tick of the run after its first
  none_inside : (t n x : ℕ) → p t ≡ true → suc t ≤ x → x < suc (run_end p t n) → begins p x ≡ false
  none_inside t n zero e lo hi = absurd (omega arith)
  none_inside t n (suc x) e lo hi = next_not x ((run_end_lem n t).safe e x (omega arith) (omega arith))

  -- from u on, where none begins before u
  rising_from : (n t u : ℕ) → ((x : ℕ) → t ≤ x → x < u → begins p x ≡ false) → RisingFrom u (intervals_from p t n)
  rising_from zero t u none = rw (list_ends t) tt
  rising_from (suc n) t u none =
      decide (begins p t)
      (λ b. rw (list_begins t n b) (
        decide (ltb t u) (λ q. clash (begins p t) b (none t (omega arith) (ltb-true _ _ q))) (λ q. ltb-false _ _ q),
        rising_from n (suc t) (suc (run_end p t n)) (λ x lo hi. none_inside t n x (begins_free t b) lo hi),
      ))
      (λ b. rw (list_skips t n b) (rising_from n (suc t) u (λ x lo hi. none x (omega arith) hi)))

  -- ---- at most one number more than ticks

  abbrev count : ℕ → ℕ → ℕ
  count t n = length (numbers_of (intervals_from p t n))

  -- and no more than ticks where none begins at the first
  few : (n t : ℕ) → (count t n ≤ suc n) × (begins p t ≡ false → count t n ≤ n)
  few zero t = rw (list_ends t) (omega arith, λ b. omega arith)
  few (suc n) t =
      let (most, fewer) = few n (suc t) in
      decide (begins p t)
      (λ b.
      let le : count (suc t) n ≤ n = fewer (next_not t (begins_free t b)) in
      (rw (list_begins t n b) (omega arith), λ c. clash (begins p t) b c))
      (λ b. rw (list_skips t n b) (omega arith, λ c. most))

  module _ (horizon : ℕ) where
    -- ---- only safe intervals

    abbrev Safe : Interval → Type 0
    Safe i = SafeInterval p horizon i.first i.last

    begins_safe : (t n : ℕ) → t + n ≡ horizon → begins p t ≡ true → Safe (from t n)
    begins_safe t n h b = record {
      ordered = (run_end_lem n t).late;
      in_time = let le : run_end p t n ≤ t + n = (run_end_lem n t).in_time in omega arith;
      safe = (run_end_lem n t).safe (begins_free t b);
      before = λ u e. before_first t u (begins_before t b) e;
      after = λ lt. (run_end_lem n t).stops (omega arith);
    }

    only_safe : (n t : ℕ) → t + n ≡ suc horizon → Each Safe (intervals_from p t n)
    only_safe zero t h = rw (list_ends t) tt
    only_safe (suc n) t h =
        let rest : Each Safe (intervals_from p (suc t) n) = only_safe n (suc t) (omega arith) in
        decide (begins p t)
        (λ b. rw (list_begins t n b) (begins_safe t n (omega arith) b, rest))
        (λ b. rw (list_skips t n b) rest)

    -- ---- all safe intervals

    abbrev Is : ℕ → ℕ → Interval → Type 0
    Is first last i = (i.first ≡ first) × (i.last ≡ last)

    -- a safe interval begins at its first tick, and its last tick is the run's
    safe_begins : (t last : ℕ) → SafeInterval p horizon t last → begins p t ≡ true
    safe_begins t last s = free_begins t (s.safe t (omega arith) s.ordered) (first_before t s.before)

    safe_ends : (t n last : ℕ) → t + n ≡ horizon → SafeInterval p horizon t last → run_end p t n ≡ last
    safe_ends t n last h s =
        let u : ℕ = run_end p t n in
        let ordered : t ≤ last = s.ordered in
        let in_time : last ≤ horizon = s.in_time in
        let late : t ≤ u = (run_end_lem n t).late in
        let bounded : u ≤ t + n = (run_end_lem n t).in_time in
        decide (ltb last u)
        (λ g.
        let lt : last < u = ltb-true _ _ g in
        clash (p (suc last)) ((run_end_lem n t).safe (s.safe t (omega arith) ordered) (suc last) (omega arith) lt) (s.after (omega arith)))
        (λ g.
        let ge : u ≤ last = ltb-false _ _ g in
        decide (ltb u last)
        (λ k.
        let lt : u < last = ltb-true _ _ k in
        clash (p (suc u)) (s.safe (suc u) (omega arith) lt) ((run_end_lem n t).stops (omega arith)))
        (λ k. let le : last ≤ u = ltb-false _ _ k in omega arith))

    all_found : (n t first last : ℕ) → t + n ≡ suc horizon → t ≤ first → SafeInterval p horizon first last
        → Some (Is first last) (intervals_from p t n)
    all_found zero t first last h le s =
        let ordered : first ≤ last = s.ordered in
        let in_time : last ≤ horizon = s.in_time in
        absurd (omega arith)
    all_found (suc n) t first last h le s =
        decide (eqb t first)
        (λ g.
        let same : t ≡ first = eqb-true t first g in
        let from_t : SafeInterval p horizon t last = subst (λ (x : ℕ). SafeInterval p horizon x last) (sym same) s in
        rw (list_begins t n (safe_begins t last from_t)) (here (same, safe_ends t n last (omega arith) from_t)))
        (λ g.
        let other : t ≡ first → ⊥ = eqb-false t first g in
        let later : Some (Is first last) (intervals_from p (suc t) n) = all_found n (suc t) first last (omega arith) (omega arith) s in
        decide (begins p t)
        (λ b. rw (list_begins t n b) (there later))
        (λ b. rw (list_skips t n b) later))

    all_safe : AllSafeIntervals p horizon (intervals p horizon)
    unfolding intervals
    all_safe = record {
      rising = rising_from (suc horizon) 0 0 (λ x lo hi. absurd (omega arith));
      only = only_safe (suc horizon) 0 (omega arith);
      all = λ first last s. all_found (suc horizon) 0 first last (omega arith) (omega arith) s;
    }

    fits : length (numbers_of (intervals p horizon)) ≤ horizon + 2
    unfolding intervals
    fits = let (most, fewer) = few (suc horizon) 0 in omega arith

pub intervals_right : IntervalsRight
intervals_right = record { all_safe = all_safe; numbers = λ first last is. refl; fit = fits }
