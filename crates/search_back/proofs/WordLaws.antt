-- The word from the reached pairs is the table's word.
-- Assumes nothing.
use Prim.Native.Nat.{ℕ, suc, ◌+◌, ◌-◌, ◌≤◌, ◌<◌}
use native.Mathlib.Omega.{arith}
use mathlib.Core.Path.{◌≡◌, sym, ap, ap₂, ◌∙◌}
use mathlib.Core.Bool.{Bool, true, false, cond, ◌&&◌, not}
use mathlib.Core.List.{List, [], ◌∷◌}
use lib.Dec.{leb, eqb}
use lib.ListN.{length}
use borrow.Author.Tests.{leb-true, le-leb}
use Rattle.meaning.specs.Basics.{every, is_zero}
use Rattle.meaning.specs.Site.{Site, Motion, motion_at}
use Rattle.meaning.specs.Board.{Free}
use Rattle.meaning.specs.Plan.{wait, allowed, start_free, node}
use Rattle.meaning.specs.Reach.{word_by, reach_word, reached}
use Rattle.meaning.specs.WellFormed.{WellFormed}
use Rattle.meaning.proofs.BasicsLaws.{and_left, and_right, every_at, every_nil, every_cons, least_same, same_test}
use Rattle.meaning.proofs.ReachLaws.{waited, arrives, word_first, word_next}
use Rattle.search_sizes.specs.Sizes.{block_ticks}
use Rattle.search_ticks.specs.Rows.{has}
use Rattle.search_ends.specs.Ends.{reached_at}
use Rattle.search_back.specs.Words.{wait_hit, move_hit, first_move, ReachedTo}

both : (a b : Bool) → a ≡ true → b ≡ true → (a && b) ≡ true
both a b h k = rw (h, k)

module _ (site : Site) (well : WellFormed site) (f : Free) (start tick s t : ℕ) (re : List ℕ) (rows : ReachedTo site f (node start tick) t re)
    (known : s < length site.states) where
  -- ---- at the start tick

  first_word : (b : Bool) (w : ℕ) → w ≡ cond b 1 0 → w ≡ cond (not (is_zero w)) 1 0
  first_word true w e = rw e
  first_word false w e = rw e

  pub word_start : (b set : Bool) → tick ≤ t → t ≤ tick → b ≡ has re s (block_ticks + t) → b ≡ set → cond set 1 0 ≡ reach_word site f (node start tick) (t - tick) s
  word_start b set late early is is_set =
      let since : t - tick ≡ 0 = omega arith in
      let bit : set ≡ reached site f (node start tick) 0 s = sym is_set ∙ is ∙ rows s t (omega arith) ∙ rw (le-leb tick t late, since) in
      rw since
      (ap (λ (x : Bool). cond x 1 0) bit
      ∙ sym (first_word (every (eqb s start ∷ start_free site f (node start tick) ∷ [])) (reach_word site f (node start tick) 0 s) (word_first site f (node start tick) s known)))

  -- ---- later

  module _ (later : tick < t) where
    -- the tick before t, counted from the start
    abbrev since : ℕ
    since = t - tick - 1

    wait_same : wait_hit site f re s t ≡ waited site f (node start tick) since s
    unfolding wait_hit
    wait_same =
        let before : t - 1 ≡ tick + (t - tick - 1) = omega arith in
        let count : t - 1 - tick ≡ t - tick - 1 = omega arith in
        let bit : has re s (block_ticks + (t - 1)) ≡ reached site f (node start tick) (t - tick - 1) s =
        rows s (t - 1) (omega arith) ∙ rw (le-leb tick (t - 1) (omega arith), count) in
        same_test _ _
        (λ h.
        let ok : allowed site f (wait 1) (node s (tick + (t - tick - 1))) ≡ true =
        rw before at (and_right (has re s (block_ticks + (t - 1))) (allowed site f (wait 1) (node s (t - 1))) h) in
        every_cons _ _ (sym bit ∙ and_left (has re s (block_ticks + (t - 1))) _ h) (every_cons _ _ ok every_nil))
        (λ h. both _ _ (bit ∙ every_at _ h 0) (rw before (every_at _ h 1)))

    move_same : (m : ℕ) → move_hit site f re s t m ≡ arrives site f (node start tick) since s m
    unfolding move_hit
    move_same m =
        let x : Motion = motion_at site m in
        same_test _ _
        (λ h.
        let h1 = and_right (eqb x.to s) _ h in
        let h2 = and_right (leb x.span t) _ h1 in
        let span_in : x.span ≤ t = leb-true _ _ (and_left (leb x.span t) _ h1) in
        let in_set : reached_at site f (node start tick) x.from (t - x.span) ≡ true =
        sym (rows x.from (t - x.span) (omega arith)) ∙ and_left (has re x.from (block_ticks + (t - x.span))) _ h2 in
        let late : tick ≤ t - x.span = leb-true _ _ (and_left (leb tick (t - x.span)) _ in_set) in
        let count : t - x.span - tick ≡ suc (t - tick - 1) - x.span = omega arith in
        let start_tick : t - x.span ≡ tick + suc (t - tick - 1) - x.span = omega arith in
        every_cons _ _ (and_left (eqb x.to s) _ h)
        (every_cons _ _
        (every_cons _ _ (le-leb x.span (suc (t - tick - 1)) (omega arith)) (every_cons _ _ (rw (← count) (and_right (leb tick (t - x.span)) _ in_set)) every_nil))
        (every_cons _ _ (rw (← start_tick) (and_right (has re x.from (block_ticks + (t - x.span))) _ h2)) every_nil)))
        (λ h.
        let span_in : x.span ≤ suc (t - tick - 1) = leb-true _ _ (every_at _ (every_at _ h 1) 0) in
        let count : t - x.span - tick ≡ suc (t - tick - 1) - x.span = omega arith in
        let start_tick : t - x.span ≡ tick + suc (t - tick - 1) - x.span = omega arith in
        both _ _ (every_at _ h 0)
        (both _ _ (le-leb x.span t (omega arith))
        (both _ _
        (rows x.from (t - x.span) (omega arith) ∙ both _ _ (le-leb tick (t - x.span) (omega arith)) (rw count (every_at _ (every_at _ h 1) 1)))
        (rw start_tick (every_at _ h 2)))))

    later_word : word_by (wait_hit site f re s t) (first_move site f re s t) ≡ reach_word site f (node start tick) (t - tick) s
    unfolding first_move
    later_word =
        let count : suc (t - tick - 1) ≡ t - tick = omega arith in
        ap₂ word_by wait_same (least_same (move_hit site f re s t) (arrives site f (node start tick) since s) 0 (length site.motions) (λ m lt. move_same m))
        ∙ sym (word_next site well f (node start tick) since s known)
        ∙ ap (λ (i : ℕ). reach_word site f (node start tick) i s) count

    pub word_wait : (b : Bool) → b ≡ wait_hit site f re s t → b ≡ true → 2 ≡ reach_word site f (node start tick) (t - tick) s
    word_wait b is hit =
        let here : wait_hit site f re s t ≡ true = sym is ∙ hit in
        sym (ap (λ (x : Bool). word_by x (first_move site f re s t)) here) ∙ later_word

    pub word_move : (b : Bool) (r : ℕ) → b ≡ wait_hit site f re s t → b ≡ false → r ≡ word_by false (first_move site f re s t)
        → r ≡ reach_word site f (node start tick) (t - tick) s
    word_move b r is miss e =
        let here : wait_hit site f re s t ≡ false = sym is ∙ miss in
        e ∙ sym (ap (λ (x : Bool). word_by x (first_move site f re s t)) here) ∙ later_word
