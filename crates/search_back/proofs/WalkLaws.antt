-- The walk along the list of the motions that lead to a state: the first hit on it is the lowest motion that hits.
-- Assumes nothing.
use Prim.Native.Nat.{ℕ, suc, ◌+◌, ◌≤◌, ◌<◌}
use native.Mathlib.Omega.{arith}
use mathlib.Core.Path.{◌≡◌, sym, ◌∙◌, subst}
use mathlib.Core.Bool.{Bool, true, false}
use mathlib.Core.Logic.{inl}
use mathlib.Core.List.{List}
use lib.Dec.{eqb}
use lib.ListN.{length, get_or}
use borrow.Author.Tests.{eqb-true, eqb-false, lt-ltb, le-ltb}
use Rattle.meaning.specs.Site.{Site, motion_at}
use Rattle.meaning.specs.Board.{Free}
use Rattle.meaning.specs.Reach.{word_by}
use Rattle.meaning.proofs.BasicsLaws.{decide}
use Rattle.search_site.specs.Arrays.{to_at}
use Rattle.search_lists.specs.Lists.{Listed}
use Rattle.search_lists.proofs.ListLaws.{listed_on, end_to}
use Rattle.search_lists.proofs.WalkLaws.{Along, along_start, along_before, along_next, along_last, along_end}
use Rattle.search_ends.specs.Ends.{First}
use Rattle.search_ends.proofs.FirstLaws.{least_first}
use Rattle.search_back.specs.Words.{move_hit, first_move}
use Rattle.search_back.proofs.HitLaws.{move_elsewhere}

module _ (site : Site) (f : Free) (re : List ℕ) (s t k : ℕ) (ls : List ℕ) where
  abbrev Miss : ℕ → Type 0
  Miss i = move_hit site f re s t i ≡ false

  -- each motion is a miss, or is on the list from m on
  abbrev pub Walked : ℕ → Type 0
  Walked m = (i : ℕ) → i < k → Along ls k Miss m i

  -- a motion that does not lead to s is a miss
  pub walked_start : (mv : List ℕ) (m : ℕ) → Listed 1 k mv ls → ((i : ℕ) → i < k → to_at mv i ≡ (motion_at site i).to)
      → m ≡ get_or ls (k + s) 0 → Walked m
  walked_start mv m listed to e i h =
      decide (eqb (to_at mv i) s)
      (λ u. along_start ls k Miss (get_or ls (k + s) 0) m i e (listed_on 1 k mv ls s listed i h (end_to mv i ∙ eqb-true (to_at mv i) s u)))
      (λ u. inl (sym (move_elsewhere site f re s t i (to_at mv i) (to i h) (eqb-false (to_at mv i) s u))))

  -- no motion hits
  all_miss : ((i : ℕ) → i < k → Miss i) → First (move_hit site f re s t) 0 k k
  all_miss none = record { above = omega arith; within = omega arith; none = λ i lo hi. none i hi; hit = λ lt. absurd (omega arith) }

  module _ (m : ℕ) (b : Bool) (is : b ≡ move_hit site f re s t m) (w : Walked m) where
    pub walked_more : (after : ℕ) → b ≡ false → after ≡ get_or ls m 0 → Walked after
    walked_more after miss e i h = along_next ls k Miss Miss m i (λ p. p) (sym is ∙ miss) after e (w i h)

    pub walked_hit : m < k → b ≡ true → First (move_hit site f re s t) 0 k m
    walked_hit known hit =
        record {
          above = omega arith;
          within = omega arith;
          none = λ i lo hi. along_before ls k Miss m i hi (w i (omega arith));
          hit = λ lt. sym is ∙ hit;
        }

    -- nothing stands behind m
    pub walked_last : (after : ℕ) → b ≡ false → after ≡ get_or ls m 0 → after ≤ m → First (move_hit site f re s t) 0 k k
    walked_last after miss e low = all_miss (λ i h. along_last ls k Miss Miss m i (λ p. p) (sym is ∙ miss) (omega arith) (w i h))

  -- the list is at its end
  pub walked_end : (m : ℕ) → k ≤ m → Walked m → First (move_hit site f re s t) 0 k k
  walked_end m past w = all_miss (λ i h. along_end ls k Miss m i past (w i h))

-- ---- the word of the first hit

module _ (site : Site) (f : Free) (re : List ℕ) (s t k : ℕ) (all : length site.motions ≡ k) where
  pub first_found : (m : ℕ) → m < k → First (move_hit site f re s t) 0 k m → m + 3 ≡ word_by false (first_move site f re s t)
  unfolding first_move
  first_found m known g =
      let number : m + 3 ≡ suc (suc (suc m)) = omega arith in
      let from_0 : k ≡ 0 + k = omega arith in
      number ∙ sym (rw (all, least_first (move_hit site f re s t) 0 k m (subst (λ (x : ℕ). First (move_hit site f re s t) 0 x m) from_0 g), lt-ltb m (0 + k) (omega arith)))

  pub first_none : First (move_hit site f re s t) 0 k k → 0 ≡ word_by false (first_move site f re s t)
  unfolding first_move
  first_none g =
      let from_0 : k ≡ 0 + k = omega arith in
      sym (rw (all, least_first (move_hit site f re s t) 0 k k (subst (λ (x : ℕ). First (move_hit site f re s t) 0 x k) from_0 g), le-ltb k (0 + k) (omega arith)))
