-- A table of travel times: one test, computed over all of its entries, is the rule at each of them.
-- Assumes nothing.
use Prim.Native.Nat.{ℕ, zero, suc, ◌≤◌, ◌<◌}
use mathlib.Core.Path.{◌≡◌}
use mathlib.Core.Bool.{Bool, true, ◌&&◌}
use mathlib.Core.List.{List}
use native.Mathlib.Omega.{arith}
use lib.Dec.{leb, ltb}
use lib.ListN.{get_or}
use borrow.Author.Tests.{leb-true, ltb-true}
use Rattle.meaning.specs.Basics.{all_below}
use Rattle.meaning.proofs.BasicsLaws.{and_left, and_right, below_at}
use Rattle.travel_runs.specs.Runs.{Fewest}
use Rattle.travel_runs.specs.Entries.{farthest, fewest}
use Rattle.travel_runs.proofs.RunLaws.{farther}
use Rattle.travel_runs.proofs.EntryLaws.{is_fewest_lem, no_other}

-- n ticks cover d, and one tick less does not
unfoldable pub is_fewest : ℕ → ℕ → Bool
is_fewest d zero = leb d (farthest zero)
is_fewest d (suc n) = leb d (farthest (suc n)) && ltb (farthest n) d

-- then no run of fewer ticks does: it gets no farther
passed : (d n : ℕ) → is_fewest d n ≡ true → Fewest d n
unfolding is_fewest
passed d zero h = is_fewest_lem d zero (leb-true d (farthest zero) h) (λ m k. absurd (omega arith))
passed d (suc n) h =
    let far : d ≤ farthest (suc n) = leb-true d (farthest (suc n)) (and_left (leb d (farthest (suc n))) (ltb (farthest n) d) h) in
    let short : farthest n < d = ltb-true (farthest n) d (and_right (leb d (farthest (suc n))) (ltb (farthest n) d) h) in
    is_fewest_lem d (suc n) far (λ m k. omega (arith, farther m n (omega arith)))

-- the test over the first n entries of a table
abbrev pub table_test : List ℕ → ℕ → Bool
table_test entries n = all_below (λ (d : ℕ). is_fewest d (get_or entries d 0)) n

pub table_right : (entries : List ℕ) (n : ℕ) → table_test entries n ≡ true → (d : ℕ) → d < n → get_or entries d 0 ≡ fewest d
table_right entries n passes d h =
    no_other d (get_or entries d 0) (passed d (get_or entries d 0) (below_at (λ (k : ℕ). is_fewest k (get_or entries k 0)) n passes d h))
