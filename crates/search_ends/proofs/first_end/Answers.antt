-- `search_ends::first_end` meets its contract.
-- Assumes nothing.
use Prim.Native.Nat.{ℕ}
use mathlib.Core.Path.{◌≡◌}
use mathlib.Core.Bool.{true, false}
use Rattle.std.proofs.Common.{rules}
use Rattle.std.proofs.lemmas.Iterator.{first_from_Range}
use Rattle.search_ends.specs.Ends.{ends_in}
use Rattle.search_ends.proofs.FirstLaws.{first_found}
use Rattle.search_ends.proofs.first_end.Goals as goal

pub returns : goal.returns
returns c =
    let test = ends_in c.args.reached.now c.args.ends.now c.args.goal in
    rw c.unwrap_or.ensures
    (first_found test c.args.low c.args.high c.requires.1.0 _
    (first_from_Range _ _ _ _ (λ (i : ℕ). test i ≡ true) (λ (i : ℕ). test i ≡ false) c.find.ensures.ran (λ x q k. search rules) (λ x q k. (search rules, search rules))))
