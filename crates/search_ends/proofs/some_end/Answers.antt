-- `search_ends::some_end` meets its contract.
-- Assumes nothing.
use Prim.Native.Nat.{ℕ, ◌+◌}
use mathlib.Core.Path.{◌≡◌, refl}
use mathlib.Core.Bool.{true, false}
use native.Mathlib.Omega.{arith}
use lib.ListN.{get_or}
use Rattle.std.proofs.Common.{rules}
use Rattle.std.proofs.lemmas.Iterator.{cases_from_any, YieldsList-from_range}
use Rattle.search_ends.proofs.FirstLaws.{found_none}
use Rattle.search_ends.proofs.some_end.Goals as goal

pub returns : goal.returns
returns c = λ none t lo hi.
    let ends = c.args.ends.now in
    found_none (λ (i : ℕ). get_or ends i false) c.args.tick (c.args.horizon + 1) _ c.any.result
    (cases_from_any _ _ _ (λ (i : ℕ). get_or ends i false ≡ true) (λ (i : ℕ). get_or ends i false ≡ false) c.any.ensures.ran
    (YieldsList-from_range c.args.tick (c.args.horizon + 1) _ refl refl) (λ x q k. search rules) (λ x q k. (search rules, search rules)))
    none t lo (omega arith)
