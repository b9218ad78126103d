-- `travel::travel` meets its contract.
-- Assumes nothing.
use mathlib.Core.Path.{ap, sym, ◌∙◌}
use mathlib.Core.List.{[], ◌∷◌}
use Prim.Native.Nat.{ℕ}
use native.Mathlib.Omega.{arith}
use Rattle.travel_runs.specs.Travel.{Returned}
use Rattle.travel_runs.proofs.CallLaws.{meant_entry, meant_refused}
use Rattle.travel.proofs.travel.Goals as goal

-- 19 above the last distance
pub returns-then-distance-gt-LAST_DISTANCE : goal.returns-then-distance-gt-LAST_DISTANCE
returns-then-distance-gt-LAST_DISTANCE c = let is = meant_refused c.args.distance (omega arith) in record {
  number = sym (ap (λ (r : Returned). r.number) is);
  values = sym (ap (λ (r : Returned). r.values) is);
}

-- its entry at every other
pub returns : goal.returns
returns c = let is = meant_entry c.args.distance (omega arith) in record {
  number = sym (ap (λ (r : Returned). r.number) is);
  values = ap (λ (n : ℕ). n ∷ []) (c.from.ensures ∙ c.entry.ensures) ∙ sym (ap (λ (r : Returned). r.values) is);
}
