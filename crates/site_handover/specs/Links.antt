-- What one sweep hands over, and the offsets that single sweeps link.
-- Assumes nothing.
use Rattle.std.specs.Prelude.{ℕ, ◌+◌, ◌≤◌, ◌<◌, ◌≡◌, List, Bool, true, cond, ◌&&◌}
use Rattle.meaning.specs.Runs.{meets}
use Rattle.meaning.specs.Site.{Sweep, uses, handover}

-- the last offset of the sweep, if the sweep uses the offset j; else j
unfoldable pub last_from : Sweep → ℕ → ℕ
last_from w j = cond (meets w.first w.last j j) w.last j

-- the sweep uses the offset j, and its cell is used at j + 1
abbrev pub hands_over : List Sweep → ℕ → Sweep → Bool
hands_over ws j w = meets w.first w.last j j && uses ws w.cell (j + 1)

-- there is a handover at each offset from j on and below r
pub record Linked (ws : List Sweep) (j r : ℕ) : Type 0 where
  pub on : j ≤ r
  pub each : (i : ℕ) → j ≤ i → i < r → handover ws i ≡ true
