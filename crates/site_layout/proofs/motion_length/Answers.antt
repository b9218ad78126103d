-- `site_layout::motion_length` meets its contract.
-- Assumes nothing.
use mathlib.Core.Path.{◌≡◌, sym, ◌∙◌}
use mathlib.Core.Bool.{true}
use Rattle.meaning.specs.Limits.{sweep_limit}
use Rattle.meaning.specs.Basics.{within}
use Rattle.site_layout.specs.Laid.{motion_length}
use Rattle.site_layout.proofs.motion_length.Goals as goal

pub returns-then-in_range : goal.returns-then-in_range
unfolding motion_length
returns-then-in_range c =
    let h : within 1 sweep_limit c.sweep_count-count.result ≡ true = sym c.in_range.ensures ∙ c.if-in_range.true in
    rw (← c.sweep_count-count.ensures, h)
