-- `light_steps::after_motion` and `light_steps::after_wait` meet their contracts. The measure of each is the number of bytes that are left.
-- Assumes nothing.
use Rattle.std.proofs.Common.{◌-◌, length}
use Rattle.light_steps.proofs.+after_motion_after_wait.Given as goal

abbrev pub decreases-after_motion : goal.decreases-after_motion
decreases-after_motion l = length l.s.now - l.at

abbrev pub decreases-after_wait : goal.decreases-after_wait
decreases-after_wait l = length l.s.now - l.at
