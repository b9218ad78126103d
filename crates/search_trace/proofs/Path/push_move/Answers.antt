-- `search_trace::Path::push_move` meets its contract.
-- Assumes nothing.
use mathlib.Core.Path.{◌∙◌}
use Rattle.search_trace.proofs.StackLaws.{motion_code}
use Rattle.search_trace.proofs.Path.push_move.Goals as goal

pub returns : goal.returns
returns c = c.push.ensures ∙ motion_code c.args.m _
