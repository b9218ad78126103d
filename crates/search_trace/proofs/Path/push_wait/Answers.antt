-- `search_trace::Path::push_wait` meets its contract: each way out is a case of `wait_one`.
-- Assumes nothing.
use mathlib.Core.Path.{◌∙◌}
use Rattle.search_trace.proofs.StackLaws.{wait_on_none, wait_on_wait, wait_on_move}
use native.Mathlib.Omega.{arith}
use Rattle.search_trace.proofs.Path.push_wait.Goals as goal

pub returns-then-self-eq0 : goal.returns-then-self-eq0
returns-then-self-eq0 c = c.push.ensures ∙ wait_on_none c.args.self.now.codes c.args.self.now.count (omega arith)

pub returns-then-top-lt-FIRST_MOVE : goal.returns-then-top-lt-FIRST_MOVE
returns-then-top-lt-FIRST_MOVE c = c.push-then-top-lt-FIRST_MOVE.ensures ∙ wait_on_wait c.args.self.now.codes c.args.self.now.count (omega arith) (omega arith) (omega arith)

pub returns : goal.returns
returns c = c.push-2.ensures ∙ wait_on_move c.args.self.now.codes c.args.self.now.count (omega arith) (omega arith)
