-- `search_trace::Path::push` meets its contract.
-- Assumes nothing.
use Rattle.search_trace.proofs.StackLaws.{pushed}
use native.Mathlib.Omega.{arith}
use Rattle.search_trace.proofs.Path.push.Goals as goal

pub returns : goal.returns
returns c = pushed c.args.self.now.codes c.args.self.now.count c.args.code (omega arith)
