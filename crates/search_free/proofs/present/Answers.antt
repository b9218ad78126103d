-- `search_free::present` meets its contract: some ticks, or all 64, are below the width.
-- Assumes nothing.
use Rattle.std.proofs.Common.{arith}
use Rattle.search_free.proofs.MarginLaws.{present_some, present_all}
use Rattle.search_free.proofs.present.Goals as goal

pub returns-then-left-lt64 : goal.returns-then-left-lt64
returns-then-left-lt64 c = present_some _ _ _ c.saturating_sub-left.ensures (omega arith)

pub returns-else-left-lt64 : goal.returns-else-left-lt64
returns-else-left-lt64 c = present_all _ _ (omega (arith, c.saturating_sub-left.ensures))
