-- `checks::check_board` meets its contract: a file that is accepted is laid out.
-- Assumes nothing.
use Rattle.checks.proofs.Laws.{site_laid}
use Rattle.checks.proofs.check_board.Goals as goal

pub invariant_of-result : goal.invariant_of-result
invariant_of-result c = record { laid = site_laid _ c.in_ok-sizes.ensures.number }
