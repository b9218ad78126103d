-- `day_orders::wanted` meets its contract.
-- Assumes nothing.
use Rattle.std.proofs.Common.{arith}
use Rattle.day_orders.proofs.Laws.{wanted_few, wanted_many, wanted_cut}
use Rattle.day_orders.proofs.wanted.Goals as goal

pub returns-then-header-lt-FIELD_HEADER-clause-value : goal.returns-then-header-lt-FIELD_HEADER-clause-value
returns-then-header-lt-FIELD_HEADER-clause-value c = wanted_cut c.args.header.now (omega arith)

pub returns-then-n-gt-ROUTE_SIZE-clause-value : goal.returns-then-n-gt-ROUTE_SIZE-clause-value
returns-then-n-gt-ROUTE_SIZE-clause-value c = wanted_many c.args.header.now _ c.number_at-n.ensures.0 (omega arith)

pub returns-clause-value : goal.returns-clause-value
returns-clause-value c = wanted_few c.args.header.now _ c.number_at-n.ensures.0 (omega arith)
