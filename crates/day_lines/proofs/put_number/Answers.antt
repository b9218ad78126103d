-- `day_lines::put_number` meets its contract: the digits are copied to the front of what is left of the line.
-- Assumes nothing.
use Rattle.std.proofs.Common.{arith}
use Rattle.day_lines.proofs.Laws.{number_put}
use Rattle.day_lines.proofs.put_number.Goals as goal

pub returns-clause-line_after : goal.returns-clause-line_after
returns-clause-line_after c =
    let a = c.args in
    let d = c.decimal-count in
    number_put a.at a.n d.result c.copy.result a.line.now _ _ c.copy.new.to _
    (omega arith) d.ensures.fewest d.ensures.spelled c.copy.ensures.value c.copy.ensures.after
