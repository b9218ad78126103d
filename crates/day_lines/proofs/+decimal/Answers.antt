-- A number below 10 is its own last digit.
use Rattle.std.proofs.Common.{rules}
use Rattle.day_lines.proofs.Laws.{digit_alone}
use Rattle.day_lines.proofs.+decimal.Goals as goal

pub returns-then-n-lt10-clause-spelled : goal.returns-then-n-lt10-clause-spelled
returns-then-n-lt10-clause-spelled t c = digit_alone c.args.digits.now c.args.n (search rules) c.if-n-lt10.true
