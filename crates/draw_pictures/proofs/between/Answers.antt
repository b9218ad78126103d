-- `draw_pictures::between` meets its contract.
-- Assumes nothing.
use native.Mathlib.Omega.{arith}
use Rattle.draw_pictures.proofs.Theorems.{exact}
use Rattle.draw_pictures.proofs.between.Goals as goal

pub returns : goal.returns
returns c = rw (c.from-from.ensures, c.from-to.ensures, c.share.ensures) (exact c.args.x c.args.y c.args.k (omega arith) (omega arith) (omega arith))
