-- `search_runs::longer_runs` meets its contract: the rows of the cells below c are done.
-- Assumes nothing.
use Rattle.std.proofs.Common.{◌∙◌, arith}
use Rattle.search_runs.proofs.TableLaws.{lengthening_turn, rows_from, rows_to_lem, lengths_from}
use Rattle.search_runs.proofs.longer_runs.Goals as goal

pub overflow_sub-back : goal.overflow_sub-back
overflow_sub-back c = omega (arith, (lengths_from c.args.t (omega arith) (omega arith)).longer)

pub longer_row-requires : goal.longer_row-requires
longer_row-requires c = let gr = lengths_from c.args.t (omega arith) (omega arith) in (
  omega (arith, rows_from c.args.t c.args.cells (omega arith)),
  (omega (arith, rows_to_lem c.args.t c.args.cells, c.loop-c.invariant.0), (omega (arith, gr.longer), omega (arith, gr.near))),
)

pub loop-c-preserved : goal.loop-c-preserved
loop-c-preserved c = (
  c.longer_row.ensures.sized ∙ c.loop-c.invariant.0,
  λ g tables b lt h w. lengthening_turn g _ tables b _ _ _ _ _ c.requires.le_t.0 c.requires.le_t.1.0 lt (omega arith) (omega arith) c.longer_row.ensures (c.loop-c.invariant.1 g tables b lt h w),
)
