-- `search_plan::search_rows` meets its contract: each size is taken where it has room.
-- Assumes nothing.
use native.Mathlib.Omega.{arith}
use Rattle.search_plan.proofs.PartsLaws.{all_rows, tab_room}
use Rattle.search_plan.proofs.search_rows.Goals as goal

pub overflow_mul-rows : goal.overflow_mul-rows
overflow_mul-rows c = let query = c.args.query.now in
    omega (arith, all_rows query.hall query.needed)

pub search_tables-requires-2 : goal.search_tables-requires-2
search_tables-requires-2 c = let query = c.args.query.now in
    tab_room 9000 (all_rows query.hall query.needed) (omega arith)
