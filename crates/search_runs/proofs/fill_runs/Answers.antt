-- `search_runs::fill_runs` meets its contract: the tables below t are done.
-- Assumes nothing.
use Rattle.std.proofs.Common.{refl, ◌∙◌, arith}
use Rattle.search_runs.proofs.TableLaws.{first_table}
use Rattle.search_runs.proofs.fill_runs.Goals as goal

pub loop-t-init : goal.loop-t-init
loop-t-init c = (refl, λ g b h f. (h, first_table g _ _ b _ c.requires.le_tables.0 h f))

pub loop-t-preserved : goal.loop-t-preserved
loop-t-preserved c =
    let next = c.longer_runs.ensures in (
      next.tab_len_unchanged ∙ c.loop-t.invariant.0,
      λ g b h f. let w = c.loop-t.invariant.1 g b h f in next.by_index g _ b (omega arith) w.0 w.1,
    )
