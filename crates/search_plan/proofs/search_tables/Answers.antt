-- `search_plan::search_tables` meets its contract: its tables are empty and have room.
-- Assumes nothing.
use mathlib.Core.Path.{subst, sym}
use Prim.Native.Nat.{ℕ}
use lib.ListN.{length-replicate}
use Rattle.search_plan.specs.Planned.{TabRoom}
use Rattle.search_plan.proofs.PartsLaws.{blank}
use Rattle.search_plan.proofs.search_tables.Goals as goal

pub search_sized-requires : goal.search_sized-requires
search_sized-requires g c = (subst (TabRoom c.args.query.now.hall.sizes c.args.query.now.tables) (sym (length-replicate {A = ℕ} g.row.TABLE_WORDS 0)) c.requires, blank g.row.TABLE_WORDS)
