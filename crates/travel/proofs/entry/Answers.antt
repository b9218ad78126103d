-- `travel::entry` meets its contract: the test passes at every entry of the table that the source carries.
-- Assumes nothing.
use Prim.Native.Nat.{ℕ}
use mathlib.Core.Path.{refl}
use mathlib.Core.List.{List}
use borrow.Author.Rules.{rules}
use Rattle.meaning.specs.Basics.{all_below}
use Rattle.travel_runs.specs.Entries.{farthest}
use Rattle.travel_runs.proofs.TableLaws.{is_fewest, table_right}
use Rattle.travel.proofs.entry.Reads as reads
use Rattle.travel.proofs.entry.Lts as lts
use Rattle.travel.proofs.entry.Goals as goal

-- the table, as the function's body has it
abbrev table : goal.After-result-2-1 → List ℕ
table c = (lts.m5 reads.Pre reads.Post c.before.before c.result-1.given).1.1.0.now

-- `refl` is the test, computed: its table is read off the source
pub returns : goal.returns
unfolding is_fewest farthest all_below
returns c = table_right (table c) 512 refl c.args.d (search rules)
