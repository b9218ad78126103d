-- `search_reach::explore` meets its contract: below each block the pairs are exactly the reached ones, and the tug could not end before.
-- Assumes nothing.
use Rattle.search_reach.proofs.LoopLaws.{Reaching, NoEnd}
use Rattle.search_reach.proofs.explore.Given as goal

abbrev pub invariant-loop-block : goal.invariant-loop-block
invariant-loop-block l = record {
  reaching : Reaching l.scene l.ends l.tables l.trip l.block l.tab l.reached;
  no_end : NoEnd l.scene l.ends l.tables l.trip l.block;
}
