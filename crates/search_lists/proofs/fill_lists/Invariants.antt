-- `search_lists::fill_lists` meets its contract: the motions from m on are on their lists.
-- Assumes nothing.
use Rattle.search_lists.specs.Lists.{end_number}
use Rattle.search_lists.proofs.ListLaws.{Listing}
use Rattle.search_lists.proofs.fill_lists.Given as goal

abbrev pub invariant-loop-m : goal.invariant-loop-m
invariant-loop-m l = Listing (end_number l.end) l.k l.n l.motions l.lists l.m
