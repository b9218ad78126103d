-- `search_site::longest_span` meets its contract. The invariant: none of the first m motions is longer, and the next one is at the place.
-- Assumes nothing.
use Rattle.site_read.proofs.Laws.{Reached}
use Rattle.search_site.specs.Decoded.{LongestTo}
use Rattle.search_site.proofs.longest_span.Given as goal

abbrev pub invariant-loop-m : goal.invariant-loop-m
invariant-loop-m l = record { reached : Reached l.file.bytes.now l.at l._m; longest : LongestTo l.file.bytes.now l._m l.most }
