-- `search_bytes::turn` meets its contract: each call is one of the three exchanges.
-- Assumes nothing.
use Rattle.std.proofs.Common.{ap, ◌∙◌}
use Rattle.search_bytes.specs.Words.{exchanged, turned_of}
use Rattle.search_bytes.proofs.turn.Goals as goal

pub returns : goal.returns
unfolding turned_of
returns c = c.exchange.ensures
    ∙ ap (exchanged 28 0xf0f0_f0f0) (c.exchange-z.ensures ∙ ap (exchanged 14 0x0000_cccc_0000_cccc) c.exchange-y.ensures)
