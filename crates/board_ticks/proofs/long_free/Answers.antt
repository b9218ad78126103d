-- `board_ticks::long_free` meets its contract.
-- Assumes nothing.
use Rattle.std.proofs.Common.{ap₂, rules, tests, ◌&&◌, ◌∙◌}
use Rattle.std.specs.List.{list_all}
use Rattle.std.proofs.lemmas.Iterator.{YieldsList-from_slice}
use Rattle.std.proofs.lemmas.Iterator.Search.{all_from_yields_List}
use Rattle.board_ticks.proofs.ByteLaws.{told_by_pieces}
use Rattle.board_ticks.proofs.TickLaws.{unheld}
use Rattle.board_ticks.proofs.long_free.Goals as goal

pub returns : goal.returns
returns c =
    let pieces = all_from_yields_List (list_all unheld) _ _ c.all.result c.all.ensures.ran (YieldsList-from_slice c.as_chunks.result.0.now cc) (λ x b q k. search (rules, tests)) in
    ap₂ (λ a b. a && b) pieces c.piece_free.ensures ∙ told_by_pieces unheld _ _ c.args.bytes.now _ _ c.as_chunks.ensures.front c.as_chunks.ensures.back
