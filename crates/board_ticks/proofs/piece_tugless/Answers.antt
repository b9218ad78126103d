-- `board_ticks::piece_tugless` meets its contract.
-- Assumes nothing.
use Rattle.std.proofs.Common.{ap, rules, ◌∙◌}
use Rattle.std.specs.List.{list_all}
use Rattle.board_ticks.proofs.ByteLaws.{all_by_fold}
use Rattle.board_ticks.proofs.TickLaws.{tugless}
use Rattle.board_ticks.proofs.piece_tugless.Goals as goal

pub returns : goal.returns
returns c = all_by_fold tugless _ _ (λ a x b k call. search rules) _ _ c.fold.ensures.ran ∙ ap (list_all tugless) c.iter.ensures.rest
