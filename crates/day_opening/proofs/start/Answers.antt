-- `day_opening::start` meets its contract.
-- Assumes nothing.
use Rattle.std.proofs.Common.{◌≡◌, ◌∙◌, ap, length, take, min}
use Rattle.std.proofs.Math.Seq.{length-take-le}
use Rattle.meaning.specs.Limits.{day_area}
use Rattle.meaning.specs.Answers.{lowest}
use Rattle.meaning.specs.Site.{site_of, site_refusals}
use Rattle.meaning.specs.Board.{board_length}
use Rattle.day_opening.proofs.OpeningLaws.{opened, refused}
use Rattle.day_opening.proofs.start.Goals as goal
use Rattle.day_opening.proofs.start.Goals.{After-board_need-need}

-- the board's part of the area
inside : (c : After-board_need-need) → length (take c.board_need-need.result c.args.area.now) ≡ c.board_need-need.result
inside c = length-take-le c.board_need-need.result c.args.area.now c.board_need-need.ensures.upper_bound

part : (c : After-board_need-need) → lowest (site_refusals c.args.file.now) ≡ 0
    → c.board_need-need.result ≡ min (board_length (site_of c.args.file.now)) day_area
part c z = c.board_need-need.ensures.value z ∙ ap (min (board_length (site_of c.args.file.now))) c.requires

pub returns-in-Ok-clause-opens : goal.returns-in-Ok-clause-opens
returns-in-Ok-clause-opens c =
    let at = (goal.at.returns-in-Ok-clause-opens c).After-board_need-need in
    opened c.args.file.now c.args.area.now c.board_need-need.result (inside at) (part at) c.in-Ok.ensures.number _ c.open.ensures.board_after

pub returns-in-Err-clause-refuses : goal.returns-in-Err-clause-refuses
returns-in-Err-clause-refuses c =
    let at = (goal.at.returns-in-Err-clause-refuses c).After-board_need-need in
    refused c.args.file.now c.args.area.now c.board_need-need.result (inside at) (part at) _ c.in-Err.ensures.number _ (c.from-number.ensures ∙ c.from.ensures)
    _ _ c.write_line.ensures.prefix_len c.write_line.ensures.line_after
