-- `day_turns::turn` meets its contract.
-- Assumes nothing.
use Rattle.meaning.specs.Fields.{fields}
use Rattle.day_calls.specs.Performed.{day_at}
use Rattle.day_turns.proofs.TurnLaws.{turned_call, turned_bad, turned_end}
use Rattle.day_turns.proofs.turn.Goals as goal

pub returns-in-Call : goal.returns-in-Call
returns-in-Call c =
    let a = c.args in
    turned_call a.file.now a.first (day_at a.board.now a.out.now a.light) _ (fields a.bytes.now) _ _ _ c.in-Call.ensures c.perform_line.ensures

pub returns-in-Bad : goal.returns-in-Bad
returns-in-Bad c =
    let a = c.args in
    turned_bad a.file.now a.first (day_at a.board.now a.out.now a.light) _ (fields a.bytes.now) _ _ a.light c.requires.areas.light_inside _ _ c.ended.ensures
    c.in-Bad.ensures c.write_line.ensures.prefix_len c.write_line.ensures.line_after

pub returns-in-End : goal.returns-in-End
returns-in-End c =
    let a = c.args in
    turned_end a.file.now a.first (day_at a.board.now a.out.now a.light) _ (fields a.bytes.now) _ _ a.light c.requires.areas.light_inside _ _ c.ended-in-End.ensures
    c.in-End.ensures c.write_end.ensures.prefix_len c.write_end.ensures.line_after
