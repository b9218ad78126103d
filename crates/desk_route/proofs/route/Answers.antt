-- `desk_route::route` meets its contract.
-- Assumes nothing.
use Rattle.std.proofs.Common.{arith, refl, ◌∙◌, rules}
use Rattle.desk_route.proofs.Laws.{route_first, route_later, route_asked, route_room, route_words, route_found, route_cleared}
use Rattle.desk_route.proofs.route.Goals as goal

pub returns-in_err-hall : goal.returns-in_err-hall
returns-in_err-hall c =
    let a = c.args in
    let leaves = route_first _ _ a.out.now a.work.now a.tug a.start a.tick a.goal a.dwell _ c.in_err-hall.ensures.number _ c.from_residual.ensures in
    record {
      number = leaves.number;
      values = leaves.values;
      out_after = leaves.out_after;
      work_after = leaves.work_after;
      file_unchanged = refl;
      board_unchanged = refl;
    }

pub returns-in_err-check_route : goal.returns-in_err-check_route
returns-in_err-check_route c =
    let made = c.in_ok-hall.ensures in
    let leaves =
    route_later _ _ _ _ _ _ _ _ _ c.in_ok-hall.hall made.hall made.number _ c.in_err-check_route.ensures _ c.from_residual-in_err-check_route.ensures in
    record {
      number = leaves.number;
      values = leaves.values;
      out_after = leaves.out_after;
      work_after = leaves.work_after;
      file_unchanged = refl;
      board_unchanged = refl;
    }

pub find-requires : goal.find-requires
find-requires c =
    let made = c.in_ok-hall.ensures in
    record {
      asked = route_asked _ _ _ _ _ _ _ _ _ c.in_ok-hall.hall made.hall made.number c.in_ok-check_route.ensures;
      room = route_room _ _ _ _ _ _ _ _ _ c.in_ok-hall.hall made.hall made.number c.in_ok-check_route.ensures;
    }

pub zero_words-requires : goal.zero_words-requires
zero_words-requires c =
    let made = c.in_ok-hall.ensures in
    omega (arith, route_words _ _ _ _ _ _ _ _ _ c.in_ok-hall.hall made.hall made.number c.in_ok-check_route.ensures _ c.words_needed-words.ensures)

pub returns : goal.returns
returns c =
    let made = c.in_ok-hall.ensures in
    let leaves =
    route_found _ _ _ _ _ _ _ _ _ c.in_ok-hall.hall made.hall made.number c.in_ok-check_route.ensures
    c.find.result c.find.ensures.value _ c.find.ensures.out_after in
    record {
      number = (search rules) ∙ leaves.number;
      values = (search rules) ∙ leaves.values;
      out_after = leaves.out_after;
      work_after = route_cleared _ _ _ _ _ _ _ _ _ c.in_ok-hall.hall made.hall made.number c.in_ok-check_route.ensures _ c.words_needed-words.ensures
          _ (omega arith) _ c.zero_words.ensures ∙ leaves.work_after;
      file_unchanged = refl;
      board_unchanged = refl;
    }
