-- `day_calls::perform` meets its contract.
-- Assumes nothing.
use Rattle.std.proofs.Common.{ap, take}
use Rattle.meaning.specs.Calls.{close, withdraw, post}
use Rattle.day_orders.specs.Orders.{call_by}
use Rattle.day_calls.proofs.Laws.{changed_performed, routed_performed}
use Rattle.day_calls.proofs.perform.Goals as goal

pub returns-in-Close-clause-performed : goal.returns-in-Close-clause-performed
returns-in-Close-clause-performed c =
    let a = c.args in
    (changed_performed a.file.now a.board.now a.out.now a.light (close _ _ _ _) tt _ _ _ _ (ap (call_by (take a.light a.out.now)) c.in-Close.is)
    c.close.ensures.number c.close.ensures.board_after c.changed.ensures c.requires.light_inside).0

pub returns-in-Withdraw-clause-performed : goal.returns-in-Withdraw-clause-performed
returns-in-Withdraw-clause-performed c =
    let a = c.args in
    (changed_performed a.file.now a.board.now a.out.now a.light (withdraw _) tt _ _ _ _ (ap (call_by (take a.light a.out.now)) c.in-Withdraw.is)
    c.withdraw.ensures.number c.withdraw.ensures.board_after c.changed-in-Withdraw.ensures c.requires.light_inside).0

pub returns-in-Route-clause-performed : goal.returns-in-Route-clause-performed
returns-in-Route-clause-performed c =
    let a = c.args in
    routed_performed a.file.now a.board.now a.out.now a.words.now a.light _ _ _ _ _ c.requires.out_size c.requires.words_size _ _ _ _ (ap (call_by (take a.light a.out.now)) c.in-Route.is)
    c.route-g.ensures.number c.route-g.ensures.values c.route-g.ensures.out_after c.routed.ensures.0

pub returns-in-Post-clause-performed : goal.returns-in-Post-clause-performed
returns-in-Post-clause-performed c =
    let a = c.args in
    (changed_performed a.file.now a.board.now a.out.now a.light (post _) tt _ _ _ _ (ap (call_by (take a.light a.out.now)) c.in-Post.is)
    c.post.ensures.number c.post.ensures.board_after c.changed-in-Post.ensures c.requires.light_inside).0
