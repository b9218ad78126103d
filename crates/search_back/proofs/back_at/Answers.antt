-- `search_back::back_at` meets its contract: each way out is a case of the word.
-- Assumes nothing.
use native.Mathlib.Omega.{arith}
use Rattle.meaning.proofs.SiteLaws.{read_well}
use Rattle.plan_steps.proofs.Laws.{known}
use Rattle.search_back.proofs.SceneLaws.{state_known}
use Rattle.search_back.proofs.WordLaws.{word_wait, word_move, word_start}
use Rattle.search_back.proofs.back_at.Goals as goal

pub returns-then-wait_hit : goal.returns-then-wait_hit
returns-then-wait_hit c = λ start rows.
    let scene = c.args.scene.now in
    word_wait _ (read_well _ _ scene.hall.ready.read) _ start _ _ _ _ rows (state_known scene _ c.requires.s_lt_states.0) c.if-tick-t.true _ c.wait_hit.ensures c.if-wait_hit.true

pub returns-then-tick-t : goal.returns-then-tick-t
returns-then-tick-t c = λ start rows.
    let scene = c.args.scene.now in
    word_move _ (read_well _ _ scene.hall.ready.read) _ start _ _ _ _ rows (state_known scene _ c.requires.s_lt_states.0) c.if-tick-t.true _ _ c.wait_hit.ensures c.if-wait_hit.false c.first_move.ensures

pub is_set-requires : goal.is_set-requires
is_set-requires c = let k = known c.args.scene.now.hall.ready in
    (omega arith, omega (arith, k.short, k.horizon))

pub returns-then-is_set : goal.returns-then-is_set
returns-then-is_set c = λ start rows.
    let scene = c.args.scene.now in
    word_start _ (read_well _ _ scene.hall.ready.read) _ start _ _ _ _ rows (state_known scene _ c.requires.s_lt_states.0) _ _ (omega arith) (omega arith) c.is_set.ensures c.if-is_set.true

pub returns : goal.returns
returns c = λ start rows.
    let scene = c.args.scene.now in
    word_start _ (read_well _ _ scene.hall.ready.read) _ start _ _ _ _ rows (state_known scene _ c.requires.s_lt_states.0) _ _ (omega arith) (omega arith) c.is_set.ensures c.if-is_set.false
