-- `search_back::wait_hit` meets its contract: by cases of its tests.
-- Assumes nothing.
use native.Mathlib.Omega.{arith}
use Prim.Native.Nat.{ℕ, ◌-◌}
use mathlib.Core.Path.{sym, ap, ◌∙◌}
use mathlib.Core.Bool.{Bool}
use Rattle.site.specs.Halls.{site_in, free_in}
use Rattle.board_ticks.specs.Ticks.{from_to}
use Rattle.plan_steps.proofs.Laws.{known}
use Rattle.search_back.proofs.HitLaws.{wait_moving, wait_unset, wait_tested}
use Rattle.search_back.proofs.SceneLaws.{state_known, state_shown}
use Rattle.search_back.proofs.wait_hit.Goals as goal

pub returns-then-speed_of-ne0 : goal.returns-then-speed_of-ne0
returns-then-speed_of-ne0 c =
    wait_moving _ _ _ _ _ (λ e. c.if-speed_of-ne0.true (c.speed_of.ensures ∙ (state_shown c.args.scene.now c.args.s c.requires.0).1 ∙ e))

pub is_set-requires : goal.is_set-requires
is_set-requires c = let k = known c.args.scene.now.hall.ready in
    (omega arith, omega (arith, k.short, k.horizon))

pub ticks_of-requires : goal.ticks_of-requires
ticks_of-requires c =
    let scene = c.args.scene.now in
    omega (arith, c.cell_of-cell.ensures, (state_shown scene c.args.s c.requires.0).0, (known scene.hall.ready).cell c.args.s (state_known scene c.args.s c.requires.0))

pub returns-then-is_set : goal.returns-then-is_set
returns-then-is_set c =
    let scene = c.args.scene.now in
    let (cell, speed) = state_shown scene c.args.s c.requires.0 in
    wait_tested (site_in scene.hall) (free_in scene.hall) c.args.reached.now c.args.s c.args.t _ _ _ (omega arith) (omega (arith, (known scene.hall.ready).horizon))
    (sym speed ∙ sym c.speed_of.ensures ∙ c.if-speed_of-ne0.false) (c.cell_of-cell.ensures ∙ cell) c.is_set.ensures c.if-is_set.true
    (c.run_free.ensures.value ∙ ap (λ (f : ℕ → Bool). from_to f (c.args.t - 1) c.args.t) c.ticks_of.ensures.frees)

pub returns : goal.returns
returns c = wait_unset _ _ _ _ _ _ c.is_set.ensures c.if-is_set.false
