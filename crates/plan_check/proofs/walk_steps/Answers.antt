-- `plan_check::walk_steps` meets its contract. The invariant: the steps from the place at on lead from here where all lead from the start.
-- Assumes nothing.
use Prim.Native.Nat.{ℕ}
use mathlib.Core.Path.{◌≡◌, sym, ap, ◌∙◌}
use mathlib.Core.List.{List}
use lib.ListN.{length}
use Rattle.meaning.specs.Site.{site_of}
use Rattle.site.specs.Halls.{site_in, free_in}
use Rattle.meaning.proofs.ReachLaws.{wait_ends, move_ends}
use Rattle.light_steps.proofs.StepLaws.{wait_on, move_on, end_on, never_wrong}
use Rattle.plan_steps.specs.Nodes.{node_of}
use Rattle.plan_steps.proofs.Laws.{known, read_motion}
use Rattle.plan_steps.proofs.StepLaws.{move_unknown}
use Rattle.plan_steps.proofs.NodeLaws.{next_wait, next_move}
use Rattle.plan_check.proofs.WalkLaws.{shown_in, walk_stops, walk_goes, walk_ends}
use borrow.Author.Rules.{rules}
use native.Mathlib.Omega.{arith}
use Rattle.plan_check.proofs.walk_steps.Goals as goal

pub returns-then-not-wait_allowed : goal.returns-then-not-wait_allowed
returns-then-not-wait_allowed c = let o = wait_on _ _ _ _ (sym c.in-Wait.is ∙ c.step_at.ensures) in
    walk_stops c.loop-n.invariant o (sym c.wait_allowed.ensures ∙ c.if-not-wait_allowed.true)

pub after_wait-here-requires : goal.after_wait-here-requires
after_wait-here-requires c =
    let site = known c.args.hall.now.ready in
    let h = c.loop-n.invariant.known.tick in
    let k = site.short in
    search rules

pub loop-n-smaller-in-Wait : goal.loop-n-smaller-in-Wait
loop-n-smaller-in-Wait c = let o = wait_on _ _ _ _ (sym c.in-Wait.is ∙ c.step_at.ensures) in
    omega (arith, o.ahead, o.inside)

pub loop-n-preserved-in-Wait : goal.loop-n-preserved-in-Wait
loop-n-preserved-in-Wait c = let o = wait_on _ _ _ _ (sym c.in-Wait.is ∙ c.step_at.ensures) in
    let l = c.loop-n in
    let ok = sym c.wait_allowed.ensures ∙ c.if-not-wait_allowed.false in
    walk_goes l.invariant o ok (next_wait l.invariant.known (wait_ends _ _ _ (node_of l.here) ok) c.after_wait-here.ensures)

pub returns-then-hall-k : goal.returns-then-hall-k
returns-then-hall-k c =
    let site = known c.args.hall.now.ready in
    let o = move_on _ _ _ _ (sym c.in-Move.is ∙ c.step_at.ensures) in
    walk_stops c.loop-n.invariant o
    (move_unknown (site_in c.args.hall.now) (free_in c.args.hall.now) (node_of c.loop-n.here) _ (omega (arith, site.motions)))

pub motion_at-m-requires : goal.motion_at-m-requires
motion_at-m-requires c =
    let site = known c.args.hall.now.ready in
    let same : length (site_of c.args.motions.now.file.bytes.now).motions ≡ length (site_in c.args.hall.now).motions = ap (λ (f : List ℕ). length (site_of f).motions) c.requires.same_file in
    omega (arith, site.motions, same)

pub move_allowed-requires : goal.move_allowed-requires
move_allowed-requires c =
    let site = known c.args.hall.now.ready in
    (c.loop-n.invariant.known, (read_motion c.args.hall.now.ready (omega (arith, site.motions)) (shown_in _ c.requires.same_file c.motion_at-m.ensures)).sweeps)

pub returns-then-not-move_allowed : goal.returns-then-not-move_allowed
returns-then-not-move_allowed c =
    let site = known c.args.hall.now.ready in
    let o = move_on _ _ _ _ (sym c.in-Move.is ∙ c.step_at.ensures) in
    let named = c.move_allowed.ensures _ (omega (arith, site.motions)) (shown_in _ c.requires.same_file c.motion_at-m.ensures) in
    walk_stops c.loop-n.invariant o (sym named ∙ c.if-not-move_allowed.true)

pub after_move-here-requires : goal.after_move-here-requires
after_move-here-requires c =
    let site = known c.args.hall.now.ready in
    let h = c.loop-n.invariant.known.tick in
    let k = site.short in
    search rules

pub loop-n-smaller : goal.loop-n-smaller
loop-n-smaller c = let o = move_on _ _ _ _ (sym c.in-Move.is ∙ c.step_at.ensures) in
    omega (arith, o.ahead, o.inside)

pub loop-n-preserved : goal.loop-n-preserved
loop-n-preserved c =
    let site = known c.args.hall.now.ready in
    let l = c.loop-n in
    let o = move_on _ _ _ _ (sym c.in-Move.is ∙ c.step_at.ensures) in
    let shown = shown_in _ c.requires.same_file c.motion_at-m.ensures in
    let below = site.motions in
    let named = c.move_allowed.ensures _ (omega arith) shown in
    let r = read_motion c.args.hall.now.ready (omega arith) shown in
    let ok = sym named ∙ c.if-not-move_allowed.false in
    walk_goes l.invariant o ok (next_move shown r.to (move_ends _ _ _ (node_of l.here) ok) c.after_move-here.ensures)

pub returns-in-End : goal.returns-in-End
returns-in-End c = walk_ends c.loop-n.invariant (end_on _ _ (sym c.in-End.is ∙ c.step_at.ensures))

pub returns-in-Wrong : goal.returns-in-Wrong
returns-in-Wrong c = absurd (never_wrong _ _ c.loop-n.invariant.laid (sym c.in-Wrong.is ∙ c.step_at.ensures))
