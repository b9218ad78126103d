-- `plan_mark::mark_light` meets its contract: the start's pair, then those of the steps, then those of the unloading.
-- Assumes nothing.
use mathlib.Core.Path.{◌∙◌}
use Rattle.meaning.specs.Site.{site_of}
use Rattle.meaning.proofs.SiteLaws.{read_well}
use Rattle.light_read.proofs.HeadLaws.{accepted}
use Rattle.plan_mark.proofs.MarkLaws.{keep, valid_start, valid_steps, valid_dock, light_marks}
use native.Mathlib.Omega.{arith}
use Rattle.plan_mark.proofs.mark_light.Goals as goal

pub mark_wait-requires : goal.mark_wait-requires
mark_wait-requires c = let p = c.requires in
    let h = valid_start c.args.motions.now.file.bytes.now _ c.args.light.now p.ready.1 p.light_value _ c.read_head-head.ensures c.start_of-start.result c.start_of-start.ensures in
    (p.ready.0, h, omega (arith, h.tick))

pub mark_steps-requires : goal.mark_steps-requires
mark_steps-requires c = let p = c.requires in
    let head = c.read_head-head.ensures in
    let start = c.start_of-start.ensures in
    let b = c.start_of-start.result in
    record {
      ready = (
        keep c.mark_wait.auto.board p.ready.0,
        valid_start c.args.motions.now.file.bytes.now _ c.args.light.now p.ready.1 p.light_value _ head b start,
      );
      laid_in_time = (
        (accepted c.args.light.now p.ready.1).laid,
        valid_steps c.args.motions.now.file.bytes.now _ c.args.light.now p.ready.1 p.light_value _ head b start,
      );
    }

pub mark_wait-requires-2 : goal.mark_wait-requires-2
mark_wait-requires-2 c = let (known, in_time) = valid_dock c.args.motions.now.file.bytes.now (read_well _ _ c.requires.ready.0.read) _ c.args.light.now c.requires.light_value _ c.read_head-head.ensures _ c.goal_of-goal.ensures in
    (keep (c.mark_steps.auto.board ∙ c.mark_wait.auto.board) c.requires.ready.0, known, in_time)

pub returns : goal.returns
returns c = light_marks (site_of c.args.motions.now.file.bytes.now) c.args.light.now _ c.start_of-start.result c.goal_of-goal.result c.args.board.now _ _ _ c.requires.ready.1
    c.read_head-head.ensures c.start_of-start.ensures c.goal_of-goal.ensures
    c.mark_wait.ensures c.mark_steps.ensures c.mark_wait-2.ensures
