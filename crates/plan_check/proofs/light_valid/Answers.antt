-- `plan_check::light_valid` meets its contract: the light's steps lead from its start to where it says, and the tug can unload there.
-- Assumes nothing.
use mathlib.Core.Path.{sym, ap, ◌∙◌}
use Rattle.site.specs.Halls.{site_in, free_in}
use Rattle.meaning.proofs.SiteLaws.{read_well}
use Rattle.light_read.proofs.HeadLaws.{accepted}
use Rattle.plan_check.specs.Walks.{walk_end_case}
use Rattle.plan_check.proofs.LightLaws.{start_known, valid_off, valid_walk, valid_none}
use Rattle.plan_check.proofs.WalkLaws.{walk_known}
use Rattle.plan_check.proofs.light_valid.Goals as goal

pub walk_steps-requires : goal.walk_steps-requires
walk_steps-requires c =
    let starts = sym c.start_free.ensures ∙ c.if-not-start_free.false in
    record {
      same_file = c.requires.same_file;
      here = start_known c.args.hall.now.file.bytes.now _ c.start_of-start.result starts;
      laid = (accepted c.args.light.now c.requires.light_value).laid;
    }

pub unloads_at-requires : goal.unloads_at-requires
unloads_at-requires c =
    let starts = sym c.start_free.ensures ∙ c.if-not-start_free.false in
    walk_known c.args.hall.now.file.bytes.now (read_well _ _ c.args.hall.now.ready.read) _ _ _ c.in-Some.b starts
    (sym (ap walk_end_case c.in-Some.is) ∙ c.walk_steps.ensures)

pub returns-in-Some : goal.returns-in-Some
returns-in-Some c =
    let starts = sym c.start_free.ensures ∙ c.if-not-start_free.false in
    c.unloads_at.ensures
    ∙ valid_walk (site_in c.args.hall.now) (free_in c.args.hall.now) c.args.light.now _ c.read_head-head.ensures _ c.start_of-start.ensures c.requires.light_value starts _
    (sym (ap walk_end_case c.in-Some.is) ∙ c.walk_steps.ensures)

pub returns-in-None : goal.returns-in-None
returns-in-None c =
    let starts = sym c.start_free.ensures ∙ c.if-not-start_free.false in
    valid_none (site_in c.args.hall.now) (free_in c.args.hall.now) c.args.light.now _ c.read_head-head.ensures _ c.start_of-start.ensures c.requires.light_value starts
    (sym (ap walk_end_case c.in-None.is) ∙ c.walk_steps.ensures)

pub returns-then-not-start_free : goal.returns-then-not-start_free
returns-then-not-start_free c =
    sym (valid_off (site_in c.args.hall.now) (free_in c.args.hall.now) c.args.light.now _ c.read_head-head.ensures _ c.start_of-start.ensures
    (sym c.start_free.ensures ∙ c.if-not-start_free.true))
