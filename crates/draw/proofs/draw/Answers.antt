-- `draw::draw` meets its contract.
-- Assumes nothing.
use mathlib.Core.Path.{sym, ap, ◌∙◌}
use Rattle.std.specs.Prelude.{Ok}
use Rattle.meaning.proofs.SiteLaws.{site_read}
use Rattle.meaning.proofs.PictureLaws.{site_passed, can_draw, draw_accepted}
use Rattle.site_read.proofs.Laws.{read_laid}
use Rattle.draw.specs.Drawn.{drawn_of}
use Rattle.draw.proofs.AnswerLaws.{site_first, all_passed, refused_drawn}
use Rattle.draw.proofs.draw.Goals as goal

pub returns-in_err-sizes-clause-value : goal.returns-in_err-sizes-clause-value
returns-in_err-sizes-clause-value c =
    refused_drawn c.args.file.now c.args.light.now c.args.k c.args.step _ (site_first _ _ _ _ c.in_err-sizes.ensures.number) _ c.from_residual.ensures

pub returns-in_err-check_picture-clause-value : goal.returns-in_err-check_picture-clause-value
returns-in_err-check_picture-clause-value c =
    let read = site_read c.args.file.now (sym c.in_ok-sizes.ensures.number) in
    refused_drawn c.args.file.now c.args.light.now c.args.k c.args.step _
    (c.in_err-check_picture.ensures _ c.in_ok-sizes.ensures.sizes ∙ sym (site_passed c.args.file.now c.args.light.now c.args.k read))
    _ c.from_residual-in_err-check_picture.ensures

pub invariant_of-drawing : goal.invariant_of-drawing
invariant_of-drawing c = record { laid = read_laid _ _ (site_read c.args.file.now (sym c.in_ok-sizes.ensures.number)) }

pub invariant_of-drawing-2 : goal.invariant_of-drawing-2
invariant_of-drawing-2 c =
    let sizes = c.in_ok-sizes.ensures.sizes in
    let read = site_read c.args.file.now (sym c.in_ok-sizes.ensures.number) in
    let d = can_draw c.args.file.now c.args.light.now c.args.k read (all_passed _ _ _ read (c.in_ok-check_picture.ensures _ sizes)) in
    record { drawable = record { read = read; sizes = sizes; centres = d.centres } }

pub picture-requires : goal.picture-requires
picture-requires c =
    let read = site_read c.args.file.now (sym c.in_ok-sizes.ensures.number) in
    let d = can_draw c.args.file.now c.args.light.now c.args.k read (all_passed _ _ _ read (c.in_ok-check_picture.ensures _ c.in_ok-sizes.ensures.sizes)) in
    (record { lit = d.lit; named = d.named }, d.frame)

pub returns-clause-value : goal.returns-clause-value
returns-clause-value c =
    let read = site_read c.args.file.now (sym c.in_ok-sizes.ensures.number) in
    let none = all_passed _ _ _ read (c.in_ok-check_picture.ensures _ c.in_ok-sizes.ensures.sizes) in
    ap Ok c.picture.ensures ∙ sym (ap drawn_of (draw_accepted c.args.file.now c.args.light.now c.args.step c.args.k none))
