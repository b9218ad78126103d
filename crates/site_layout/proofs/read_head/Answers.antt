-- `site_layout::read_head` meets its contract.
-- Assumes nothing.
use mathlib.Core.Path.{ap, ◌∙◌}
use Rattle.meaning.specs.Fields.{complete}
use Rattle.fields.proofs.Laws.{whole_at}
use Rattle.site_layout.proofs.Laws.{head_here, head_read}
use native.Mathlib.Omega.{arith}
use Rattle.site_layout.proofs.read_head.Goals as goal

pub header_at-h-requires : goal.header_at-h-requires
header_at-h-requires c =
    let f = c.args.file.now in
    let p = c.requires in
    (ap complete (whole_at f) ∙ p.0, omega (arith, (head_here f p.0 p.1).long))

pub number_at-requires : goal.number_at-requires
number_at-requires c =
    let f = c.args.file.now in
    let p = c.requires in
    omega (arith, (head_read f (head_here f p.0 p.1) _ c.header_at-h.ensures.0).inside)

pub number_at-requires-2 : goal.number_at-requires-2
number_at-requires-2 c =
    let f = c.args.file.now in
    let p = c.requires in
    omega (arith, (head_read f (head_here f p.0 p.1) _ c.header_at-h.ensures.0).inside)

pub number_at-requires-3 : goal.number_at-requires-3
number_at-requires-3 c =
    let f = c.args.file.now in
    let p = c.requires in
    omega (arith, (head_read f (head_here f p.0 p.1) _ c.header_at-h.ensures.0).inside)

pub byte_at-requires : goal.byte_at-requires
byte_at-requires c =
    let f = c.args.file.now in
    let p = c.requires in
    omega (arith, (head_read f (head_here f p.0 p.1) _ c.header_at-h.ensures.0).inside)

pub returns : goal.returns
returns c =
    let f = c.args.file.now in
    let p = c.requires in
    let x = head_read f (head_here f p.0 p.1) _ c.header_at-h.ensures.0 in
    record {
      horizon = c.number_at.ensures.0 ∙ x.horizon;
      cells = c.number_at-2.ensures.0 ∙ x.cells;
      states = c.number_at-3.ensures.0 ∙ x.count;
      margin = c.byte_at.ensures.0 ∙ x.margin;
      start = x.next;
    }
