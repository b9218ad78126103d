-- `day_orders::read_entry` meets its contract.
-- Assumes nothing.
use Rattle.std.proofs.Common.{◌∙◌, sym, ap}
use Rattle.fields.specs.Places.{fields_at}
use Rattle.fields.proofs.Laws.{is_field, says_cut, says_end}
use Rattle.day_orders.specs.Orders.{entry_of}
use Rattle.day_orders.proofs.read_entry.Goals as goal

pub field_entry-requires : goal.field_entry-requires
field_entry-requires c = is_field c.args.bytes.now 0 _ c.in-Field.ensures

pub returns-in-Field : goal.returns-in-Field
unfolding fields_at
returns-in-Field c =
    let w = is_field c.args.bytes.now 0 _ c.in-Field.ensures in
    c.field_entry.ensures ∙ sym (ap entry_of w.fields)

pub returns-in-Cut : goal.returns-in-Cut
returns-in-Cut c = sym (ap entry_of (says_cut c.args.bytes.now 0 c.in-Cut.ensures))

pub returns-in-End : goal.returns-in-End
returns-in-End c = sym (ap entry_of (says_end c.args.bytes.now 0 c.in-End.ensures))
