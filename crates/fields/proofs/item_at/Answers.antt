-- `fields::item_at` meets its contract.
-- Assumes nothing.
use mathlib.Core.Path.{sym}
use Rattle.fields.proofs.Laws.{item_end, item_short, item_cut, item_field}
use native.Mathlib.Omega.{arith}
use Rattle.fields.proofs.item_at.Goals as goal

pub returns-then-s-at : goal.returns-then-s-at
returns-then-s-at c = sym (item_end c.args.s.now c.args.at (omega arith))

pub returns-then-s-at-lt-FIELD_HEADER : goal.returns-then-s-at-lt-FIELD_HEADER
returns-then-s-at-lt-FIELD_HEADER c = sym (item_short c.args.s.now c.args.at (omega arith) (omega arith))

pub returns-then-s-at-2 : goal.returns-then-s-at-2
returns-then-s-at-2 c = sym (item_cut c.args.s.now c.args.at _ c.number_at-len.ensures.0 (omega arith) (omega arith))

pub returns : goal.returns
returns c = sym (item_field c.args.s.now c.args.at _ c.number_at-len.ensures.0 (omega arith))
