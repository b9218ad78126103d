-- `day_orders::field_entry` meets its contract.
-- Assumes nothing.
use Rattle.std.proofs.Common.{arith}
use Rattle.day_orders.proofs.Laws.{close_entry, withdraw_entry, route_entry, post_entry, bad_entry}
use Rattle.day_orders.proofs.field_entry.Goals as goal

pub returns-in-32-eq7 : goal.returns-in-32-eq7
returns-in-32-eq7 c = close_entry _ _ c.requires (omega arith) (omega arith) _ _ _ c.u16_at-cell.ensures c.u16_at-first.ensures c.u16_at-last.ensures

pub returns-in-33-eq1 : goal.returns-in-33-eq1
returns-in-33-eq1 c = withdraw_entry _ _ c.requires (omega arith) (omega arith)

pub returns-in-34-eq9 : goal.returns-in-34-eq9
returns-in-34-eq9 c =
    route_entry _ _ c.requires (omega arith) (omega arith) _ _ _ _
    c.u16_at-start.ensures c.u16_at-tick.ensures c.u16_at-goal.ensures c.u16_at-dwell.ensures

pub returns-in-35-eq0 : goal.returns-in-35-eq0
returns-in-35-eq0 c = post_entry _ _ c.requires (omega arith) (omega arith)

-- the tag of a call with another length, and another tag
pub returns-in_default : goal.returns-in_default
returns-in_default c = bad_entry _ _ c.requires (λ t n. omega arith) (λ t n. omega arith) (λ t n. omega arith) (λ t n. omega arith)

pub returns-in_default-2 : goal.returns-in_default-2
returns-in_default-2 c = bad_entry _ _ c.requires (λ t n. omega arith) (λ t n. omega arith) (λ t n. omega arith) (λ t n. omega arith)

pub returns-in_default-3 : goal.returns-in_default-3
returns-in_default-3 c = bad_entry _ _ c.requires (λ t n. omega arith) (λ t n. omega arith) (λ t n. omega arith) (λ t n. omega arith)

pub returns-in_default-4 : goal.returns-in_default-4
returns-in_default-4 c = bad_entry _ _ c.requires (λ t n. omega arith) (λ t n. omega arith) (λ t n. omega arith) (λ t n. omega arith)

pub returns-in_default-5 : goal.returns-in_default-5
returns-in_default-5 c = bad_entry _ _ c.requires (λ t n. omega arith) (λ t n. omega arith) (λ t n. omega arith) (λ t n. omega arith)
