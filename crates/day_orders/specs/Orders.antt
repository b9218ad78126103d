-- What the code reads of a script's fields, and the call that it stands for.
-- Assumes nothing.
use Rattle.std.specs.Prelude.{ℕ, List, []}
use Rattle.std.proofs.Math.Option.{Option, none, some}
use Rattle.meaning.specs.Fields.{Field, Fields, end, cut, next}
use Rattle.meaning.specs.Calls as C
use Rattle.meaning.specs.Day.{call_of}
use Rattle.day_orders.specs.declared.Order.{Order}
use Rattle.day_orders.specs.declared.Order.TheVariants.{Close, Withdraw, Route, Post}
use Rattle.day_orders.specs.declared.Entry.{Entry}
use Rattle.day_orders.specs.declared.Entry.TheVariants.{Call, Bad, End}

-- what the code holds of a call; the light of a post is not in the script
abbrev pub entry_for : Option C.Call → Entry
entry_for (some (C.close h cell first last)) = Call (Close h cell first last)
entry_for (some (C.withdraw h)) = Call (Withdraw h)
entry_for (some (C.route tug a goal dwell)) = Call (Route tug a.state a.tick goal dwell)
entry_for (some (C.post light)) = Call Post
entry_for (some (C.audit light)) = Bad
entry_for none = Bad

-- a field, by its tag and length
unfoldable pub entry_by : Field → Entry
entry_by f = entry_for (call_of [] f)

-- the first field; one that is cut is no call
abbrev pub entry_of : Fields → Entry
entry_of end = End
entry_of cut = Bad
entry_of (next f fs) = entry_by f

-- the call that is meant, given the last granted light
abbrev pub call_by : List ℕ → Order → C.Call
call_by light (Close h cell first last) = C.close h cell first last
call_by light (Withdraw h) = C.withdraw h
call_by light (Route tug start tick goal dwell) = C.route tug (record { state = start; tick = tick }) goal dwell
call_by light Post = C.post light

abbrev pub entry_call : List ℕ → Entry → Option C.Call
entry_call light (Call o) = some (call_by light o)
entry_call light Bad = none
entry_call light End = none
