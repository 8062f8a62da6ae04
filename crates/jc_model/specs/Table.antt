-- The case table: for each operation on one key, its line where the key has a live row, and its line where it has none.
use Rattle.std.specs.Prelude.{ℕ, Bool, true, false, List, Option, Some, None}
use Rattle.jc_model.specs.declared.call.Op.{Op}
use Rattle.jc_model.specs.declared.call.Op.TheVariants as op
use Rattle.jc_model.specs.declared.call.Action.{Action}
use Rattle.jc_model.specs.declared.call.Action.TheVariants as action
use Rattle.jc_model.specs.declared.table.Ask.{Ask}
use Rattle.jc_model.specs.declared.table.Ask.TheVariants as ask
use Rattle.jc_model.specs.declared.table.Change.{Change}
use Rattle.jc_model.specs.declared.table.Change.TheVariants.{Keep, Access, Store, Put, Remove}
use Rattle.jc_model.specs.declared.table.Replied.{Replied}
use Rattle.jc_model.specs.declared.table.Replied.TheVariants.{Done, Truth, Shown}
use Rattle.jc_model.specs.declared.table.TableLine.{TableLine}

-- whom it asks, whether it counts a hit or a miss, what it changes, what it replies
abbrev pub line : Ask → Bool → Change → Replied → TableLine
line asks counts change reply =
    record { asks = asks; counts = counts; change = change; reply = reply }

-- where the key has a live row; of the expected value, where the operation expects one
abbrev pub live_line : Op → TableLine
live_line op.Get = line ask.Nothing true Access Shown
live_line (op.Put v) = line ask.Write false Put Done
live_line (op.GetAndPut v) = line ask.Write true Put Shown
live_line (op.PutIfAbsent v) = line ask.Nothing true Keep (Truth false)
live_line (op.Replace v) = line ask.Write true Put (Truth true)
live_line (op.ReplaceIf expected v) = line ask.Write true Put (Truth true)
live_line (op.GetAndReplace v) = line ask.Write true Put Shown
live_line op.Remove = line ask.Delete false Remove (Truth true)
live_line (op.RemoveIf expected) = line ask.Delete true Remove (Truth true)
live_line op.GetAndRemove = line ask.Delete true Remove Shown
live_line (op.Invoke processor argument) = line ask.Process true Keep Shown
live_line (op.Load true) = line ask.Load false Store Done
live_line (op.Load false) = line ask.Nothing false Keep Done
live_line op.Expire = line ask.Nothing false Keep Done

-- where it expects another live value
abbrev pub otherwise : TableLine
otherwise = line ask.Nothing true Access (Truth false)

-- where the key has no row
abbrev pub absent_line : Op → TableLine
absent_line op.Get = line ask.Load true Store Shown
absent_line (op.Put v) = line ask.Write false Put Done
absent_line (op.GetAndPut v) = line ask.Write true Put Shown
absent_line (op.PutIfAbsent v) = line ask.Write true Put (Truth true)
absent_line (op.Replace v) = line ask.Nothing true Keep (Truth false)
absent_line (op.ReplaceIf expected v) = line ask.Nothing true Keep (Truth false)
absent_line (op.GetAndReplace v) = line ask.Nothing true Keep Shown
absent_line op.Remove = line ask.Delete false Keep (Truth false)
absent_line (op.RemoveIf expected) = line ask.Nothing true Keep (Truth false)
absent_line op.GetAndRemove = line ask.Delete true Keep Shown
absent_line (op.Invoke processor argument) = line ask.Process true Keep Shown
absent_line (op.Load replace) = line ask.Load false Store Done
absent_line op.Expire = line ask.Nothing false Keep Done

-- the live value that an operation expects
abbrev pub expected_by : Op → Option (List ℕ)
expected_by (op.ReplaceIf expected v) = Some expected
expected_by (op.RemoveIf expected) = Some expected
expected_by _ = None

-- the value that it stores
abbrev pub value_of : Op → Option (List ℕ)
value_of (op.Put v) = Some v
value_of (op.GetAndPut v) = Some v
value_of (op.PutIfAbsent v) = Some v
value_of (op.Replace v) = Some v
value_of (op.ReplaceIf expected v) = Some v
value_of (op.GetAndReplace v) = Some v
value_of _ = None

-- the processor that it asks, and its argument
abbrev pub invoked_by : Op → Option (ℕ × List ℕ)
invoked_by (op.Invoke processor argument) = Some (processor, argument)
invoked_by _ = None

-- Once the processor has decided.

abbrev pub live_verdict : Action → TableLine
live_verdict action.Keep = line ask.Nothing true Access Shown
live_verdict (action.Set v) = line ask.Write true Put Shown
live_verdict action.Remove = line ask.Delete true Remove Shown

abbrev pub absent_verdict : Action → TableLine
absent_verdict action.Keep = line ask.Nothing true Store Shown
absent_verdict (action.Set v) = line ask.Write true Put Shown
absent_verdict action.Remove = line ask.Delete true Keep Shown

-- the value that a verdict stores, where this one was loaded, if any
abbrev pub decided : Option (List ℕ) → Action → Option (List ℕ)
decided loaded action.Keep = loaded
decided loaded (action.Set v) = Some v
decided loaded action.Remove = None
