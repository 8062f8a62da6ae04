-- What a call on many keys does on each of them.
use Rattle.std.specs.Prelude.{ℕ, if◌then◌else◌, List, map}
use Rattle.jc_model.specs.declared.call.Call.{Call}
use Rattle.jc_model.specs.declared.call.Call.TheVariants.{InvokeAll, RemoveKeys, RemoveAll, LoadAll}
use Rattle.jc_model.specs.declared.call.KeyCall.{KeyCall}
use Rattle.jc_model.specs.declared.call.Op.{Op}
use Rattle.jc_model.specs.declared.call.Op.TheVariants.{Get, Remove, Expire, Invoke, Load}
use Rattle.jc_ops.specs.Visited.{Visited, has_live_in}

abbrev pub op_on : Visited → Call → List ℕ → Op
op_on v (InvokeAll ks processor argument) k = Invoke processor argument
op_on v (RemoveKeys ks) k = Remove
op_on v RemoveAll k = if has_live_in v k then Remove else Expire
op_on v (LoadAll ks replace) k = Load replace
op_on v _ k = Get

abbrev pub each_of : Visited → Call → List (List ℕ) → List KeyCall
each_of v call ks = map (λ k. record { key = k; op = op_on v call k }) ks
