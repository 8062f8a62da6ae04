use Rattle.std.proofs.Common.{◌≡◌, take}
use Rattle.jc_bulk.specs.Each.{each_of}
use Rattle.jc_bulk.proofs.steps.each_key.Given as goal

abbrev pub invariant-loop-key : goal.invariant-loop-key
invariant-loop-key g l = l.calls.items ≡ each_of l.visit l.call (take l.key-index l.keys)
