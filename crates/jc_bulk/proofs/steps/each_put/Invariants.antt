use Rattle.std.proofs.Common.{◌≡◌, take}
use Rattle.jc_bulk.proofs.Names.{put_each}
use Rattle.jc_bulk.proofs.steps.each_put.Given as goal

abbrev pub invariant-loop-key : goal.invariant-loop-key
invariant-loop-key l = l.calls.items ≡ put_each (take l.key-index l.pairs)
