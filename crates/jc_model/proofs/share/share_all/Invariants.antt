use Rattle.std.proofs.Common.{◌≡◌, take}
use Rattle.jc_model.proofs.share.share_all.Given as goal

abbrev pub invariant-loop-x : goal.invariant-loop-x
invariant-loop-x g l = l.copy.items ≡ take l.x-index l.items
