use Rattle.std.proofs.Common.{◌≡◌, map, take}
use Rattle.jc_hooks.proofs.suiting.want_alike.Given as goal

abbrev pub invariant-loop-i : goal.invariant-loop-i
invariant-loop-i g l = take l.i l.wanted ≡ map g.P.Processor.wants (take l.i l.processors)
