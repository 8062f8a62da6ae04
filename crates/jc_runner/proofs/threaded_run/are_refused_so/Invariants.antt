use Rattle.std.proofs.Common.{◌≡◌, take}
use Rattle.jc_runner.specs.Together.{refusals_of}
use Rattle.jc_runner.proofs.threaded_run.are_refused_so.Given as goal

abbrev pub invariant-loop-i : goal.invariant-loop-i
invariant-loop-i l = refusals_of (take l.i l.managed) ≡ take l.i l.refusals
