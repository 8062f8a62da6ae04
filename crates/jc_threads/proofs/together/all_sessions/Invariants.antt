use Rattle.std.proofs.Common.{◌≡◌}
use Rattle.std.specs.List.{flat_map}
use Rattle.jc_threads.specs.Dealing.{Share}
use Rattle.jc_threads.proofs.together.all_sessions.Given as goal

abbrev pub invariant-loop-worker : goal.invariant-loop-worker
invariant-loop-worker g l = l.all.items ≡ flat_map (λ (s : Share). s.sessions) l.yielded
