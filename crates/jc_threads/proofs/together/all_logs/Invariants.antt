use Rattle.std.proofs.Common.{◌≡◌, map}
use Rattle.jc_locked.specs.Accounts.{own_log}
use Rattle.jc_locked.specs.Sessions.{log_of}
use Rattle.jc_threads.proofs.together.all_logs.Given as goal

abbrev pub invariant-loop-session : goal.invariant-loop-session
invariant-loop-session g l = map own_log l.logs.items ≡ map log_of l.yielded
