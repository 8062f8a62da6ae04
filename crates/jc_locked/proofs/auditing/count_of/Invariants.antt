use Rattle.std.proofs.Common.{◌≡◌, ◌+◌, map, length}
use Rattle.jc_locked.specs.Accounts.{times}
use Rattle.jc_locked.proofs.auditing.count_of.Given as goal

abbrev pub invariant-loop-log : goal.invariant-loop-log
invariant-loop-log g l = l.count + times l.number (map g.S.Logged.log l.left) ≡ times l.number (map g.S.Logged.log l.logs)

abbrev pub decreases-loop-log : goal.decreases-loop-log
decreases-loop-log g l = length l.left
