use Rattle.std.proofs.Common.{◌≡◌, map, length}
use Rattle.jc_locked.specs.Accounts.{own_of}
use Rattle.jc_locked.proofs.auditing.own_of.Given as goal

abbrev pub invariant-loop-log : goal.invariant-loop-log
invariant-loop-log g l = own_of l.number (map g.S.Logged.log l.logs) ≡ own_of l.number (map g.S.Logged.log l.left)

abbrev pub decreases-loop-log : goal.decreases-loop-log
decreases-loop-log g l = length l.left
