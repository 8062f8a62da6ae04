use Rattle.std.proofs.Common.{◌≡◌, ◌<◌, ℕ, map}
use Rattle.jc_locked.specs.Accounts.{times}
use Rattle.jc_locked.proofs.auditing.are_once.Given as goal

abbrev pub invariant-loop-number : goal.invariant-loop-number
invariant-loop-number g l = (number : ℕ) → number < l.number → times number (map g.S.Logged.log l.logs) ≡ 1
