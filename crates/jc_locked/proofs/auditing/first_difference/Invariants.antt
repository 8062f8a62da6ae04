use Rattle.std.proofs.Common.{◌≡◌, ◌<◌, ℕ, map}
use Rattle.jc_locked.specs.Accounts.{calls_of, own_of}
use Rattle.jc_locked.proofs.auditing.first_difference.Given as goal

-- the sessions so far agree
abbrev pub invariant-loop-session : goal.invariant-loop-session
invariant-loop-session g l = (number : ℕ) → number < l.session → calls_of number l.entries ≡ own_of number (map g.S.Logged.log l.logs)
