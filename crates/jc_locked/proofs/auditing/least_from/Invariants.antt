use Rattle.std.proofs.Common.{take}
use Rattle.jc_locked.specs.Accounts.{IsLeastFrom}
use Rattle.jc_locked.proofs.auditing.least_from.Given as goal

abbrev pub invariant-loop-entry : goal.invariant-loop-entry
invariant-loop-entry l = IsLeastFrom l.given (take l.entry-index l.entries) l.least
