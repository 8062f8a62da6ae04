use Rattle.std.proofs.Common.{◌≡◌, ◌+◌, length}
use Rattle.jc_locked.specs.Calls.{IsSameCall}
use Rattle.jc_shared.specs.Progress.{LeavesOpen}
use Rattle.jc_shared.proofs.lent.Session+N+L+W+P+K+OpenCalls.carry.Given as goal

-- it is the same call, and the session has noted nothing but how many of its events were accepted
abbrev pub invariant-loop : goal.invariant-loop
invariant-loop g l =
    (goal.iterator-loop g).can_next l.iterator' × (goal.iterator-loop g).is_finite l.iterator' × IsSameCall l.fn.pending.draft l.pending.draft × LeavesOpen l.fn.self l.self × (l.self.accepted + length l.fn.pending.draft.answers ≡ l.fn.self.accepted + length l.pending.draft.answers)
