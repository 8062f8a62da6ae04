use Rattle.std.proofs.Common.{◌≡◌, ◌<◌, ℕ, [], map, length}
use Rattle.jc_locked.proofs.Walking.{rest_of, AreWhole, AgreeBy}
use Rattle.jc_locked.proofs.auditing.agree.Given as goal

-- the lists of the sessions so far are in their places
abbrev pub invariant-loop-number : goal.invariant-loop-number
invariant-loop-number g l = (length l.rests ≡ 64) × AreWhole l.number (map g.S.Logged.log l.logs) l.rests

abbrev pub invariant-loop-entry : goal.invariant-loop-entry
invariant-loop-entry g l = (length l.rests ≡ 64) × AgreeBy l.entries (map g.S.Logged.log l.logs) l.left l.rests

abbrev pub decreases-loop-entry : goal.decreases-loop-entry
decreases-loop-entry g l = length l.left

-- nothing is left of those so far
abbrev pub invariant-loop-session : goal.invariant-loop-session
invariant-loop-session g l = (number : ℕ) → number < l.session → rest_of number l.rests ≡ []
