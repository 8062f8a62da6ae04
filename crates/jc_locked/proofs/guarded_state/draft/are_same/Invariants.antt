use Rattle.std.proofs.Common.{◌≡◌, ◌↔◌, length}
use Rattle.jc_locked.proofs.guarded_state.draft.are_same.Given as goal

-- the lists are the same where their rests are
abbrev pub invariant-loop-first : goal.invariant-loop-first
invariant-loop-first g l = l.ours ≡ l.theirs ↔ l.left ≡ l.right

abbrev pub decreases-loop-first : goal.decreases-loop-first
decreases-loop-first g l = length l.ours
