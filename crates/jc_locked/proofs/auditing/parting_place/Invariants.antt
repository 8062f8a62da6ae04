use Rattle.std.proofs.Common.{◌≡◌, ◌++◌, List, length}
use Rattle.jc_model.specs.declared.event.Entry.{Entry}
use Rattle.jc_locked.specs.Accounts.{calls_of}
use Rattle.jc_locked.proofs.auditing.parting_place.Given as goal

-- so far the two are one list
abbrev pub invariant-loop-entry : goal.invariant-loop-entry
invariant-loop-entry l = (front : List Entry) × (l.own ≡ front ++ l.rest) × (calls_of l.session l.entries ≡ front ++ calls_of l.session l.left)

abbrev pub decreases-loop-entry : goal.decreases-loop-entry
decreases-loop-entry l = length l.left
