-- What takes no memory is not refused for want of it.
use Rattle.std.proofs.Common.{◌≡◌, true, false, List, [], ◌∷◌, ◌++◌, length, append_assoc, arith, append-nil}
use Rattle.jc_engine.proofs.Names.{Event, Outcome, for_memory}
use Rattle.jc_engine.specs.Free.{takes_none, FreeAreHeard}

-- whatever the events that are left are answered, all that are free are heard if those are
pub record HeardSoFar (events : List Event) (outcomes : List Outcome) (left : List Event) : Type 0 where
  pub completes : (more : List Outcome) → FreeAreHeard left more → FreeAreHeard events (outcomes ++ more)

pub heard_on : (events : List Event) (outcomes : List Outcome) (event : Event) (left : List Event) (outcome : Outcome) → HeardSoFar events outcomes (event ∷ left) → (takes_none event ≡ true → for_memory outcome ≡ false) → HeardSoFar events (outcomes ++ outcome ∷ []) left
heard_on events outcomes event left outcome so_far h = record { completes = λ more rest. rw append_assoc (so_far.completes (outcome ∷ more) (h, rest)) }

pub heard_last : (events : List Event) (outcomes : List Outcome) (left : List Event) → HeardSoFar events outcomes left → length left ≡ 0 → FreeAreHeard events outcomes
heard_last events outcomes [] so_far none = rw append-nil at (so_far.completes [] tt)
heard_last events outcomes (event ∷ left) so_far none = absurd (omega arith)
