-- The outcomes of a manager's inner calls, which keep the copies that a transcript needs.
use Rattle.std.specs.Prelude.{◌≡◌, ℕ, Bool, false, is_some, List, [], Result, Ok, Err, slice_set, Option, Some, None}
use Rattle.jc_model.specs.declared.event.Cause.{Cause}
use Rattle.jc_model.specs.declared.event.Cause.TheVariants.{OutOfMemory}
use Rattle.jc_model.specs.declared.event.Outcome.{Outcome}
use Rattle.jc_model.specs.declared.event.Outcome.TheVariants as outcome
use Rattle.jc_ops.specs.Noted.{Noted}
use Rattle.jc_engine.specs.declared.turn.EngineStep.{EngineStep}
use Rattle.jc_engine.specs.Caches.{Cache}
use Rattle.jc_engine.specs.Managed.{step_of, FitsTurn, LeavesNotices}

-- only memory refuses what gives back what was handed in
abbrev pub outcome_of : {T : Type 0} → Result EngineStep T → Outcome
outcome_of (Ok advance) = outcome.Step (step_of advance)
outcome_of (Err back) = outcome.Refused OutOfMemory

-- of a call that begins, which may be refused otherwise
abbrev pub of_start : Result EngineStep Cause → Outcome
of_start (Ok advance) = outcome.Step (step_of advance)
of_start (Err cause) = outcome.Refused cause

abbrev pub of_abandon : Result (Option Noted) Cause → Outcome
of_abandon (Ok None) = outcome.GivenUp []
of_abandon (Ok (Some left)) = outcome.GivenUp left.told
of_abandon (Err cause) = outcome.Refused cause

abbrev pub FitsAt : EngineStep → Option Cache → Type 0
FitsAt advance None = ⊥
FitsAt advance (Some k) = FitsTurn advance k.turn

abbrev pub LeavesAt : Option Cache → Option Noted → Type 0
LeavesAt None left = ⊥
LeavesAt (Some k) left = LeavesNotices k left

-- no call is open
abbrev pub ClosedAt : Option Cache → Type 0
ClosedAt None = ⊥
ClosedAt (Some k) = k.turn ≡ None

abbrev pub is_open_in : Option Cache → Bool
is_open_in None = false
is_open_in (Some k) = is_some k.turn

-- no cache but one has changed, which is live as it was
pub record ChangesOne (old : List (Option Cache)) (id : ℕ) (new : List (Option Cache)) : Type 0 where
  pub cache : Cache
  pub is : new ≡ slice_set old id (Some cache)
