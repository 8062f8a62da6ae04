-- What becomes of the callbacks under a cache's lock in a call that they answer.
use Rattle.std.specs.Prelude.{◌≡◌, ◌⊎◌, ◌++◌, ◌∷◌, [], ℕ, List, Option, Result, MatchResult}
use Rattle.jc_model.specs.declared.call.Answer.{Answer}
use Rattle.jc_model.specs.declared.call.Notice.{Notice}
use Rattle.jc_model.specs.declared.call.Reply.{Reply}
use Rattle.jc_model.specs.declared.call.Request.{Request}
use Rattle.jc_model.specs.declared.call.ProcessorFault.{ProcessorFault}
use Rattle.jc_model.specs.declared.call.Verdict.{Verdict}
use Rattle.jc_hooks.specs.Answering.{IsStatedAnswer}
use Rattle.jc_hooks.specs.declared.loader.Loaded.{Loaded}
use Rattle.jc_model.specs.declared.event.Entry.{Entry}
use Rattle.jc_locked.specs.declared.fault.CallFault.{CallFault}
use Rattle.jc_locked.specs.declared.hooks.LockedHooks.{LockedHooks}
use Rattle.jc_locked.specs.declared.hooks.SharedHooks.{SharedHooks}
use Rattle.jc_locked.specs.Serving.{TellsListeners, HasWritten, HasStated}

module _ {L P : Type 0} (load_of : L → List ℕ → Loaded) (verdict_of : P → Option (List ℕ) → List ℕ → Result Verdict ProcessorFault) where
  -- the next answer is that of loader or processor to this request, with all that it hands them, or one of its kind
  pub record TakesStated (asked : SharedHooks L P) (request : Request) (answers answers' : List Answer) : Type 0 where
    pub answer : Answer
    pub stated : IsStatedAnswer load_of verdict_of asked.loader asked.processors.items request answer
    pub added : answers' ≡ answers ++ answer ∷ []

module _ {W K : Type 0} (may : W → List (Request × Answer) → Type 0) (state_after : K → List Notice → List ℕ) where
  -- the call of this entry was added: the listeners were told what it tells, and the writer has given those of its answers
  -- that are its own, or has stated them, at least
  pub record ServesEntry (hooks hooks' : LockedHooks W K) (old new : List Entry) (result : Result Reply CallFault) : Type 0 where
    pub entry : Entry
    pub added : new ≡ old ++ entry ∷ []
    pub told : TellsListeners state_after hooks hooks' entry.told
    pub wrote : MatchResult result (λ _. HasWritten may hooks hooks' entry.answers) (λ _. HasStated may hooks entry.answers)

  -- or no call was added, and no one was asked
  abbrev pub ServesCall : LockedHooks W K → LockedHooks W K → List Entry → List Entry → Result Reply CallFault → Type 0
  ServesCall hooks hooks' old new result = ServesEntry hooks hooks' old new result ⊎ ((new ≡ old) × (hooks' ≡ hooks))
