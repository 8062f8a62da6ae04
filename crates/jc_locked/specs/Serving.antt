-- What a call does to the callbacks that it uses alone.
use Rattle.std.specs.Prelude.{◌≡◌, ℕ, Bool, true, false, IsTrue, List, [], ◌∷◌, ◌++◌, map, ⊤}
use Rattle.std.specs.List.{filter, All}
use Rattle.jc_hooks.specs.Answering.{AsksWriter}
use Rattle.jc_hooks.specs.Asking.{MayGiveBy, GivesAnswers, TellsAll}
use Rattle.jc_model.specs.declared.call.Answer.{Answer}
use Rattle.jc_model.specs.declared.call.Answer.TheVariants.{Written, WriteFailed}
use Rattle.jc_model.specs.declared.call.Notice.{Notice}
use Rattle.jc_model.specs.declared.call.Request.{Request}
use Rattle.jc_model.specs.declared.call.Request.TheVariants.{Write, Delete, Tell}
use Rattle.jc_model.specs.Run.{is_answer_to}
use Rattle.jc_locked.specs.declared.hooks.LockedHooks.{LockedHooks}

-- what has been told of a call, behind a request
abbrev pub told_behind : Request → List Notice → List Notice
told_behind (Tell notices) told = notices
told_behind _ told = told

-- a call tells once
abbrev pub TellsOnce : Request → List Notice → Type 0
TellsOnce (Tell notices) told = told ≡ []
TellsOnce _ told = ⊤

-- the writer's requests, and its answers
abbrev pub is_write : Request → Bool
is_write (Write key value) = true
is_write (Delete key) = true
is_write _ = false

abbrev pub is_of_writer : Answer → Bool
is_of_writer Written = true
is_of_writer WriteFailed = true
is_of_writer _ = false

-- requests of the writer, with its answers among these
pub record AreWritten (answers : List Answer) (given : List (Request × Answer)) : Type 0 where
  pub writes : All (λ x. IsTrue (is_write x.0)) given
  pub answered : map (λ x. x.1) given ≡ filter is_of_writer answers

module _ {W K : Type 0} (state_after : K → List Notice → List ℕ) where
  -- the listeners were told these notices, and no others
  abbrev pub TellsListeners : LockedHooks W K → LockedHooks W K → List Notice → Type 0
  TellsListeners old new notices = TellsAll state_after old.listeners.items new.listeners.items notices

  -- they were told what a request tells, and are left alone by one that tells nothing
  abbrev pub TellsListenersBy : LockedHooks W K → LockedHooks W K → Request → Type 0
  TellsListenersBy old new (Tell notices) = TellsListeners old new notices
  TellsListenersBy old new _ = new.listeners ≡ old.listeners

  -- where they had been told what a call had told, they have been told what it has told now
  abbrev pub TellsListenersOn : LockedHooks W K → LockedHooks W K → List Notice → List Notice → Type 0
  TellsListenersOn old new told told' = (first : LockedHooks W K) → TellsListeners first old told → TellsListeners first new told'

module _ {W K : Type 0} (may : W → List (Request × Answer) → Type 0) (state_after : K → List Notice → List ℕ) where
  -- the writer writes and deletes, the listeners are told, and each is left alone by what is not for it
  abbrev pub ServesRequest : LockedHooks W K → LockedHooks W K → Request → Answer → Type 0
  ServesRequest old new request a = AsksWriter may old.writer new.writer request a × TellsListenersBy state_after old new request

  -- the callbacks answered this request, and their answer is the next one
  pub record TakesIn (old new : LockedHooks W K) (request : Request) (answers answers' : List Answer) : Type 0 where
    pub answer : Answer
    pub fits : IsTrue (is_answer_to request answer)
    pub serves : ServesRequest old new request answer
    pub added : answers' ≡ answers ++ answer ∷ []

module _ {W K : Type 0} (may : W → List (Request × Answer) → Type 0) where
  -- the writer stated at first that it may give those of these answers that are its own
  pub record HasStated (first : LockedHooks W K) (answers : List Answer) : Type 0 where
    pub given : List (Request × Answer)
    pub are : AreWritten answers given
    pub stated : MayGiveBy may first.writer given

  -- and what it states afterwards it stated behind them
  pub record HasWritten (first new : LockedHooks W K) (answers : List Answer) : Type 0 where
    pub given : List (Request × Answer)
    pub are : AreWritten answers given
    pub stated : GivesAnswers may first.writer new.writer given

  -- where it had given a call's answers, it has given those that the call has now
  abbrev pub WritesOn : LockedHooks W K → LockedHooks W K → List Answer → List Answer → Type 0
  WritesOn old new answers answers' = (first : LockedHooks W K) → HasWritten first old answers → HasWritten first new answers'

  -- or has stated them, at least
  abbrev pub StatesOn : LockedHooks W K → List Answer → List Answer → Type 0
  StatesOn old answers answers' = (first : LockedHooks W K) → HasWritten first old answers → HasStated first answers'
