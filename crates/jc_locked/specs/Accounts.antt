-- What an audit compares.
use Rattle.std.specs.Prelude.{◌≡◌, ◌≢◌, ◌⊎◌, ℕ, ◌<◌, ◌≤◌, ◌==◌, if◌then◌else◌, List, [], ◌∷◌, length, take, slice_get, Option, Some, None}
use Rattle.std.specs.List.{filter, count_by, All}
use Rattle.jc_model.specs.declared.event.End.TheVariants.{Waiting}
use Rattle.jc_model.specs.declared.event.Entry.{Entry}
use Rattle.jc_model.specs.declared.config.CacheConfig.{CacheConfig}
use Rattle.jc_model.specs.Legal.{History, IsLegal}
use Rattle.jc_locked.specs.declared.auditing.SessionLog.{SessionLog}
use Rattle.jc_locked.specs.declared.fault.CloseFault.{CloseFault}
use Rattle.jc_locked.specs.declared.fault.CloseFault.TheVariants.{Missing, StillOpen, Differs, OutOfMemory}
use Rattle.jc_locked.specs.Sessions.{Own, BeginsWith}

-- what a log of plain values shows
abbrev pub own_log : SessionLog → Own
own_log log = record { number = log.number; calls = log.own.items }

-- the entries of a session
abbrev pub calls_of : ℕ → List Entry → List Entry
calls_of session transcript = filter (λ e. e.session == session) transcript

-- how many logs have this number
abbrev pub times : ℕ → List Own → ℕ
times number logs = count_by (λ o. o.number == number) logs

-- its list; a number without a log has the empty one
abbrev pub own_of : ℕ → List Own → List Entry
own_of number [] = []
own_of number (o ∷ logs) = if o.number == number then o.calls else own_of number logs

-- the numbers are those below this one, each once
pub record AreGiven (given : ℕ) (logs : List Own) : Type 0 where
  pub once : (number : ℕ) → number < given → times number logs ≡ 1
  pub below : All (λ o. o.number < given) logs

abbrev pub NoneWaits : List Entry → Type 0
NoneWaits transcript = All (λ e. e.end ≢ Waiting) transcript

-- every number's entries are its list
abbrev pub AllAgree : List Entry → List Own → Type 0
AllAgree transcript logs = (number : ℕ) → calls_of number transcript ≡ own_of number logs

-- two lists part first at this place
pub record PartAt (xs ys : List Entry) (place : ℕ) : Type 0 where
  pub within : (place ≤ length xs) × (place ≤ length ys)
  pub before : take place xs ≡ take place ys
  pub here : slice_get xs place ≢ slice_get ys place

-- the least session from a number on that has an entry, if any has one
abbrev pub IsLeastFrom : ℕ → List Entry → Option ℕ → Type 0
IsLeastFrom given transcript None = (number : ℕ) → given ≤ number → calls_of number transcript ≡ []
IsLeastFrom given transcript (Some least) =
    (given ≤ least) × (calls_of least transcript ≢ []) × ((number : ℕ) → given ≤ number → number < least → calls_of number transcript ≡ [])

-- this session is the least whose entries are not its list, and this is the first place where they part
pub record DiffersFirst (transcript : List Entry) (logs : List Own) (session place : ℕ) : Type 0 where
  pub parts : PartAt (calls_of session transcript) (own_of session logs) place
  pub least : (number : ℕ) → number < session → calls_of number transcript ≡ own_of number logs

-- the logs account for the transcript
pub record Accounts (given : ℕ) (logs : List Own) (transcript : List Entry) : Type 0 where
  pub numbers : AreGiven given logs
  pub ended : NoneWaits transcript
  pub agree : AllAgree transcript logs

-- why they do not
abbrev pub IsAuditFault : ℕ → List Own → List Entry → CloseFault → Type 0
IsAuditFault given logs transcript Missing = AreGiven given logs → ⊥
IsAuditFault given logs transcript StillOpen = AreGiven given logs × (NoneWaits transcript → ⊥)
IsAuditFault given logs transcript (Differs session place) =
    AreGiven given logs × NoneWaits transcript × DiffersFirst transcript logs session place
IsAuditFault given logs transcript OutOfMemory = ⊥

-- why a manager that is not closed yet does not close
abbrev pub IsCloseFault : ℕ → List Own → List Entry → CloseFault → Type 0
IsCloseFault given logs transcript OutOfMemory = Accounts given logs transcript
IsCloseFault given logs transcript fault = IsAuditFault given logs transcript fault

-- a manager that is not closed does not close so, with a legal transcript that begins with these caches
pub record CannotClose (configs : List CacheConfig) (logs : List Own) (fault : CloseFault) : Type 0 where
  pub given : ℕ
  pub transcript : History
  pub legal : IsLegal transcript
  pub begins : BeginsWith configs transcript
  pub fails : IsCloseFault given logs transcript.entries fault

-- why a manager does not close: it is closed already, or it can't
abbrev pub IsCloseRefusal : List CacheConfig → List Own → CloseFault → Type 0
IsCloseRefusal configs logs fault = (fault ≡ Missing) ⊎ CannotClose configs logs fault
