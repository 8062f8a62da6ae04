-- How sessions and calls are dealt to workers: session s goes to worker s mod workers, and with it its calls.
use Rattle.std.specs.Prelude.{◌≡◌, ℕ, ◌+◌, ◌<◌, max, ◌%◌, ◌/◌, ◌==◌, List, [], ◌∷◌, ◌++◌, length, slice_get, Some, Result, IfOk}
use Rattle.std.specs.List.{filter, fold, All}
use Rattle.jc_script.specs.declared.line.Line.{Line}
use Rattle.jc_script.specs.declared.line.Line.TheVariants.{Call, Create, Destroy}
use Rattle.jc_script.specs.declared.line.LineCall.{LineCall}
use Rattle.jc_locked.specs.Sessions.{Sitting}
use Rattle.jc_locked.specs.Stated.{Stated}
use Rattle.jc_threads.specs.declared.fault.WorkFault.{WorkFault}
use Rattle.jc_threads.specs.Lines.{HasMade, HasSessionNumbered}

-- what a worker has: its sessions, and calls that are still to be made
pub record Share : Type 0 where
  pub sessions : List Sitting
  pub lines : List LineCall

abbrev pub idle_share : Share
idle_share = record { sessions = []; lines = [] }

-- with a session more, and with a call more
abbrev pub with_session : Sitting → Share → Share
with_session own share = record share { sessions = share.sessions ++ own ∷ [] }

abbrev pub with_line : LineCall → Share → Share
with_line line share = record share { lines = share.lines ++ line ∷ [] }

-- a worker's sessions stand where one looks for them
abbrev pub AreSeated : ℕ → ℕ → List Sitting → Type 0
AreSeated workers worker sessions =
    (place : ℕ) (o : Sitting) → slice_get sessions place ≡ Some o → (o.number % workers ≡ worker) × (o.number / workers ≡ place)

-- the next place of its worker is that of a session with this number
abbrev pub IsNext : ℕ → List Share → Type 0
IsNext number crew = (share : Share) → slice_get crew (number % length crew) ≡ Some share → length share.sessions ≡ number / length crew

-- and that with this number is there
pub record HasSeat (workers number : ℕ) (crew : List Share) : Type 0 where
  pub share : Share
  pub at : slice_get crew (number % workers) ≡ Some share
  pub session : Sitting
  pub there : slice_get share.sessions (number / workers) ≡ Some session
  pub own : session.number ≡ number

-- all with smaller numbers than this are there
abbrev pub HasSeats : ℕ → ℕ → List Share → Type 0
HasSeats workers sessions crew = (number : ℕ) → number < sessions → HasSeat workers number crew

-- and those that were there still are
abbrev pub KeepsSeats : ℕ → List Share → List Share → Type 0
KeepsSeats workers before after = (number : ℕ) → HasSeat workers number before → HasSeat workers number after

-- the session of a line
abbrev pub session_in : Line → ℕ
session_in (Call l) = l.session
session_in (Create session config) = session
session_in (Destroy session id) = session

-- how many sessions lines need: those from 0 to the greatest that a line names
abbrev pub sessions_in : List Line → ℕ
sessions_in lines = fold (λ count l. max count (session_in l + 1)) 0 lines

abbrev pub dealt_to : ℕ → ℕ → List LineCall → List LineCall
dealt_to workers worker lines = filter (λ l. (l.session % workers) == worker) lines

abbrev pub AreFresh : List Sitting → Type 0
AreFresh sessions = All (λ o. o.calls ≡ []) sessions

-- a worker has its sessions, which have made no call, and no calls to make
pub record IsWorkerIdle (workers worker : ℕ) (share : Share) : Type 0 where
  pub seated : AreSeated workers worker share.sessions
  pub fresh : AreFresh share.sessions
  pub lines : share.lines ≡ []

abbrev pub AreWorkersIdle : List Share → Type 0
AreWorkersIdle crew = (worker : ℕ) (share : Share) → slice_get crew worker ≡ Some share → IsWorkerIdle (length crew) worker share

-- a worker's sessions, which have made these calls
pub record IsAtWork (stated : List Stated) (workers worker : ℕ) (done : List LineCall) (sessions : List Sitting) : Type 0 where
  pub seated : AreSeated workers worker sessions
  pub made : All (HasMade stated done) sessions
  pub there : All (λ l. HasSessionNumbered l.session sessions) done

-- they make these calls behind those that they have made
abbrev pub WorkerMakes : List Stated → ℕ → List LineCall → List Sitting → List Sitting → Type 0
WorkerMakes stated workers lines before after =
    (worker : ℕ) (done : List LineCall) → IsAtWork stated workers worker done before → IsAtWork stated workers worker (done ++ lines) after

-- a worker's sessions have made the first of its part of these calls, and it holds the others
pub record IsUnderWay (stated : List Stated) (workers worker : ℕ) (all : List LineCall) (share : Share) : Type 0 where
  pub done : List LineCall
  pub work : IsAtWork stated workers worker done share.sessions
  pub held : done ++ share.lines ≡ dealt_to workers worker all

abbrev pub AreUnderWay : List Stated → List LineCall → List Share → Type 0
AreUnderWay stated all crew = (worker : ℕ) (share : Share) → slice_get crew worker ≡ Some share → IsUnderWay stated (length crew) worker all share

-- they have made all, and it holds none
pub record HasRested (stated : List Stated) (workers worker : ℕ) (all : List LineCall) (share : Share) : Type 0 where
  pub work : IsAtWork stated workers worker (dealt_to workers worker all) share.sessions
  pub lines : share.lines ≡ []

abbrev pub HaveRested : List Stated → List LineCall → List Share → Type 0
HaveRested stated all crew = (worker : ℕ) (share : Share) → slice_get crew worker ≡ Some share → HasRested stated (length crew) worker all share

-- workers take these calls behind those that they are under way with
abbrev pub TakeCalls : List Stated → List LineCall → List Share → List Share → Type 0
TakeCalls stated more before after = (all : List LineCall) → AreUnderWay stated all before → AreUnderWay stated (all ++ more) after

-- they are still under way with what they were
abbrev pub KeepCalls : List Stated → List Share → List Share → Type 0
KeepCalls stated before after = (all : List LineCall) → AreUnderWay stated all before → AreUnderWay stated all after

-- they make all that they were under way with
abbrev pub EndCalls : List Stated → List Share → List Share → Type 0
EndCalls stated before after = (all : List LineCall) → AreUnderWay stated all before → HaveRested stated all after

-- what they had made they have made still, and they hold none
abbrev pub KeepRest : List Stated → List Share → List Share → Type 0
KeepRest stated before after = (all : List LineCall) → HaveRested stated all before → HaveRested stated all after

-- no worker holds a call
abbrev pub AreAtRest : List Share → Type 0
AreAtRest crew = (worker : ℕ) (share : Share) → slice_get crew worker ≡ Some share → share.lines ≡ []

-- a worker has made the calls that it held
pub record HasWorked (stated : List Stated) (workers : ℕ) (before after : Share) : Type 0 where
  pub lines : after.lines ≡ []
  pub made : WorkerMakes stated workers before.lines before.sessions after.sessions

-- and so has each that is not at fault
pub record HaveWorked (stated : List Stated) (crew : List Share) (results : List (Result Share WorkFault)) : Type 0 where
  pub counted : length results ≡ length crew
  pub each : (worker : ℕ) (share : Share) (result : Result Share WorkFault) → slice_get crew worker ≡ Some share → slice_get results worker ≡ Some result → IfOk result (HasWorked stated (length crew) share)
