-- Which calls sessions have made.
use Rattle.std.specs.Prelude.{◌≡◌, ◌⊎◌, ℕ, ◌==◌, List, [], ◌∷◌, ◌++◌, map, slice_get}
use Rattle.std.specs.List.{filter, All}
use Rattle.jc_model.specs.declared.event.Entry.{Entry}
use Rattle.jc_script.specs.Calls.{line_of_entry, IsReply}
use Rattle.jc_script.specs.declared.line.LineCall.{LineCall}
use Rattle.jc_locked.specs.Accounts.{Accounts, calls_of}
use Rattle.jc_locked.specs.Sessions.{Own, Sitting}
use Rattle.jc_locked.specs.Stated.{Stated, AreStated}

-- the calls of a session's lines
abbrev pub lines_by : ℕ → List LineCall → List LineCall
lines_by session lines = filter (λ l. l.session == session) lines

-- a call has its reply, under answers that loader and processors stated
pub record IsAnswered (stated : List Stated) (e : Entry) : Type 0 where
  pub replied : IsReply e.end
  pub answered : AreStated (slice_get stated e.id) e.call e.answers

-- a session's calls are its lines, each once and in order, and each has its reply
pub record HasMade (stated : List Stated) (lines : List LineCall) (own : Sitting) : Type 0 where
  pub calls : map line_of_entry own.calls ≡ lines_by own.number lines
  pub answered : All (IsAnswered stated) own.calls

-- the same of every session, as the entries tell it, which have no other calls
pub record AreCallsMade (stated : List Stated) (lines : List LineCall) (entries : List Entry) : Type 0 where
  pub each : (session : ℕ) → map line_of_entry (calls_of session entries) ≡ lines_by session lines
  pub answered : All (IsAnswered stated) entries

-- these calls are made in each transcript for which the logs account
abbrev pub AccountFor : List Stated → List LineCall → List Own → Type 0
AccountFor stated lines logs =
    (given : ℕ) (entries : List Entry) → Accounts given logs entries → AreCallsMade stated lines entries

-- a session makes this call behind those that it has made
abbrev pub SessionMakes : List Stated → LineCall → Sitting → Sitting → Type 0
SessionMakes stated line before after = (done : List LineCall) → HasMade stated done before → HasMade stated (done ++ line ∷ []) after

-- one of these is a session with this number
abbrev pub HasSessionNumbered : ℕ → List Sitting → Type 0
HasSessionNumbered number [] = ⊥
HasSessionNumbered number (o ∷ logs) = (o.number ≡ number) ⊎ HasSessionNumbered number logs
