-- What a step does with its key's row on a visit.
use Rattle.std.specs.Prelude.{◌≡◌, ◌<◌, ℕ, true, false, List, Option, Some, None, is_some}
use Rattle.jc_model.specs.declared.call.Answer.{Answer}
use Rattle.jc_model.specs.declared.call.KeyCall.{KeyCall}
use Rattle.jc_model.specs.declared.call.Request.{Request}
use Rattle.jc_model.specs.declared.call.Verdict.{Verdict}
use Rattle.jc_model.specs.declared.table.Change.{Change}
use Rattle.jc_model.specs.declared.table.TableLine.{TableLine}
use Rattle.jc_model.specs.Changes.{Progress}
use Rattle.jc_model.specs.Run.{Run}
use Rattle.jc_model.specs.Step.{changed, ended_by}
use Rattle.jc_model.specs.Suspended.{KeyWait}
use Rattle.jc_ops.specs.declared.stored.Stored.{Stored}
use Rattle.jc_ops.specs.Kept.{key_row, FoundRow}
use Rattle.jc_ops.specs.Noted.{StoredIsTold, stored_value}
use Rattle.jc_ops.specs.Visited.{Visited, SpendsAtMost, HasPlacesIn, progress_in}
use Rattle.jc_ops.specs.declared.supply.Supply.{Supply}
use Rattle.jc_ops.specs.declared.supply.values.Values.{Values}
use Rattle.jc_ops.specs.Given.{loaded_in}
use Rattle.jc_ops.specs.Lines.{first_request, handed, stores, told_of}
use Rattle.jc_ops.specs.Stepped.{StepWaits, WaitsIn, step_run, waits_first}
use Rattle.jc_ops.specs.Supply.{CoversAnswerIn, HasRoom, adds_at, most_told_in}
use Rattle.jc_ops.specs.Verdicts.{judged_on}

-- a change that stores a new row has room for it in the table
abbrev pub HasRoomToStore : Option ℕ → Change → Option Stored → ℕ → Type 0
HasRoomToStore row change stored spare = is_some row ≡ false → stores change ≡ true → is_some stored ≡ true → 0 < spare

-- the key's row is known, and there is all that carrying the line out may need
pub record CanEnd (v : Visited) (key : List ℕ) (l : TableLine) (s : Supply) : Type 0 where
  pub row : FoundRow key v.cache s.row
  pub places : HasPlacesIn (told_of (is_some s.row) l.change) v
  pub told : StoredIsTold v.cache.config s.values.stored
  pub room : HasRoomToStore s.row l.change s.values.stored v.spare

-- the step waits, and has all that it may need at this answer, with so many places for notices
pub record IsReady (v : Visited) (notices : ℕ) (w : KeyWait) (a : Answer) (s : Supply) : Type 0 where
  pub row : FoundRow w.call.key v.cache s.row
  pub places : HasPlacesIn notices v
  pub covered : CoversAnswerIn v w a s.values
  pub room : HasRoom (adds_at (is_some s.row) v.cache.config w a) v.spare
  pub waits : WaitsIn v w

-- what a change of the key's row makes of the cache
abbrev pub changed_in : Visited → List ℕ → Change → Option Stored → Progress
changed_in v key change stored = changed v.cache.config v.moment key change (key_row v.cache key) (stored_value stored) (progress_in v)

-- the run of a line that is carried out
abbrev pub line_run : Visited → List ℕ → TableLine → Values → Run
line_run v key line s = ended_by v.cache.config v.moment key line (key_row v.cache key) (stored_value s.stored) s.shown (progress_in v)

-- A step of this line begins on the new visit, where the key's expired row is gone: it asks first, or is carried out.
pub record IsBegun (old : Visited) (call : KeyCall) (l : TableLine) (s : Supply) (new : Visited) : Type 0 where
  pub ready : CanEnd new call.key l s
  pub copy : s.values.copy ≡ handed old.cache.config.writer call.op
  pub asks : (q : Request) → first_request old.cache.config call.key call.op l.asks s.values.entry ≡ Some q →
      StepWaits old.cache.config (progress_in new) q (waits_first old.moment call) (step_run old call)
  pub ends : first_request old.cache.config call.key call.op l.asks s.values.entry ≡ None → step_run old call ≡ line_run new call.key l s.values
  pub waits : SpendsAtMost 1 (most_told_in old call) old new
  pub spends : (x : Visited) → SpendsAtMost 1 (told_of (is_some s.row) l.change) new x → SpendsAtMost 1 (most_told_in old call) old x

-- what the processor's answer leads to
abbrev pub judged_run : Visited → KeyWait → Option Verdict → Run
judged_run v w verdict = judged_on v.cache.config v.moment w.call.key (key_row v.cache w.call.key) (loaded_in w.given) (progress_in v) verdict
