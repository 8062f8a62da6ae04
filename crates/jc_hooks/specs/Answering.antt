-- What callbacks answer to a request, and how that leaves them.
use Rattle.std.specs.Prelude.{◌≡◌, ℕ, IsTrue, List, [], ◌∷◌, slice_get, Option, Result, ⊤}
use Rattle.jc_model.specs.declared.call.Answer.{Answer}
use Rattle.jc_model.specs.declared.call.Answer.TheVariants.{Told}
use Rattle.jc_model.specs.declared.call.Notice.{Notice}
use Rattle.jc_model.specs.declared.call.ProcessorFault.{ProcessorFault}
use Rattle.jc_model.specs.declared.call.Request.{Request}
use Rattle.jc_model.specs.declared.call.Request.TheVariants.{Load, Write, Delete, Process, Tell}
use Rattle.jc_model.specs.declared.call.Verdict.{Verdict}
use Rattle.jc_model.specs.Run.{for_write, fits}
use Rattle.jc_hooks.specs.Asking.{load_by, verdict_by, GivesAnswers, TellsAll}
use Rattle.jc_hooks.specs.declared.loader.Loaded.{Loaded}

-- the answers of loader and processors are their functions of the request
abbrev pub IsStatedAnswer : {L P : Type 0} → (L → List ℕ → Loaded) → (P → Option (List ℕ) → List ℕ → Result Verdict ProcessorFault) → Option L → List P → Request → Answer → Type 0
IsStatedAnswer load_of verdict_of loader processors (Load key) a = a ≡ load_by load_of loader key
IsStatedAnswer load_of verdict_of loader processors (Write key value) a = IsTrue (fits for_write a)
IsStatedAnswer load_of verdict_of loader processors (Delete key) a = IsTrue (fits for_write a)
IsStatedAnswer load_of verdict_of loader processors (Process key n value argument) a = a ≡ verdict_by verdict_of (slice_get processors n) value argument
IsStatedAnswer load_of verdict_of loader processors (Tell notices) a = a ≡ Told

-- the writer has answered a request of its own so, and is left alone by any other
abbrev pub AsksWriter : {W : Type 0} → (W → List (Request × Answer) → Type 0) → Option W → Option W → Request → Answer → Type 0
AsksWriter may old new (Write key value) a = GivesAnswers may old new ((Write key value, a) ∷ [])
AsksWriter may old new (Delete key) a = GivesAnswers may old new ((Delete key, a) ∷ [])
AsksWriter may old new _ a = new ≡ old

-- the writer is left alone, unless the request is one of its own
abbrev pub SparesWriter : {W : Type 0} → Option W → Option W → Request → Type 0
SparesWriter old new (Write key value) = ⊤
SparesWriter old new (Delete key) = ⊤
SparesWriter old new _ = new ≡ old

-- the listeners were told what the request tells, and are left alone by one that tells nothing
abbrev pub TellsNoticesOf : {K : Type 0} → (K → List Notice → List ℕ) → List K → List K → Request → Type 0
TellsNoticesOf state_after old new (Tell notices) = TellsAll state_after old new notices
TellsNoticesOf state_after old new _ = new ≡ old
