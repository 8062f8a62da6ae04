-- What is read from a reader and written to a writer.
use Rattle.std.specs.Prelude.{◌≡◌, ◌↔◌, IsTrue, ℕ, ◌==◌, List, ◌++◌, Bool, true, Option, Result, Ok, Err}
use Rattle.std.specs.IoError.{error_kind}
use Rattle.std.specs.declared.io.Error.{Error}
use Rattle.std.specs.declared.io.ErrorKind.TheVariants.{BrokenPipe}
use Rattle.std.specs.Io.KnownBytes.{Consumes, IsAtEnd, Appends}
use Rattle.jc_cli.specs.declared.fault.RunFault.{RunFault}
use Rattle.jc_cli.specs.declared.fault.RunFault.TheVariants.{Read, TooLong, Script, Entry, Open, Close, Write, Memory}
use Rattle.jc_cli.specs.declared.fault.ProgramFault.{ProgramFault}
use Rattle.jc_cli.specs.declared.fault.ProgramFault.TheVariants.{ConfigRead, Config, Run}

-- all that was left was read
abbrev pub IsAll : Option (List ℕ) → Option (List ℕ) → List ℕ → Type 0
IsAll old new bytes = Consumes old new bytes × IsAtEnd new

-- a front of the text was written
abbrev pub WritesFront : Option (List ℕ) → Option (List ℕ) → List ℕ → Type 0
WritesFront old new text = (front rest : List ℕ) × (text ≡ front ++ rest) × Appends old new front

-- the faults that reading can end with
abbrev pub IsOfReading : RunFault → Type 0
IsOfReading Read = Unit {0}
IsOfReading TooLong = Unit {0}
IsOfReading Memory = Unit {0}
IsOfReading _ = ⊥

-- a write failed, or took no byte
abbrev pub takes_nothing : {E : Type 0} → Result ℕ E → Bool
takes_nothing (Ok n) = n == 0
takes_nothing (Err e) = true

-- whether the last fault of a writer was that nobody reads any more, after one more call
abbrev pub UnheardAfter : {T : Type 0} → Result T Error → Bool → Bool → Type 0
UnheardAfter (Ok x) before after = after ≡ before
UnheardAfter (Err e) before after = IsTrue after ↔ (error_kind e ≡ BrokenPipe)

-- the faults of members that an op does not need
abbrev pub IsOfStrictness : RunFault → Type 0
IsOfStrictness (Entry n) = Unit {0}
IsOfStrictness Memory = Unit {0}
IsOfStrictness _ = ⊥

-- the faults that running can end with
abbrev pub IsOfRunning : RunFault → Type 0
IsOfRunning Open = Unit {0}
IsOfRunning Memory = Unit {0}
IsOfRunning _ = ⊥

-- the faults that reading a script's text can end with
abbrev pub IsOfScript : RunFault → Type 0
IsOfScript (Script f) = Unit {0}
IsOfScript Memory = Unit {0}
IsOfScript _ = ⊥

-- the faults that reading a configuration can end with
abbrev pub IsOfConfiguring : ProgramFault → Type 0
IsOfConfiguring ConfigRead = Unit {0}
IsOfConfiguring (Config f) = Unit {0}
IsOfConfiguring (Run f) = f ≡ Memory
IsOfConfiguring _ = ⊥

-- the faults before the first call
abbrev pub IsBeforeCalls : RunFault → Type 0
IsBeforeCalls Read = Unit {0}
IsBeforeCalls TooLong = Unit {0}
IsBeforeCalls (Script f) = Unit {0}
IsBeforeCalls (Entry n) = Unit {0}
IsBeforeCalls Open = Unit {0}
IsBeforeCalls _ = ⊥

-- all calls were made, and the report was written or not
abbrev pub HasRun : {T : Type 0} → Result T RunFault → Type 0
HasRun (Ok done) = Unit {0}
HasRun (Err Write) = Unit {0}
HasRun (Err _) = ⊥

-- the faults of a run on threads before its report is written
abbrev pub IsOfThreads : RunFault → Type 0
IsOfThreads Open = Unit {0}
IsOfThreads Close = Unit {0}
IsOfThreads Memory = Unit {0}
IsOfThreads _ = ⊥
