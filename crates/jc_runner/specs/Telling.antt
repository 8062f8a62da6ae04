-- What the program says, explanations included.
use Rattle.std.specs.Prelude.{◌≡◌, ◌⊎◌, ℕ, if◌then◌else◌, List, Option, Some, None, Result, String, codes, string_bytes, ⊤}
use Rattle.std.specs.declared.alloc.Global.{Global}
use Rattle.std.specs.declared.io.ErrorKind.{ErrorKind}
use Rattle.clap.specs.Words.{Text}
use Rattle.jc_explain.specs.Kept.{kept_in}
use Rattle.jc_explain.specs.declared.kept.Kept.{Kept}
use Rattle.jc_runner.specs.Every.{TellsBelow}
use Rattle.jc_runner.specs.Program.{ProgramEnds}
use Rattle.jc_cli.specs.Faults.{is_of_config}
use Rattle.jc_cli.specs.Program.{is_input}
use Rattle.jc_cli.specs.declared.ending.Ended.{Ended}
use Rattle.jc_cli.specs.declared.ending.Ending.{Ending}
use Rattle.jc_cli.specs.declared.ending.Ending.TheVariants.{Explained, Listed}
use Rattle.jc_cli.specs.declared.ending.WordsFault.{WordsFault}
use Rattle.jc_cli.specs.declared.fault.ProgramFault.{ProgramFault}
use Rattle.jc_runner.specs.declared.command.streams.Opened.{Opened}
use Rattle.jc_runner.specs.declared.command.streams.Standard.{Standard}
use Rattle.jc_cli.specs.declared.input.WatchedReader.{WatchedReader}
use Rattle.jc_runner.specs.Explaining.{TellsFault}

-- the bytes that a file kept, or else standard input; none where memory was refused for them
abbrev pub kept_bytes : {F I : Type 0} → Option (WatchedReader (Kept F)) → WatchedReader (Kept I) → Option (List ℕ)
kept_bytes None input = kept_in input.inner.keeps input.inner.bytes.items
kept_bytes (Some file) input = kept_in file.inner.keeps file.inner.bytes.items

-- a path as it is told
abbrev pub shown_path : List ℕ → List ℕ
shown_path path = if is_input path then codes "standard input" else path

-- this is true of both files' bytes, which were kept
abbrev pub OfKept : Option (List ℕ) → Option (List ℕ) → (List ℕ → List ℕ → Type 0) → Type 0
OfKept (Some config) (Some script) IsSo = IsSo config script
OfKept _ _ IsSo = ⊥

-- what the system answered for a file that was opened, for one that was not, or for standard input
abbrev pub answer_of : {F I : Type 0} → Option (WatchedReader (Kept F)) → Option ErrorKind → WatchedReader (Kept I) → Option ErrorKind
answer_of (Some file) disk input = file.inner.fault
answer_of None (Some kind) input = Some kind
answer_of None None input = input.inner.fault

module _ {F I : Type 0} (opened : Opened (Kept F)) (disk : Option ErrorKind) (input : WatchedReader (Kept I)) where
  abbrev pub config_bytes : Option (List ℕ)
  config_bytes = kept_bytes opened.config input

  abbrev pub script_bytes : Option (List ℕ)
  script_bytes = kept_bytes opened.script input

  -- of the file in which the fault is
  abbrev pub answer_for : ProgramFault → Option ErrorKind
  answer_for fault = answer_of (if is_of_config fault then opened.config else opened.script) disk input

  -- the lines explain the fault, or tell what stands behind it; of other endings they are not told
  abbrev pub TellsEnding : Ending → List ℕ → Type 0
  TellsEnding (Explained fault path) lines = OfKept config_bytes script_bytes (λ config script. TellsFault (shown_path (string_bytes path)) (answer_for fault) config script fault lines)
  TellsEnding (Listed fault path explain strict) lines = OfKept config_bytes script_bytes (λ config script. TellsBelow (shown_path (string_bytes path)) (answer_for fault) config script explain strict fault lines)
  TellsEnding _ lines = ⊤

-- memory is wanting for the explanation
abbrev pub no_memory_line : List ℕ
no_memory_line = codes "  out of memory for the explanation\n"

module _ {F I O E : Type 0} (of_file : F → Option (List ℕ)) (of_input : I → Option (List ℕ)) (contents : O → Option (List ℕ)) (said : E → Option (List ℕ)) (opened opened' : Opened (Kept F)) (disk' : Option ErrorKind) (standard standard' : Standard (Kept I) O E) where
  -- the program has obeyed the words, and said how that ended, with the lines that explain it
  pub record EndsTold (words : Result (List Text) WordsFault) (result : Ended) : Type 0 where
    pub lines : List ℕ
    pub ends : ProgramEnds (λ (file : Kept F). of_file file.inner) (λ (input : Kept I). of_input input.inner) contents said (λ path. None) None None opened opened' standard standard' lines words result
    pub tells : TellsEnding opened' disk' standard'.input ends.ending lines ⊎ (lines ≡ no_memory_line)
