-- What a watched reader gave, and what was added to a watched writer.
use Rattle.std.specs.Prelude.{◌≡◌, ℕ, ◌<◌, List, length, true, false, Option, IfSome}
use Rattle.std.specs.Io.KnownBytes.{Appends, Keeps}
use Rattle.jc_model.specs.Limits.{text_bytes}
use Rattle.jc_cli.specs.Meters.{next_count}
use Rattle.jc_cli.specs.Streams.{IsAll, WritesFront}
use Rattle.jc_cli.specs.declared.input.WatchedReader.{WatchedReader}
use Rattle.jc_cli.specs.declared.output.WatchedWriter.{WatchedWriter}

-- a reader that was not read yet
abbrev pub unread_reader : {R : Type 0} → R → WatchedReader R
unread_reader reader = record { inner = reader; reads = 0; failures = 0 }

-- a writer that was not called yet
abbrev pub unused_writer : {W : Type 0} → W → WatchedWriter W
unused_writer writer = record { inner = writer; texts = 0; failures = 0; unheard = false; flushed = false }

-- What a reader has left, before and after.
module _ {R : Type 0} (remaining : R → Option (List ℕ)) where
  abbrev pub ReadsAll : WatchedReader R → WatchedReader R → List ℕ → Type 0
  ReadsAll old new bytes = IsAll (remaining old.inner) (remaining new.inner) bytes

  -- it is longer than a text may be
  abbrev pub InputIsTooLong : WatchedReader R → Type 0
  InputIsTooLong reader = IfSome (remaining reader.inner) (λ input. text_bytes < length input)

-- the reader failed once
abbrev pub ReadFails : {R : Type 0} → WatchedReader R → WatchedReader R → Type 0
ReadFails old new = new.failures ≡ next_count old.failures

-- What was added to a writer: a text, a front of one, or nothing.
module _ {W : Type 0} (contents : W → Option (List ℕ)) where
  abbrev pub AddsText : WatchedWriter W → WatchedWriter W → List ℕ → Type 0
  AddsText old new text = Appends (contents old.inner) (contents new.inner) text

  abbrev pub AddsFront : WatchedWriter W → WatchedWriter W → List ℕ → Type 0
  AddsFront old new text = WritesFront (contents old.inner) (contents new.inner) text

  abbrev pub AddsNothing : WatchedWriter W → WatchedWriter W → Type 0
  AddsNothing old new = Keeps (contents old.inner) (contents new.inner)

-- what the writer took was flushed, and nothing failed
abbrev pub FlushesAll : {W : Type 0} → WatchedWriter W → WatchedWriter W → Type 0
FlushesAll old new = (new.flushed ≡ true) × (new.failures ≡ old.failures)

-- the writer was given one text more, whether it took it or not
abbrev pub IsGivenText : {W : Type 0} → WatchedWriter W → WatchedWriter W → Type 0
IsGivenText old new = new.texts ≡ next_count old.texts

-- the writer failed once
abbrev pub WriteFails : {W : Type 0} → WatchedWriter W → WatchedWriter W → Type 0
WriteFails old new = new.failures ≡ next_count old.failures
