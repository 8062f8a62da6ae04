use Rattle.std.proofs.Common.{ℕ, List, drop}
use Rattle.jc_cli.specs.Note.{NotesParts}
use Rattle.jc_cli.specs.Program.{texts_lent}
use Rattle.jc_cli.proofs.note.note_parts.Given as goal

-- what is told of the parts that are left is told of all
abbrev pub invariant-loop-part : goal.invariant-loop-part
invariant-loop-part l = (note : List ℕ) → NotesParts (texts_lent (drop l.part-index l.parts)) note → NotesParts (texts_lent l.parts) note
