use Rattle.std.proofs.Common.{◌≡◌, drop}
use Rattle.std.specs.List.{list_any}
use Rattle.jc_cli.specs.Note.{is_mark_of_path}
use Rattle.jc_cli.proofs.note.has_mark_of_path.Given as goal

-- one is among all exactly if one is among those that are left
abbrev pub invariant-loop-byte : goal.invariant-loop-byte
invariant-loop-byte l = list_any is_mark_of_path l.bytes ≡ list_any is_mark_of_path (drop l.byte-index l.bytes)
