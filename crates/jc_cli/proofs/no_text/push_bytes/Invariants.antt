use Rattle.std.proofs.Common.{◌≡◌, ◌++◌, drop, string_bytes}
use Rattle.jc_cli.specs.NoText.{bytes_shown}
use Rattle.jc_cli.proofs.no_text.push_bytes.Given as goal

-- what was added, then the bytes that are left, is all
abbrev pub invariant-loop-byte : goal.invariant-loop-byte
invariant-loop-byte l = string_bytes l.text ++ bytes_shown (drop l.byte-index l.bytes) ≡ string_bytes l.initial.text ++ bytes_shown l.bytes
