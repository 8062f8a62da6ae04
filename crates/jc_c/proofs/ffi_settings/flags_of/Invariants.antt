use Rattle.std.proofs.Common.{◌≡◌, map, take}
use Rattle.jc_c.specs.Reading.{is_set}
use Rattle.jc_c.proofs.ffi_settings.flags_of.Given as goal

abbrev pub invariant-loop-byte : goal.invariant-loop-byte
invariant-loop-byte l = l.flags.items ≡ map is_set (take l.byte-index l.bytes)
