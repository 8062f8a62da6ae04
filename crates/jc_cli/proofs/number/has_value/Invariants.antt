use Rattle.std.proofs.Common.{◌≡◌, drop}
use Rattle.std.specs.List.{list_any}
use Rattle.jc_cli.specs.Number.{is_above_zero}
use Rattle.jc_cli.proofs.number.has_value.Given as goal

-- one is among all exactly if one is among those that are left
abbrev pub invariant-loop-byte : goal.invariant-loop-byte
invariant-loop-byte l = list_any is_above_zero l.bytes ≡ list_any is_above_zero (drop l.byte-index l.bytes)
