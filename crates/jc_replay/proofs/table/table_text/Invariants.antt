use Rattle.std.proofs.Common.{◌≡◌, ◌++◌, take, string_bytes}
use Rattle.std.specs.List.{flat_map}
use Rattle.jc_replay.specs.Table.{line_text}
use Rattle.jc_replay.proofs.table.table_text.Given as goal

abbrev pub invariant-loop-ratio : goal.invariant-loop-ratio
invariant-loop-ratio l = string_bytes l.text ≡ string_bytes l.initial.text ++ flat_map line_text (take l.ratio-index l.ratios)
