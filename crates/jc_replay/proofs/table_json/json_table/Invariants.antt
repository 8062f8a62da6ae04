use Rattle.std.proofs.Common.{◌≡◌, ◌++◌, take, string_bytes}
use Rattle.std.specs.List.{flat_map}
use Rattle.jc_replay.specs.TableJson.{json_line}
use Rattle.jc_replay.proofs.table_json.json_table.Given as goal

abbrev pub invariant-loop-ratio : goal.invariant-loop-ratio
invariant-loop-ratio l = string_bytes l.text ≡ string_bytes l.initial.text ++ flat_map json_line (take l.ratio-index l.ratios)
