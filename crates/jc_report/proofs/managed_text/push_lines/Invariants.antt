use Rattle.std.proofs.Common.{◌≡◌, ◌++◌, take, string_bytes}
use Rattle.std.specs.List.{flat_map}
use Rattle.jc_report.specs.Report.{managed_line}
use Rattle.jc_report.proofs.managed_text.push_lines.Given as goal

abbrev pub invariant-loop-line : goal.invariant-loop-line
invariant-loop-line l = string_bytes l.report ≡ string_bytes l.initial.report ++ flat_map managed_line (take l.line-index l.lines)
