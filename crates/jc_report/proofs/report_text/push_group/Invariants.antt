use Rattle.std.proofs.Common.{◌≡◌, ◌++◌, map, take, string_bytes}
use Rattle.std.specs.List.{flat_map}
use Rattle.jc_report.specs.Report.{entry_text}
use Rattle.jc_report.proofs.report_text.push_group.Given as goal

abbrev pub invariant-loop-entry : goal.invariant-loop-entry
invariant-loop-entry l = string_bytes l.report ≡ string_bytes l.initial.report ++ flat_map entry_text (map (λ e. e.now) (take l.entry-index l.group))
