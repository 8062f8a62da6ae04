use Rattle.std.proofs.Common.{◌≡◌, ◌++◌, take, string_bytes}
use Rattle.std.specs.List.{flat_map}
use Rattle.jc_report.specs.Report.{event_text}
use Rattle.jc_report.proofs.report_text.push_events.Given as goal

abbrev pub invariant-loop-notice : goal.invariant-loop-notice
invariant-loop-notice l = string_bytes l.report ≡ string_bytes l.initial.report ++ flat_map (event_text l.session) (take l.notice-index l.told)
