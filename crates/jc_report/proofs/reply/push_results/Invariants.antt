use Rattle.std.proofs.Common.{◌≡◌, ◌++◌, take, string_bytes}
use Rattle.std.specs.List.{flat_map}
use Rattle.jc_report.specs.Report.{result_text}
use Rattle.jc_report.proofs.reply.push_results.Given as goal

abbrev pub invariant-loop-of_key : goal.invariant-loop-of_key
invariant-loop-of_key l = string_bytes l.text ≡ string_bytes l.initial.text ++ flat_map result_text (take l.of_key-index l.results)
