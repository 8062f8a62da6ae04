use Rattle.std.proofs.Common.{◌≡◌, ◌++◌, drop, string_bytes}
use Rattle.jc_report.specs.Report.{lives_text}
use Rattle.jc_report.proofs.report_text.push_lives.Given as goal

-- the lives so far, and then what is left, are all
abbrev pub invariant-loop-life : goal.invariant-loop-life
invariant-loop-life l = string_bytes l.report ++ lives_text (drop l.life-index l.lives) l.entries ≡ string_bytes l.initial.report ++ lives_text l.lives l.entries
