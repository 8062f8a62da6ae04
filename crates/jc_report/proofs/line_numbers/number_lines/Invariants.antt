use Rattle.std.proofs.Common.{◌≡◌, ◌++◌, drop}
use Rattle.jc_report.specs.Outline.{numbered_lines}
use Rattle.jc_report.proofs.line_numbers.number_lines.Given as goal

-- the lines so far, and then those that are left, are all
abbrev pub invariant-loop-i : goal.invariant-loop-i
invariant-loop-i l = l.all.items ++ numbered_lines (drop l.i l.numbers) (drop l.i l.lines) ≡ numbered_lines l.numbers l.lines
