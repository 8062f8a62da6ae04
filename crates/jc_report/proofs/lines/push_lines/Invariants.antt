use Rattle.std.proofs.Common.{◌≤◌, ◌+◌, drop, string_bytes}
use Rattle.jc_report.proofs.SoFar.{IsSoFar}
use Rattle.jc_report.proofs.lines.push_lines.Given as goal

abbrev pub invariant-loop-line : goal.invariant-loop-line
invariant-loop-line l = record {
  few : l.left.next ≤ l.first + l.line-index;
  told : IsSoFar l.run.transcript.now.lives (string_bytes l.text) l.left.next (drop l.line-index l.outline) l.left.callers l.left.managed.now (string_bytes l.initial.text) l.first l.outline l.run.transcript.now.entries l.run.managed.now;
}
