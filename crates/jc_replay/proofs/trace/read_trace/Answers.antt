use Rattle.std.proofs.Common.{length}
use Rattle.jc_replay.proofs.Traces.{too_long, whole, few_lines, lower}
use Rattle.jc_replay.proofs.trace.read_trace.Goals as goal

pub returns-then-trace-gt-TEXT_BYTES-clause-read :
    goal.returns-then-trace-gt-TEXT_BYTES-clause-read
returns-then-trace-gt-TEXT_BYTES-clause-read c = too_long c.args.trace.now c.if-trace-gt-TEXT_BYTES.true

pub returns-clause-read : goal.returns-clause-read
returns-clause-read c =
    rw (whole c.args.trace.now c.as_slice.result.now c.in_ok-lines.lines.items c.if-trace-gt-TEXT_BYTES.false c.as_slice.ensures.value c.in_ok-lines.ensures)
    c.read_lines.ensures.read

pub returns-clause-few : goal.returns-clause-few
returns-clause-few c =
    lower (λ v. length v.items) c.read_lines.result _ _
    (few_lines c.args.trace.now c.as_slice.result.now c.in_ok-lines.lines.items c.if-trace-gt-TEXT_BYTES.false c.as_slice.ensures.value c.in_ok-lines.ensures)
    c.read_lines.ensures.few
