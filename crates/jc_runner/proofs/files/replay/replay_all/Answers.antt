use Rattle.std.proofs.Common.{ap, Err}
use Rattle.jc_runner.proofs.Traces.{ends_unread}
use Rattle.jc_runner.proofs.files.replay.replay_all.Goals as goal

pub returns-in-Err-clause-ends : goal.returns-in-Err-clause-ends
returns-in-Err-clause-ends g c =
    rw c.trace_fault.ensures
    (ends_unread g.I.Read.remaining g.O.Write.contents c.args.replay.now c.args.reader.now c.read_bytes.new.reader c.args.writer.now c.in-Err.fault c.in-Err.ensures.others (λ e. c.in-Err.ensures.failed (ap (λ f. Err f) e)) (λ e. c.in-Err.ensures.long (ap (λ f. Err f) e)))
