use Rattle.std.proofs.Common.{List, map, subst}
use Rattle.jc_locked.specs.Accounts.{Accounts, own_log}
use Rattle.jc_locked.specs.declared.auditing.SessionLog.{SessionLog}
use Rattle.jc_threads.proofs.together.transcribed.Goals as goal

pub returns-in-Ok-into_transcript-clause-made : goal.returns-in-Ok-into_transcript-clause-made
returns-in-Ok-into_transcript-clause-made g c =
    let given = c.in-Ok-into_transcript.ensures.accounts.0 in
    let entries = c.in-Ok-into_transcript.transcript.entries in
    c.in-Ok.ensures.made given entries (subst (λ (logs : List SessionLog). Accounts given (map own_log logs) entries) c.as_slice.ensures.value c.in-Ok-into_transcript.ensures.accounts.1)
