use Rattle.std.proofs.Common.{rules}
use Rattle.jc_runner.proofs.serial_run.calls.resume.Goals as goal

pub returns-in-Ok-clause-moves : goal.returns-in-Ok-clause-moves
returns-in-Ok-clause-moves g c = λ session. record { answers = search rules; lives = search rules; transcript = c.in-Ok.ensures.transcript session }
