use Rattle.std.proofs.lemmas.Bool.{false≢true}
use Rattle.jc_runner.proofs.serial_run.serial.Goals as goal

pub returns-clause-lax : goal.returns-clause-lax
returns-clause-lax g c n is = false≢true (c.serial_as.ensures.entry n is).0
