use Rattle.std.proofs.Common.{rules}
use Rattle.jc_runner.proofs.Opening.{configuration_opens}
use Rattle.jc_runner.proofs.files.configuration.configuration_in.Goals as goal

pub returns-in-Ok-clause-opens : goal.returns-in-Ok-clause-opens
returns-in-Ok-clause-opens c = configuration_opens c.args.bytes.now c.in-Ok.configuration (search rules)
