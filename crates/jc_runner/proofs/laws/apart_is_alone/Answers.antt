use Rattle.jc_runner.proofs.Apart.{apart_alone}
use Rattle.jc_runner.proofs.laws.apart_is_alone.Goals as goal

pub returns : goal.returns
returns c = λ stated caches all transcript made apart. apart_alone stated caches all transcript made apart
