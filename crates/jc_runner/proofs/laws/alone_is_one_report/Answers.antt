use Rattle.jc_runner.proofs.Apart.{one_report}
use Rattle.jc_runner.proofs.laws.alone_is_one_report.Goals as goal

pub returns : goal.returns
returns c = λ caches all entries entries' text text' tells tells' alike. one_report caches all entries entries' text text' tells tells' alike
