use Rattle.std.proofs.Common.{Err, refl, sym, subst}
use Rattle.jc_cli.specs.Streams.{IsOfThreads}
use Rattle.jc_runner.proofs.Kept.{never_open, of_threads}
use Rattle.jc_runner.proofs.threaded_run.make_lines_under.Goals as goal

pub returns-in-Err-clause-faults : goal.returns-in-Err-clause-faults
returns-in-Err-clause-faults g c = subst IsOfThreads (sym c.from.ensures) (of_threads c.in-Err.fault)

pub returns-in-Err-clause-opened : goal.returns-in-Err-clause-opened
returns-in-Err-clause-opened g c = never_open c.in-Err.fault c.from.result c.from.ensures (Err c.from.result) refl
