use Rattle.std.proofs.Common.{◌≡◌, drop}
use Rattle.jc_engine.specs.Caches.{lives_of}
use Rattle.jc_report.specs.Again.{after_answers}
use Rattle.jc_report.proofs.counters.answer_all.Given as goal

abbrev pub invariant-loop-given : goal.invariant-loop-given
invariant-loop-given g l = after_answers (lives_of l.engine) (drop l.given-index l.answers) ≡ after_answers (lives_of l.initial.engine) l.answers
