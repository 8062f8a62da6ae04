use Rattle.std.proofs.Common.{subst}
use Rattle.jc_model.specs.declared.event.Event.TheVariants.{Create}
use Rattle.jc_model.specs.declared.event.Outcome.{Outcome}
use Rattle.jc_runner.specs.Halfway.{MovesRecording}
use Rattle.jc_runner.proofs.serial_run.caches.create.Goals as goal

pub returns-in-Ok-clause-moves : goal.returns-in-Ok-clause-moves
returns-in-Ok-clause-moves g c = λ session.
    subst (λ (o : Outcome). MovesRecording c.args.recorded.now c.create.new.self session (Create c.args.config) o) c.in-Ok.ensures.outcome
    (record { answers = c.in-Ok.ensures.outcome; lives = c.in-Ok.ensures.lives; transcript = c.in-Ok.ensures.transcript session })
