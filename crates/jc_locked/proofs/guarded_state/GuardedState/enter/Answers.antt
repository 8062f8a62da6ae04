use Rattle.jc_engine.specs.Caches.{lives_of}
use Rattle.jc_locked.proofs.guarded_state.GuardedState.enter.Goals as goal

pub returns-in-Ok-clause-sees : goal.returns-in-Ok-clause-sees
returns-in-Ok-clause-sees g c =
    let recorded = c.args.self.now.recorded in
    let shown = c.in-Ok.ensures.watcher in (
      record {
        transcript = recorded.transcript;
        legal = c.in-Ok.ensures.tells.legal;
        begins = c.args.self.now.begins;
        lives = lives_of recorded.caches;
        sees = record { tells = c.in-Ok.ensures.tells; shows = λ _. shown.0 };
      },
      shown.1,
    )

pub returns-in-Ok-clause-shows : goal.returns-in-Ok-clause-shows
returns-in-Ok-clause-shows g c = record { tells = c.in-Ok.ensures.tells; shows = λ _. c.in-Ok.ensures.watcher.0 }
