use Rattle.jc_engine.specs.Caches.{lives_of}
use Rattle.jc_locked.proofs.Showing.{met_shows}
use Rattle.jc_locked.proofs.guarded_state.GuardedState.refresh.Goals as goal

pub returns-clause-shows : goal.returns-clause-shows
returns-clause-shows g c = record { tells = c.meet.ensures.tells; shows = met_shows _ c.meet.result c.meet.new.watcher.met c.meet.ensures.met c.meet.ensures.refused }

pub returns-clause-sees : goal.returns-clause-sees
returns-clause-sees g c =
    let recorded = c.args.self.now.recorded in
    record {
      transcript = recorded.transcript;
      legal = c.meet.ensures.tells.legal;
      begins = c.args.self.now.begins;
      lives = lives_of recorded.caches;
      sees = record { tells = c.meet.ensures.tells; shows = met_shows _ c.meet.result c.meet.new.watcher.met c.meet.ensures.met c.meet.ensures.refused };
    }
