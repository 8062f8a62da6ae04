use Rattle.std.proofs.Common.{◌∙◌}
use Rattle.jc_engine.specs.Caches.{lives_of}
use Rattle.jc_locked.proofs.Livings.{named_lives}
use Rattle.jc_locked.proofs.guarded_state.GuardedState.cache.Goals as goal

pub returns-clause-exact : goal.returns-clause-exact
returns-clause-exact g c = c.cache.ensures.exact ∙ named_lives c.args.name.now 0 c.args.self.now.recorded.caches

pub returns-clause-named : goal.returns-clause-named
returns-clause-named g c =
    let recorded = c.args.self.now.recorded in
    record {
      transcript = recorded.transcript;
      lives = lives_of recorded.caches;
      told = record { legal = c.cache.ensures.told.legal; begins = c.args.self.now.begins; tells = c.cache.ensures.told };
      named = c.cache.ensures.exact ∙ named_lives c.args.name.now 0 recorded.caches;
    }
