use Rattle.std.proofs.Common.{sym, subst}
use Rattle.jc_model.specs.declared.event.Event.TheVariants as event
use Rattle.jc_model.specs.declared.event.Outcome.TheVariants.{Destroyed}
use Rattle.jc_engine.specs.Recording.{Recording}
use Rattle.jc_locked.specs.Tenures.{IsTenure}
use Rattle.jc_engine.specs.Results.{of_destroy}
use Rattle.jc_locked.proofs.Livings.{destroyed_begins, has_gone}
use Rattle.jc_locked.proofs.guarded_state.GuardedState.destroy.Goals as goal

pub invariant_of-self : goal.invariant_of-self
invariant_of-self g c = record { begins = destroyed_begins g.N.Name.configs c.args.self.now.recorded.transcript c.destroy.new.self.transcript 0 c.args.id (of_destroy c.destroy.result) c.args.self.now.begins (c.destroy.ensures.transcript 0); closes = c.args.self.now.closes }

pub returns-in-Ok-clause-tenure : goal.returns-in-Ok-clause-tenure
returns-in-Ok-clause-tenure g c = λ session.
    subst (λ (r : Recording). IsTenure c.args.self.now.recorded r session (event.Destroy c.args.id) Destroyed) (sym c.show.ensures.same) (record { answered = c.in-Ok.ensures.outcome; transcript = c.in-Ok.ensures.transcript session; lives = c.in-Ok.ensures.lives })

pub returns-in-Ok-clause-gone : goal.returns-in-Ok-clause-gone
returns-in-Ok-clause-gone g c =
    let told = c.in-Ok.ensures.told.0 in
    has_gone g.N.Name.configs c.args.self.now.recorded c.destroy.new.self (record { legal = told.legal; begins = c.args.self.now.begins; tells = told }) c.args.id c.show.new.pass
    (λ session. record { answered = c.in-Ok.ensures.outcome; transcript = c.in-Ok.ensures.transcript session; lives = c.in-Ok.ensures.lives }) c.show.ensures.sees
