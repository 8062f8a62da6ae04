use Rattle.jc_engine.specs.Results.{of_create}
use Rattle.jc_locked.proofs.Livings.{created_begins, is_created}
use Rattle.jc_locked.proofs.guarded_state.GuardedState.create.Goals as goal

pub invariant_of-self : goal.invariant_of-self
invariant_of-self g c = record { begins = created_begins g.N.Name.configs c.args.self.now.recorded.transcript c.create.new.self.transcript 0 c.args.config (of_create c.create.result) c.args.self.now.begins (c.create.ensures.transcript 0); closes = c.args.self.now.closes }

pub returns-in-Ok-clause-tenure : goal.returns-in-Ok-clause-tenure
returns-in-Ok-clause-tenure g c = λ session. record { answered = c.in-Ok.ensures.outcome; transcript = c.in-Ok.ensures.transcript session; lives = c.in-Ok.ensures.lives }

pub returns-in-Ok-clause-created : goal.returns-in-Ok-clause-created
returns-in-Ok-clause-created g c =
    let told = c.in-Ok.ensures.told in
    is_created g.N.Name.configs c.args.self.now.recorded c.create.new.self (record { legal = told.0.legal; begins = c.args.self.now.begins; tells = told.0 }) c.args.config c.in-Ok.id
    (λ session. record { answered = c.in-Ok.ensures.outcome; transcript = c.in-Ok.ensures.transcript session; lives = c.in-Ok.ensures.lives }) told.1.legal told.1
