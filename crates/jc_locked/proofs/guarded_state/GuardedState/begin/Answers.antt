use Rattle.jc_engine.specs.Recording.{blank}
use Rattle.jc_locked.proofs.Tenures.{drafted}
use Rattle.jc_locked.proofs.guarded_state.GuardedState.begin.Goals as goal

pub returns-in-Ok-clause-ok : goal.returns-in-Ok-clause-ok
returns-in-Ok-clause-ok g c =
    let draft = c.args.draft.now in
    drafted g.N.Name.configs draft c.end_by.new.draft (blank c.args.seat.now.number draft.id draft.at c.args.call) c.in-Ok.step c.in-Ok.copy c.begin_call.new.seat.pass c.requires c.end_by.ensures c.in-Ok.ensures.ok
