use Rattle.jc_engine.proofs.Recordings.{destroyed}
use Rattle.jc_engine.proofs.recorded.Recorded.destroy.Goals as goal

pub invariant_of-self-2 : goal.invariant_of-self-2
invariant_of-self-2 g c =
    rw c.destroy-2.ensures.same
    (destroyed c.self.invariant c.args.id (g.J.Journal.places c.destroy-2.new.self) c.in_ok-destroy.ensures.gone c.destroy-2.ensures.places c.in_ok-destroy.ensures.outcome c.in_ok-destroy.ensures.lives)

pub returns-clause-told : goal.returns-clause-told
returns-clause-told g c = (rw (← c.self.view_is) c.self.invariant.told, (invariant_of-self-2 g c).told)
