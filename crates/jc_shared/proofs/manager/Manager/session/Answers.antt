use Rattle.std.proofs.Common.{Ok, sym, ap, subst}
use Rattle.jc_locked.specs.Admitting.{IsAdmission}
use Rattle.jc_locked.specs.Sessions.{Sitting}
use Rattle.jc_shared.proofs.manager.Manager.session.Goals as goal

pub returns-clause-admitted : goal.returns-clause-admitted
returns-clause-admitted g c =
    subst (λ n. IsAdmission g.J.JournalPolicy.after g.J.JournalPolicy.closes (Ok n)) (sym (ap (λ (s : Sitting). s.number) c.new.ensures))
    (record { closed = c.deref_mut.result.now.closed; closing = c.deref_mut.result.now.closes; given = c.deref_mut.result.now.given; room = c.is_ok.result; after = c.enter.new.self.given; admits = c.in_ok-seat.ensures.admits })
