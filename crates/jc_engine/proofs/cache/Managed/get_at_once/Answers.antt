use Rattle.std.proofs.Common.{refl, rules}
use Rattle.jc_engine.proofs.Calls.{idle_before, put_back}
use Rattle.jc_engine.proofs.cache.Managed.get_at_once.Goals as goal

pub returns-clause-back : goal.returns-clause-back
returns-clause-back g c =
    let k = c.self.inside.state.value.kept in
    let none = rw (← c.self.view_is) at (c.in-None.ensures c.args.visit.now.moment) in
    let idle = idle_before k c.self.inside.turn c.args.visit.now.moment c.args.call.now none in
    rw (← c.self.view_is) (put_back refl refl (rw c.exchange.ensures.exchanged at c.get_at_once-found.ensures.same_visit) (search rules) (rw idle tt))
