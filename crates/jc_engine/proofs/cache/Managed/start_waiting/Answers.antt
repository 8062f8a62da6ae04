use Rattle.std.proofs.Common.{subst}
use Rattle.jc_ops.specs.Visited.{Visited}
use Rattle.jc_bulk.specs.Calls.{ComesFrom, call_run}
use Rattle.jc_engine.proofs.Calls.{has_begun}
use Rattle.jc_engine.proofs.cache.Managed.start_waiting.Goals as goal

pub returns-in-Ok-clause-heard : goal.returns-in-Ok-clause-heard
returns-in-Ok-clause-heard g c =
    let k = c.self.inside.state.value.kept in
    let comes = subst (λ (v : Visited). ComesFrom v (call_run v c.args.call.now) c.in-Ok.next c.start_call.new.visit) c.exchange.ensures.exchanged c.in-Ok.ensures.ok in
    let settled = c.settle.ensures.settled k.config (call_run (record c.args.visit.now { cache = k; spare = c.exchange.new.self.spare }) c.args.call.now) comes in
    rw (← c.self.view_is)
    (has_begun (rw (← c.self.view_is) at c.requires.ready) (rw (← c.self.view_is) at c.requires.allowed) (rw c.exchange.ensures.exchanged at c.in-Ok.ensures.same_visit) (rw c.exchange.ensures.left at c.settle.ensures.back) settled)
