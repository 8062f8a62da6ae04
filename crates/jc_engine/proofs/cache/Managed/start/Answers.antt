use Rattle.std.proofs.Common.{subst}
use Rattle.jc_ops.specs.Visited.{Visited}
use Rattle.jc_bulk.specs.Calls.{EndsFrom, call_run}
use Rattle.jc_engine.proofs.Calls.{has_begun, idle_before}
use Rattle.jc_engine.proofs.cache.Managed.start.Goals as goal

pub end-requires-clause-idle : goal.end-requires-clause-idle
end-requires-clause-idle g c = idle_before c.self.inside.state.value.kept c.self.inside.turn 0 c.args.call.now (rw (← c.self.view_is) at (c.in_default.ensures 0))

pub returns-in-Ok-Some-clause-heard : goal.returns-in-Ok-Some-clause-heard
returns-in-Ok-Some-clause-heard g c =
    let k = c.self.inside.state.value.kept in
    let ended = rw c.in-Ok-Some.field-0-is at c.in-Ok-Some.ensures.ended in
    let runs = subst (λ (v : Visited). EndsFrom (call_run v c.args.call.now) c.end_at_once.new.visit c.in-Ok-Some.reply) c.exchange.ensures.exchanged ended in
    let settled = c.end.ensures.settled k.config (call_run (record c.args.visit.now { cache = k; spare = c.exchange.new.self.spare }) c.args.call.now) runs in
    let allowed = c.in_default.ensures c.args.visit.now.moment in
    rw (← c.self.view_is)
    (has_begun (rw (← c.self.view_is) at c.requires) (rw (← c.self.view_is) at allowed) (rw c.exchange.ensures.exchanged at c.in-Ok-Some.ensures.same_visit) (rw c.exchange.ensures.left at c.end.ensures.back) settled)

pub returns-in-Ok-Some-clause-free : goal.returns-in-Ok-Some-clause-free
returns-in-Ok-Some-clause-free g c = λ _. (returns-in-Ok-Some-clause-heard g c).ok.shows
