use Rattle.std.proofs.Common.{◌≡◌, [], subst}
use Rattle.jc_ops.specs.Visited.{Visited}
use Rattle.jc_engine.proofs.Tables.{none_left}
use Rattle.jc_engine.proofs.cache.Managed.leave.Goals as goal

pub returns-clause-gone : goal.returns-clause-gone
returns-clause-gone g c =
    let cleared = subst (λ (v : Visited). c.clear.new.self.cache ≡ record v.cache { cells = [] }) c.exchange.ensures.exchanged c.clear.ensures.cleared in
    rw (← c.self.view_is, c.exchange-2.ensures.exchanged) (none_left c.clear.new.self.table c.self.inside.state.value.kept c.clear.new.self.cache c.exchange-2.ensures.was_kept.tied cleared)
