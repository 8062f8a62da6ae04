use Rattle.std.proofs.Common.{[], ap, ◌∙◌}
use Rattle.jc_ops.specs.Kept.{Kept}
use Rattle.jc_ops.specs.Visited.{Visited}
use Rattle.jc_engine.proofs.Tables.{none_left}
use Rattle.jc_engine.proofs.cache.Managed.fill.Goals as goal

pub returns-in-Err-clause-gone : goal.returns-in-Err-clause-gone
returns-in-Err-clause-gone g c =
    let cleared = c.clear.ensures.cleared
    ∙ ap (λ (k : Kept). record k { cells = [] }) (c.add_rows.ensures.same ∙ ap (λ (v : Visited). record v.cache { cells = c.add_rows.new.visit.cache.cells }) c.exchange.ensures.exchanged) in
    rw (← c.self.view_is, c.exchange-in-Err.ensures.exchanged) (none_left c.clear.new.self.table c.self.inside.state.value.kept c.clear.new.self.cache c.exchange-in-Err.ensures.was_kept.tied cleared)
