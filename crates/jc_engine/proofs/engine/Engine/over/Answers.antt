use Rattle.std.proofs.Common.{◌∙◌}
use Rattle.jc_engine.proofs.Places.{within}
use Rattle.jc_engine.proofs.Coming.{manager_over, spare_empty}
use Rattle.jc_engine.proofs.engine.Engine.over.Goals as goal

pub over-requires : goal.over-requires
over-requires g c = record { kept = spare_empty (g.S.Rows.contents c.args.rows) c.self.inside.visit.cache c.requires.empty c.self.invariant.spare }

pub invariant_of-result : goal.invariant_of-result
invariant_of-result g c =
    manager_over (within c.self.view_is c.self.invariant) c.over.result c.requires.opened.0 c.requires.opened.1 (c.over.ensures.table ∙ c.requires.empty) c.requires.opened.2 c.over.ensures.cache c.over.ensures.notices
