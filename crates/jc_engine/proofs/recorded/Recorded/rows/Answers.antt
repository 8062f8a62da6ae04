use Rattle.std.proofs.Common.{ap, ◌∙◌}
use Rattle.jc_engine.proofs.Names.{at_place}
use Rattle.jc_engine.specs.Recording.{Recording}
use Rattle.jc_engine.proofs.recorded.Recorded.rows.Goals as goal

pub returns-clause-sound : goal.returns-clause-sound
returns-clause-sound g c = λ id k at. c.rows.ensures.sound id k (ap (λ (r : Recording). at_place r.caches id) c.self.view_is ∙ at)
