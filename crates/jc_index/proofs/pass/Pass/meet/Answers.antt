use Rattle.jc_index.specs.Spelling.{image_in}
use Rattle.jc_index.proofs.Seeing.{prefix_map}
use Rattle.jc_index.proofs.pass.Pass.meet.Goals as goal

pub returns-clause-front : goal.returns-clause-front
returns-clause-front g c = rw (← c.self.view_is) (prefix_map image_in _ _ c.meet.ensures.front)
