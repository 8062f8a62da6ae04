use Rattle.std.proofs.Common.{ap, ◌∙◌}
use Rattle.jc_model.specs.Members.{id_named}
use Rattle.jc_script.specs.Live.{id_of_live, lives_in}
use Rattle.jc_script.proofs.KeptCaches.{id_by_members}
use Rattle.jc_script.proofs.live.Live.find.Goals as goal

pub returns : goal.returns
returns c =
    c.find.ensures ∙ ap (id_named c.args.name.now) c.self.invariant.listed ∙ id_by_members c.args.name.now (lives_in c.self.inside.caches.items)
    ∙ ap (λ caches. id_of_live (lives_in caches) c.args.name.now) c.self.view_is
