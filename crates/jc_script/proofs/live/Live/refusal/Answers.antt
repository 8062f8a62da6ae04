use Rattle.std.proofs.Common.{ap, ◌∙◌}
use Rattle.jc_model.specs.Runs.{create_refusal}
use Rattle.jc_script.specs.Live.{lives_in}
use Rattle.jc_model.specs.Refusals.{refusal_beside}
use Rattle.jc_script.proofs.live.Live.refusal.Goals as goal

pub returns : goal.returns
returns c =
    c.refusal.ensures ∙ ap (λ ms. refusal_beside ms c.args.config.now) c.self.invariant.listed
    ∙ ap (λ caches. create_refusal (lives_in caches) c.args.config.now) c.self.view_is
