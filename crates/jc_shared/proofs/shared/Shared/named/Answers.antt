use Rattle.std.proofs.Common.{ap, ◌∙◌, subst, List}
use Rattle.jc_model.specs.declared.config.CacheConfig.{CacheConfig}
use Rattle.jc_engine.specs.Recording.{Recording}
use Rattle.jc_locked.specs.Opening.{HandedIn}
use Rattle.jc_locked.specs.Sessions.{BeginsWith}
use Rattle.jc_locked.proofs.Opened.{begins_opened}
use Rattle.jc_shared.proofs.shared.Shared.named.Goals as goal

pub over-requires-clause-opened : goal.over-requires-clause-opened
over-requires-clause-opened g c = (0, c.self.inside.configs.items, c.self.invariant.unused)

pub new-requires-3 : goal.new-requires-3
new-requires-3 g c =
    let me = c.self.inside in
    subst (λ (cs : List CacheConfig). BeginsWith cs c.over.result.transcript) (ap (λ (h : HandedIn _ _). h.configs) c.self.view_is ∙ c.requires.configs)
    (begins_opened me.configs.items c.over.result.transcript (ap (λ (r : Recording). r.transcript) c.over.ensures ∙ c.self.invariant.uncalled))
