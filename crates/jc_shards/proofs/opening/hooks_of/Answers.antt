use Rattle.std.proofs.Common.{◌+◌, List, sym, subst, take}
use Rattle.jc_hooks.specs.declared.cache_hooks.CacheHooks.{CacheHooks}
use Rattle.jc_hooks.specs.declared.no_hooks.NoHooks.{NoHooks as Silent}
use Rattle.jc_hooks.specs.Suits.{AllSuit}
use Rattle.jc_shards.proofs.Suited.{one_more_taken}
use Rattle.jc_shards.proofs.opening.hooks_of.Goals as goal

pub loop-config-preserved : goal.loop-config-preserved
loop-config-preserved c =
    let index = c.loop-config.config-index in
    let configs = c.args.configs.now in
    let more = one_more_taken (λ (p : Silent). p.wants) configs index c.config-item.result c.loop-config.hooks.items c.in_ok-placeholder_hooks.field-0 c.loop-config-test.true c.config-item.is c.loop-config.invariant c.in_ok-placeholder_hooks.ensures in
    subst (λ (hooks : List (CacheHooks Silent Silent Silent Silent)). AllSuit (λ (p : Silent). p.wants) (take (index + 1) configs) hooks) (sym c.in_ok-push.ensures.items) more
