use Rattle.std.proofs.Common.{List, map, ◌∙◌, ap}
use Rattle.jc_model.specs.declared.config.CacheConfig.{CacheConfig}
use Rattle.jc_model.specs.Runs.{opened_from}
use Rattle.jc_model.specs.Legal.{at_first}
use Rattle.jc_locked.specs.Stated.{shared_of, processor_counts}
use Rattle.jc_locked.specs.declared.hooks.SharedHooks.{SharedHooks}
use Rattle.jc_locked.proofs.Opened.{counted, locked}
use Rattle.jc_shared.proofs.shared.open_parts.Goals as goal

pub invariant_of-result : goal.invariant_of-result
invariant_of-result g c =
    let same = c.in_ok-second.ensures ∙ c.as_slice.ensures.value in
    record {
      unused = c.in_ok-recorded.ensures.opened ∙ ap (λ (cs : List CacheConfig). opened_from 0 cs) same;
      uncalled = c.in_ok-recorded.ensures.uncalled ∙ ap (λ (cs : List CacheConfig). at_first 0 cs) same;
      counted = ap (λ (shared : List (SharedHooks _ _)). processor_counts shared) {y = map shared_of c.args.hooks.items} c.in_ok-hooks.ensures.shared ∙ counted g.P.Processor.wants c.args.configs.items c.args.hooks.items c.requires.suit;
      locked = c.in_ok-hooks.ensures.locks ∙ locked g.P.Processor.wants c.args.configs.items c.args.hooks.items c.requires.suit;
    }
