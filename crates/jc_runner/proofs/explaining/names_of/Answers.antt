use Rattle.std.proofs.Common.{◌∙◌, ap, List, ℕ, arith, map, Bor}
use Rattle.std.proofs.lemmas.List.{map_push}
use Rattle.jc_config.specs.Limits.{names_of_caches}
use Rattle.jc_model.specs.declared.config.CacheConfig.{CacheConfig}
use Rattle.jc_runner.proofs.Pushed.{more_mapped, all_mapped}
use Rattle.jc_runner.proofs.explaining.names_of.Goals as goal

pub loop-cache-preserved : goal.loop-cache-preserved
loop-cache-preserved c =
    more_mapped (λ (cache : CacheConfig). cache.name) c.caches-cache-items.result.now c.loop-cache.cache-index c.cache-item.result (map (λ name. name.now) c.loop-cache.names.items) (map (λ name. name.now) c.push.new.self.items) c.text.result.now (omega (arith, c.loop-cache-test.true)) c.loop-cache.invariant
    (c.text.ensures.same ∙ ap (λ (cache : CacheConfig). cache.name) c.cache-item.is)
    (ap (map (λ (name : Bor (List ℕ)). name.now)) c.in_ok-push.ensures.items ∙ map_push (λ (name : Bor (List ℕ)). name.now) c.loop-cache.names.items c.text.result)

pub returns : goal.returns
returns c =
    all_mapped (λ (cache : CacheConfig). cache.name) c.caches-cache-items.result.now c.loop-cache.cache-index (map (λ name. name.now) c.loop-cache.names.items) (omega (arith, c.loop-cache-test.false)) c.loop-cache.invariant
    ∙ ap names_of_caches c.caches-cache-items.ensures.same
