use Rattle.std.proofs.Common.{List, refl, sym, subst}
use Rattle.std.proofs.lemmas.Bool.{false≢true}
use Rattle.jc_model.specs.declared.config.CacheConfig.{CacheConfig}
use Rattle.jc_hooks.specs.Suits.{AllSuit}
use Rattle.jc_runner.proofs.Suiting.{suited, each_suits}
use Rattle.jc_runner.proofs.callbacks.all_suit.Goals as goal

pub returns-in-None : goal.returns-in-None
returns-in-None g c =
    let wants = g.P.Processor.wants in
    (λ _. suited wants c.args.settings.now c.args.hooks.now (subst (λ (cs : List CacheConfig). AllSuit wants cs c.args.hooks.now) c.caches.ensures.same c.in-None.ensures.first), λ _. refl)

pub returns-in-Some : goal.returns-in-Some
returns-in-Some g c =
    let wants = g.P.Processor.wants in (
      λ e. absurd (false≢true e),
      λ s. absurd (c.in-Some.ensures.first.here (subst (λ (cs : List CacheConfig). AllSuit wants cs c.args.hooks.now) (sym c.caches.ensures.same) (each_suits wants c.args.settings.now c.args.hooks.now s) _)),
    )
