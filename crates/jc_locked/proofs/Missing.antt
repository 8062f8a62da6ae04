-- An event on a cache that is not there.
use Rattle.std.proofs.Common.{◌≡◌, ℕ, false, List, Option, Some, None, refl, ◌∙◌, ap, is_some, option_map}
use Rattle.jc_model.specs.declared.call.Call.{Call}
use Rattle.jc_model.specs.declared.config.CacheConfig.{CacheConfig}
use Rattle.jc_model.specs.declared.event.Cause.TheVariants.{NoSuchCache}
use Rattle.jc_model.specs.declared.event.Event.TheVariants as event
use Rattle.jc_model.specs.Places.{at_place}
use Rattle.jc_model.specs.Legal.{History, Tells}
use Rattle.jc_engine.specs.Caches.{Cache, lives_of, status_of}
use Rattle.jc_engine.proofs.Names.{at_place_map}
use Rattle.jc_locked.specs.Sessions.{BeginsWith}
use Rattle.jc_locked.specs.Living.{Refuses}

none_of : {A : Type 0} (o : Option A) → false ≡ is_some o → o ≡ None
none_of (Some x) is = absurd cc
none_of None is = refl

-- a call there is refused for that
pub refuses_missing : (configs : List CacheConfig) (h : History) (caches : List (Option Cache)) → BeginsWith configs h → Tells h (lives_of caches) → (id : ℕ) → false ≡ is_some (at_place caches id) → (at : ℕ) (call : Call) → Refuses configs (event.Begin id at call) NoSuchCache
refuses_missing configs h caches begins tells id none at call =
    let gone : at_place (lives_of caches) id ≡ None = at_place_map status_of caches id ∙ ap (option_map status_of) (none_of (at_place caches id) none) in
    record { transcript = h; lives = lives_of caches; told = record { legal = tells.legal; begins = begins; tells = tells }; refusal = rw gone refl }
