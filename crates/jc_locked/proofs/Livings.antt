-- What a tenure makes of a cache that it finds, creates or destroys.
use Rattle.std.proofs.Common.{◌≡◌, ℕ, false, if◌then◌else◌, List, [], ◌∷◌, ◌++◌, length, take, Option, Some, None, refl, sym, ◌∙◌, ap, subst}
use Rattle.std.specs.Prelude.{◌+◌, IsSome}
use Rattle.std.specs.Str.{bytes_eq}
use Rattle.jc_model.specs.declared.config.CacheConfig.{CacheConfig}
use Rattle.jc_model.specs.declared.event.CreateRefusal.{CreateRefusal}
use Rattle.jc_model.specs.declared.event.Event.TheVariants as event
use Rattle.jc_model.specs.declared.event.Life.{Life}
use Rattle.jc_model.specs.declared.event.Outcome.{Outcome}
use Rattle.jc_model.specs.declared.event.Outcome.TheVariants as outcome
use Rattle.jc_model.specs.Places.{named_from, at_place}
use Rattle.jc_model.specs.Runs.{Status, Lives, opened, create_refusal, answer_to_create, answer_to_destroy}
use Rattle.jc_model.specs.Legal.{History, IsLegal, Tells, config_of, numbered_lives, recorded}
use Rattle.jc_model.proofs.Lives.{live_same, live_last}
use Rattle.jc_engine.specs.Caches.{Cache, lives_of}
use Rattle.jc_locked.specs.Sessions.{Sight, BeginsWith, Sees}
use Rattle.jc_engine.specs.Recording.{Recording}
use Rattle.jc_locked.specs.Living.{IsToldOf, IsCreated, HasGone}
use Rattle.jc_locked.specs.Tenures.{IsTenure}

-- names are found among the lives as among the caches
pub named_lives : (name : List ℕ) (i : ℕ) (caches : List (Option Cache)) → named_from (λ (k : Cache). k.config.name) name i caches ≡ named_from (λ (k : Status). k.config.name) name i (lives_of caches)
named_lives name i [] = refl
named_lives name i (None ∷ caches) = named_lives name (i + 1) caches
named_lives name i (Some k ∷ caches) = ap (λ (o : Option ℕ). if bytes_eq k.config.name name then Some i else o) (named_lives name (i + 1) caches)

-- further lives come behind the first
take_more : (first : ℕ) (configs : List CacheConfig) (lives more : List Life) → take (length configs) lives ≡ numbered_lives first configs → take (length configs) (lives ++ more) ≡ numbered_lives first configs
take_more first [] lives more begins = refl
take_more first (c ∷ configs) [] more begins = absurd cc
take_more first (c ∷ configs) (l ∷ lives) more begins =
    let here : l ≡ record { id = first; config = c } = cc in
    let rest : take (length configs) lives ≡ numbered_lives (first + 1) configs = cc in
    (λ i. here i ∷ take_more (first + 1) configs lives more rest i)

pub created_begins : (configs : List CacheConfig) (t new : History) (session : ℕ) (config : CacheConfig) (o : Outcome) → BeginsWith configs t → new ≡ recorded session (event.Create config) o t → BeginsWith configs new
created_begins configs t new session config o first written = subst (BeginsWith configs) (sym written) (by o)
  where
    by : (o : Outcome) → BeginsWith configs (recorded session (event.Create config) o t)
    by (outcome.Created id) = take_more 0 configs t.lives (record { id = id; config = config } ∷ []) first
    by (outcome.CreateRefused refusal) = first
    by (outcome.Step step) = first
    by (outcome.Refused cause) = first
    by (outcome.GivenUp notices) = first
    by outcome.Destroyed = first

pub destroyed_begins : (configs : List CacheConfig) (t new : History) (session id : ℕ) (o : Outcome) → BeginsWith configs t → new ≡ recorded session (event.Destroy id) o t → BeginsWith configs new
destroyed_begins configs t new session id o first written = subst (BeginsWith configs) (sym written) (by o)
  where
    by : (o : Outcome) → BeginsWith configs (recorded session (event.Destroy id) o t)
    by (outcome.Created i) = first
    by (outcome.CreateRefused refusal) = first
    by (outcome.Step step) = first
    by (outcome.Refused cause) = first
    by (outcome.GivenUp notices) = first
    by outcome.Destroyed = first

module _ (configs : List CacheConfig) (old new : Recording) (was : IsToldOf configs old) where
  -- a cache that was created
  pub is_created : (config : CacheConfig) (id : ℕ) → ((session : ℕ) → IsTenure old new session (event.Create config) (outcome.Created id)) → IsLegal new.transcript → Tells new.transcript (lives_of new.caches) → IsCreated configs id config
  is_created config id tenure legal tells = record {
    old = old;
    was = was;
    new = new;
    told = record { legal = legal; begins = created_begins configs old.transcript new.transcript 0 config (outcome.Created id) was.begins (tenure 0).transcript; tells = tells };
    tenure = tenure;
    there = subst (λ (ls : Lives). IsSome (at_place ls id)) (sym (tenure 0).lives) (subst (λ (i : ℕ). IsSome (at_place (lives ++ Some (opened config) ∷ []) i)) (sym next) (subst IsSome (sym (live_last lives (Some (opened config)))) refl));
  }
    where
      lives : Lives
      lives = lives_of old.caches

      by : (refusal : Option CreateRefusal) → outcome.Created id ≡ answer_to_create refusal (length lives) false → id ≡ length lives
      by (Some refusal) is = absurd cc
      by None is = cc

      next : id ≡ length lives
      next = by (create_refusal lives config) (tenure 0).answered

  -- a cache that was destroyed
  pub has_gone : (id : ℕ) (pass : Sight) → ((session : ℕ) → IsTenure old new session (event.Destroy id) outcome.Destroyed) → Sees new.transcript (lives_of new.caches) pass → HasGone configs id pass
  has_gone id pass tenure sees = at (at_place lives id) refl (tenure 0).answered
    where
      lives : Lives
      lives = lives_of old.caches

      at : (found : Option Status) → at_place lives id ≡ found → outcome.Destroyed ≡ answer_to_destroy found → HasGone configs id pass
      at None live is = absurd cc
      at (Some k) live is =
          let lived : IsSome (config_of id old.transcript.lives) = subst IsSome (sym (was.tells.each id k live).0) refl in
          record {
            old = old;
            was = was;
            new = new;
            told = record { legal = sees.tells.legal; begins = destroyed_begins configs old.transcript new.transcript 0 id outcome.Destroyed was.begins (tenure 0).transcript; tells = sees.tells };
            tenure = tenure;
            sees = sees;
            lived = subst (λ (h : History). IsSome (config_of id h.lives)) (sym (tenure 0).transcript) lived;
            gone = ap (λ (ls : Lives). at_place ls id) (tenure 0).lives ∙ live_same lives id k None live;
          }
