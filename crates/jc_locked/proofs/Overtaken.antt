-- A call that is told as overtaken: none is open on its cache.
use Rattle.std.proofs.Common.{◌≡◌, ◌⊎◌, ℕ, Bool, true, false, if◌then◌else◌, List, Option, Some, None, inl, inr, refl, ◌∙◌, ap, is_some, option_map}
use Rattle.jc_model.specs.declared.call.Answer.{Answer}
use Rattle.jc_model.specs.declared.event.Cause.{Cause}
use Rattle.jc_model.specs.declared.event.Cause.TheVariants as causes
use Rattle.jc_model.specs.declared.event.Event.TheVariants as event
use Rattle.jc_model.specs.declared.event.Outcome.TheVariants as outcome
use Rattle.jc_model.specs.Places.{at_place}
use Rattle.jc_model.specs.Run.{Awaited, Run, ended, waiting, fits}
use Rattle.jc_model.specs.Runs.{Status, CacheEvent, answers as given_answer, gives_up, shown, reply_of, refuse_last, answer_of, answer_to}
use Rattle.jc_model.specs.Suspended.{Wait, standing_by, run_of}
use Rattle.jc_engine.specs.Advances.{is_open_in}
use Rattle.jc_engine.specs.Caches.{Cache, lives_of, status_of}
use Rattle.jc_engine.proofs.Names.{at_place_map}

-- an answer to an open call is refused for its kind, or for memory
wrong_or_memory : (is_fit : Bool) (run : Run) (memory : Bool) (cause : Cause) → outcome.Refused cause ≡ refuse_last memory (if is_fit then shown run else outcome.Refused causes.WrongAnswer) → (cause ≡ causes.WrongAnswer) ⊎ (cause ≡ causes.OutOfMemory)
wrong_or_memory false run memory cause is = inl cc
wrong_or_memory true (ended p r) true cause is = inr cc
wrong_or_memory true (ended p r) false cause is = absurd cc
wrong_or_memory true (waiting q p next) true cause is = inr cc
wrong_or_memory true (waiting q p next) false cause is = absurd cc

module _ (caches : List (Option Cache)) (id : ℕ) (said : CacheEvent) (memory : Bool) (cause : Cause) (refused : outcome.Refused cause ≡ answer_of (at_place (lives_of caches) id) said memory) where
  -- no call is open, where none of a cache with an open one is refused so
  none_where : ((k : Cache) (w : Awaited × Wait) → outcome.Refused cause ≡ refuse_last memory (reply_of k.config (standing_by k.config k.progress (Some w)) said) → ⊥) → is_open_in (at_place caches id) ≡ false
  none_where never = at (at_place caches id) refl
    where
      turned : (k : Cache) (turn : Option (Awaited × Wait)) → outcome.Refused cause ≡ refuse_last memory (reply_of k.config (standing_by k.config k.progress turn) said) → is_some turn ≡ false
      turned k None is = refl
      turned k (Some w) is = absurd (never k w is)

      at : (found : Option Cache) → at_place caches id ≡ found → is_open_in found ≡ false
      at None here = refl
      at (Some k) here =
          turned k k.turn (refused ∙ ap (λ (o : Option Status). answer_of o said memory) (at_place_map status_of caches id ∙ ap (option_map status_of) here))

-- an answer that is refused for another cause found none open
pub none_open : (caches : List (Option Cache)) (id : ℕ) (a : Answer) (memory : Bool) (cause : Cause) → outcome.Refused cause ≡ answer_to (lives_of caches) (event.Answer id a) memory → (cause ≡ causes.WrongAnswer → ⊥) → (cause ≡ causes.OutOfMemory → ⊥) → is_open_in (at_place caches id) ≡ false
none_open caches id a memory cause refused other known =
    none_where caches id (given_answer a) memory cause refused (λ k w is. elim (wrong_or_memory (fits w.0 a) (run_of k.config k.progress w.1 a) memory cause is) [ inl wrong ↦ other wrong | inr none ↦ known none ])

-- so did a give-up that is refused
pub none_left : (caches : List (Option Cache)) (id : ℕ) (memory : Bool) (cause : Cause) → outcome.Refused cause ≡ answer_to (lives_of caches) (event.GiveUp id) memory → is_open_in (at_place caches id) ≡ false
none_left caches id memory cause refused = none_where caches id gives_up memory cause refused (λ k w is. absurd cc)
