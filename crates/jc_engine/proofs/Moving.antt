-- One event of the manager, by what it did to its cache.
use Rattle.std.proofs.Common.{◌≡◌, ℕ, Bool, true, false, if◌then◌else◌, List, length, option_map, slice_set, OnOk, OnErr, IfOk, IfErr, is_some, Option, Some, None, Ok, Err, Result, refl, sym, ap, ◌∙◌, arith}
use Rattle.jc_engine.proofs.Names.{map-set, Cause, OutOfMemory, Outcome, there, at_place, Status, CacheEvent, on_cache, reply_of, refuse_last, is_refused, for_memory, answer_of, answer_in, moved, put_moved, lives_by, at_place_map, EngineStep, Slot}
use Rattle.jc_engine.proofs.Names.{Cache, status_of, lives_of, cache_in, is_step, Moves, step_of, outcome_of, of_start, ChangesOne, caches_in, Refused, Stepped, at_same, FitsAt, IfOk-weaker, NoSuchCache, on_err_weaker, answer_to_destroy}
use Rattle.jc_engine.proofs.Names.{Destroyed, Awaited, Wait, standing_by, common_steps, gives_up, Noted, turn_in, LeavesNotices, Abandons, of_abandon}
use Rattle.jc_model.specs.declared.event.Cause.TheVariants.{Busy}
use Rattle.jc_model.specs.Runs.{destroyed_by}
use Rattle.jc_ops.specs.Visited.{Visited}
use Rattle.jc_engine.specs.Managed.{reply_to, HasHeard, IsRefusedFor, IsReady, IsPutBack}
use Rattle.jc_engine.proofs.Places.{same_set, place_of, Within, seen_is, live_is, Changes, seen_put}

-- where memory suffices, a reply stays
pub plain : (reply : Outcome) → refuse_last false reply ≡ reply
plain (Stepped s) = refl
plain _ = refl

memory_refused : (reply : Outcome) → is_step reply ≡ true → Refused OutOfMemory ≡ refuse_last true reply
memory_refused (Stepped s) is = refl
memory_refused _ is = absurd cc

last_of : (found : Option Status) (said : CacheEvent) (memory : Bool) → refuse_last memory (answer_of found said false) ≡ answer_of found said memory
last_of None said memory = refl
last_of (Some k) said memory = ap (refuse_last memory) (plain (reply_of k.config k.standing said))

-- what is refused where memory suffices is refused so in any case
pub refused_anyway : (found : Option Status) (said : CacheEvent) (cause : Cause) (memory : Bool) → answer_of found said false ≡ Refused cause → Refused cause ≡ answer_of found said memory
refused_anyway found said cause memory is = ap (refuse_last memory) (sym is) ∙ last_of found said memory

-- a step, while memory was refused
pub memory_last : (found : Option Status) (said : CacheEvent) → is_step (answer_of found said false) ≡ true → Refused OutOfMemory ≡ answer_of found said true
memory_last found said is = memory_refused (answer_of found said false) is ∙ last_of found said true

-- What is at an id answers, as its cache replies, or as no cache.
module _ (caches : List (Option Cache)) (id : ℕ) {o : Option Cache} (at : at_place caches id ≡ o) where
  pub live_at : at_place (lives_of caches) id ≡ option_map status_of o
  live_at = at_place_map status_of caches id ∙ ap (option_map status_of) at

  pub answer_at : (said : CacheEvent) (memory : Bool) → answer_in (lives_of caches) (on_cache id said) memory ≡ answer_of (option_map status_of o) said memory
  answer_at said memory = ap (λ (found : Option Status). answer_of found said memory) live_at

pub reply_at : (caches : List (Option Cache)) (id : ℕ) {k : Cache} (said : CacheEvent) → at_place caches id ≡ Some k → answer_in (lives_of caches) (on_cache id said) false ≡ reply_to k said
reply_at caches id said at = answer_at caches id at said false ∙ plain _

-- no cache answers at an id where none is
pub no_answer : (w : Within) (id : ℕ) (said : CacheEvent) → w.caches id ≡ None → Refused NoSuchCache ≡ answer_in (lives_of w.seen) (on_cache id said) false
no_answer w id said none = sym (answer_at w.seen id (seen_is w id none) said false)

-- a cache is destroyed where no call is open
pub destroyed_at : (caches : List (Option Cache)) (id : ℕ) {k : Cache} → at_place caches id ≡ Some k
    → answer_to_destroy (at_place (lives_of caches) id) ≡ (if is_some k.turn then Refused Busy else Destroyed)
destroyed_at caches id {k} at = ap answer_to_destroy (live_at caches id at) ∙ by k.turn
  where
    by : (turn : Option (Awaited × Wait)) → destroyed_by (standing_by k.config k.progress turn) ≡ (if is_some turn then Refused Busy else Destroyed)
    by None = refl
    by (Some w) = refl

-- what an event did to its cache; memory says whether memory was refused
pub record Did (k k' : Cache) (said : CacheEvent) (memory : Bool) (o : Outcome) : Type 0 where
  pub shows : o ≡ refuse_last memory (reply_to k said)
  pub moves : is_refused o ≡ false → status_of k' ≡ moved (status_of k) said
  pub stays : is_refused o ≡ true → k' ≡ k

-- a call that has moved its cache
pub moved_on : {k k' : Cache} {said : CacheEvent} {advance : EngineStep} → Moves k said k' advance → Did k k' said false (Stepped (step_of advance))
moved_on moves = record { shows = moves.shows ∙ sym (plain _); moves = λ _. moves.moves; stays = λ e. absurd cc }

-- a call that goes on
pub advanced : {T : Type 0} {cache cache' : Slot} {v w : Visited} {said : CacheEvent} (r : Result EngineStep T) → is_step (reply_to (cache_in cache) said) ≡ true → HasHeard cache v said r cache' w → Did (cache_in cache) (cache_in cache') said (for_memory (outcome_of r)) (outcome_of r)
advanced (Ok advance) allowed heard = moved_on heard.ok
advanced (Err back) allowed heard = record { shows = memory_refused _ allowed; moves = λ e. absurd cc; stays = λ _. ap cache_in heard.same }

-- a call that begins, and may be refused
pub started : {cache cache' : Slot} {v w : Visited} {said : CacheEvent} (r : Result EngineStep Cause) → HasHeard cache v said r cache' w → IfErr r (IsRefusedFor (cache_in cache) said) → Did (cache_in cache) (cache_in cache') said (for_memory (of_start r)) (of_start r)
started (Ok advance) heard err = moved_on heard.ok
started (Err cause) heard err = record { shows = err; moves = λ e. absurd cc; stays = λ _. ap cache_in heard.same }

pub ok_then : {A E P : Type 0} (r : Result A E) → P → OnOk r P
ok_then (Ok x) p = p
ok_then (Err e) p = tt

-- the manager's fields after it
module _ {w : Within} {id : ℕ} {cache cache' : Slot} {g : ℕ → Option Slot} (c : Changes w id cache (Some cache') g) where
  pub one_after : ChangesOne w.seen id (caches_in g (length w.members))
  one_after = record { cache = cache_in cache'; is = seen_put c }

  pub new_here : at_place (caches_in g (length w.members)) id ≡ Some (cache_in cache')
  new_here = ap (λ (ks : List (Option Cache)). at_place ks id) (seen_put c) ∙ ap there (at_same w.seen id (Some (cache_in cache)) (Some (cache_in cache')) (place_of w.seen id (cache_in cache) (seen_is w id c.at)))

  pub unchanged : cache_in cache' ≡ cache_in cache → caches_in g (length w.members) ≡ w.seen
  unchanged same =
      seen_put c
      ∙ ap (λ (k : Cache). slice_set w.seen id (Some k)) same
      ∙ same_set w.seen id (Some (cache_in cache)) (place_of w.seen id (cache_in cache) (seen_is w id c.at))

  pub fits_after : {T : Type 0} {v n : Visited} {said : CacheEvent} (r : Result EngineStep T) → HasHeard cache v said r cache' n → IfOk r (λ advance. FitsAt advance (at_place (caches_in g (length w.members)) id))
  fits_after r heard = IfOk-weaker r _ _ (λ advance moves. rw new_here moves.fits) heard.ok

  pub refused_after : {T : Type 0} {v n : Visited} {said : CacheEvent} (r : Result EngineStep T) → HasHeard cache v said r cache' n → OnErr r (caches_in g (length w.members) ≡ w.seen)
  refused_after r heard = on_err_weaker r (λ same. unchanged (ap cache_in same)) heard.same

  module _ {said : CacheEvent} {memory : Bool} {o : Outcome} (d : Did (cache_in cache) (cache_in cache') said memory o) where
    pub outcome_after : o ≡ answer_in (lives_of w.seen) (on_cache id said) memory
    outcome_after = d.shows ∙ ap (λ (found : Option Status). answer_of found said memory) (sym (live_is w id c.at))

    pub lives_later : lives_of (caches_in g (length w.members)) ≡ lives_by (lives_of w.seen) (on_cache id said) o
    lives_later = by (is_refused o) d.moves d.stays
      where
        by : (b : Bool) → (b ≡ false → status_of (cache_in cache') ≡ moved (status_of (cache_in cache)) said) → (b ≡ true → cache_in cache' ≡ cache_in cache)
            → lives_of (caches_in g (length w.members)) ≡ (if b then lives_of w.seen else put_moved (lives_of w.seen) id said (at_place (lives_of w.seen) id))
        by true moves stays = ap lives_of (unchanged (stays refl))
        by false moves stays =
            ap lives_of (seen_put c) ∙ map-set (option_map status_of) w.seen id (Some (cache_in cache'))
            ∙ (ap (λ (s : Status). slice_set (lives_of w.seen) id (Some s)) (moves refl) ∙ ap (put_moved (lives_of w.seen) id said) (sym (live_is w id c.at)))

-- A call that is given up.

module _ (cache cache' : Slot) where
  pub abandoned : (r : Result (Option Noted) Cause) → Abandons cache r cache' → Did (cache_in cache) (cache_in cache') gives_up false (of_abandon r)
  abandoned (Ok None) is = grind (arith, common_steps)
  abandoned (Ok (Some left)) is = grind (arith, common_steps)
  abandoned (Err cause) is = grind (arith, common_steps)

  -- the notices that it leaves, that no call is open after it, and that else nothing has changed
  pub ends : (r : Result (Option Noted) Cause) → Abandons cache r cache' → IfOk r (LeavesNotices (cache_in cache)) × OnOk r (turn_in cache'.turn ≡ None) × OnErr r (cache_in cache' ≡ cache_in cache)
  ends (Ok left) is = (is.2, ap (λ (k : Slot). turn_in k.turn) is.0, tt)
  ends (Err cause) is = (tt, tt, ap cache_in is.2)

  pub put_back : (v : Visited) (r : Result (Option Noted) Cause) → IsReady cache v → Abandons cache r cache' → IsPutBack cache v cache' v
  put_back v (Ok left) is abandons = grind (arith, common_steps)
  put_back v (Err cause) is abandons = grind (arith, common_steps)
