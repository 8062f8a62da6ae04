-- What one event is to a cache of the manager.
use Rattle.jc_model.proofs.Names.{Bool, None, Option, Some, arith, false, length, refl, true, ℕ, ◌≡◌, nat_tests, ◌==◌, CacheConfig, Cause, NoSuchCache, CreateRefusal, Outcome, CreateRefused}
use Rattle.jc_model.proofs.Names.{Created, Destroyed, Refused, Lives, ManagerEvent, CacheEvent, Standing, Status, answer_in, answer_of, answer_to_create, answer_to_destroy, busy, create_refusal, creates}
use Rattle.jc_model.proofs.Names.{destroyed_by, destroys, for_memory, idle, at_place, refuse_last, reply_of, on_cache}

-- The event is another's or does not reach the cache; the cache hears it; it is destroyed or created by it.
pub data Meets (lives : Lives) (id : ℕ) : ManagerEvent → Outcome → Type 0 where
  said_elsewhere : {i : ℕ} {said : CacheEvent} {outcome : Outcome} → (i == id) ≡ false → Meets lives id (on_cache i said) outcome
  unheard : {said : CacheEvent} → at_place lives id ≡ None → Meets lives id (on_cache id said) (Refused NoSuchCache)
  heard : {said : CacheEvent} {outcome : Outcome} (k : Status) → at_place lives id ≡ Some k → outcome ≡ refuse_last (for_memory outcome) (reply_of k.config k.standing said) → Meets lives id (on_cache id said) outcome
  destroyed_elsewhere : {i : ℕ} {outcome : Outcome} → (i == id) ≡ false → Meets lives id (destroys i) outcome
  spared : {cause : Cause} → Meets lives id (destroys id) (Refused cause)
  parted : (k : Status) → at_place lives id ≡ Some k → Meets lives id (destroys id) Destroyed
  not_created : {c : CacheConfig} {refusal : CreateRefusal} → Meets lives id (creates c) (CreateRefused refusal)
  created_elsewhere : {c : CacheConfig} → (length lives == id) ≡ false → Meets lives id (creates c) (Created (length lives))
  created_here : {c : CacheConfig} → length lives ≡ id → Meets lives id (creates c) (Created (length lives))

pub meets : (lives : Lives) (id : ℕ) (o : ManagerEvent) (outcome : Outcome) → outcome ≡ answer_in lives o (for_memory outcome) → Meets lives id o outcome
meets lives id (on_cache i said) outcome e = by (i == id) refl
  where
    here : i ≡ id → (found : Option Status) → at_place lives id ≡ found → outcome ≡ answer_of found said (for_memory outcome) → Meets lives id (on_cache i said) outcome
    here same None at is = rw (same, is) (unheard at)
    here same (Some k) at is = rw same (heard k at is)

    by : (b : Bool) → (i == id) ≡ b → Meets lives id (on_cache i said) outcome
    by false h = said_elsewhere h
    by true h = let same : i ≡ id = grind (arith, nat_tests) in here same (at_place lives id) refl (rw same at e)
meets lives id (creates c) outcome e = by (create_refusal lives c) (for_memory outcome) e
  where
    place : (b : Bool) → (length lives == id) ≡ b → Meets lives id (creates c) (Created (length lives))
    place true h = created_here (grind (arith, nat_tests))
    place false h = created_elsewhere h

    by : (refusal : Option CreateRefusal) (memory : Bool) → outcome ≡ answer_to_create refusal (length lives) memory → Meets lives id (creates c) outcome
    by (Some refusal) memory is = rw is not_created
    by None true is = rw is not_created
    by None false is = rw is (place (length lives == id) refl)
meets lives id (destroys i) outcome e = by (i == id) refl
  where
    there : i ≡ id → (k : Status) → at_place lives id ≡ Some k → (standing : Standing) → outcome ≡ destroyed_by standing → Meets lives id (destroys i) outcome
    there same k at (idle s) is = rw (same, is) (parted k at)
    there same k at (busy w p resumed) is = rw (same, is) spared

    here : i ≡ id → (found : Option Status) → at_place lives id ≡ found → outcome ≡ answer_to_destroy found → Meets lives id (destroys i) outcome
    here same None at is = rw (same, is) spared
    here same (Some k) at is = there same k at k.standing is

    by : (b : Bool) → (i == id) ≡ b → Meets lives id (destroys i) outcome
    by false h = destroyed_elsewhere h
    by true h = let same : i ≡ id = grind (arith, nat_tests) in here same (at_place lives id) refl (rw same at e)
