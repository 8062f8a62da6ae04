-- Events write a transcript that tells how the live caches have come to stand as they do.
use Rattle.jc_model.proofs.Names.{is_some, Bool, List, None, Option, Some, [], ap, arith, false, if◌then◌else◌, length, map, refl, suc, sym, true, ℕ, ◌++◌, ◌<◌, ◌∙◌, ◌∷◌, ◌≡◌, ◌≢◌, nat_tests, common_steps}
use Rattle.jc_model.proofs.Names.{All-cons, All-head, All-nil, All-push, All-tail, All-weaker, All, ◌==◌, CacheConfig, NoSuchProcessor, WrongAnswer, CreateRefusal, Waiting, Entry, Event}
use Rattle.jc_model.proofs.Names.{Life, Outcome, GivenUp, History, InOrder, IsLegalFrom, IsTold, Tells, accepted_in, at_first, config_of, entries_of, lives_with, on_open, played}
use Rattle.jc_model.proofs.Names.{recorded, with_answer, with_outcome, there, fits, Lives, ManagerEvent, CacheEvent, Standing, Status, answer_in, answer_of, answer_to, answer_to_create, answers, begins, busy}
use Rattle.jc_model.proofs.Names.{changed_by, create_refusal, creates, destroys, for_memory, fresh, gives_up, has_processor, idle, is_refused, at_place, lives_after, moved, moved_by, opened}
use Rattle.jc_model.proofs.Names.{opened_from, manager_event, put_moved, reply_of, on_cache, shown, standing_of, standing_from, first_state, whole}
use Rattle.jc_model.specs.declared.event.Event.TheVariants as event
use Rattle.jc_model.specs.declared.event.Outcome.TheVariants as outcome
use Rattle.jc_model.proofs.Alone.{not_accepted, accepted_only, same_reply}
use Rattle.jc_model.proofs.EachCache.{status}
use Rattle.jc_model.proofs.Passing.{Meets, said_elsewhere, unheard, heard, destroyed_elsewhere, spared, parted, not_created, created_elsewhere, created_here, meets}
use Rattle.jc_model.proofs.Lives.{same_length, length_one_more, live_same, live_other, live_last, live_before}
use Rattle.jc_model.proofs.Histories.{known_in, order_more, config_other, config_last, known_more, none_beyond, no_entries, numbered_in_order, numbered_below, opened_length, opened_so}
use Rattle.jc_model.proofs.OneCache.{appended, when_waiting, changed, begun_entry, left_shown, answer_moves, give_up_moves}

-- The entries of each cache after a change of one.

id_is_id : (id : ℕ) → (id == id) ≡ true
id_is_id id = grind (arith, nat_tests)

entries_append : (id : ℕ) (transcript : List Entry) (e : Entry) → entries_of id (transcript ++ e ∷ []) ≡ (if e.id == id then entries_of id transcript ++ e ∷ [] else entries_of id transcript)
entries_append id transcript e = grind (arith, common_steps)

-- the same cache's entries change where they wait
open_same : (id : ℕ) (f : Entry → Entry) → ((e : Entry) → (f e).id ≡ e.id) → (transcript : List Entry) → entries_of id (on_open id f transcript) ≡ map (when_waiting f) (entries_of id transcript)
open_same id f keeps [] = refl
open_same id f keeps (e ∷ es) = let rest = open_same id f keeps es in grind (arith, common_steps, keeps)

open_other : (id other : ℕ) (f : Entry → Entry) → ((e : Entry) → (f e).id ≡ e.id) → id ≢ other → (transcript : List Entry) → entries_of other (on_open id f transcript) ≡ entries_of other transcript
open_other id other f keeps differ [] = refl
open_other id other f keeps differ (e ∷ es) = let rest = open_other id other f keeps differ es in grind (arith, common_steps, keeps)

-- One accepted event of one cache.

abbrev pub event_of : ℕ → CacheEvent → Event
event_of id (begins now call) = event.Begin id now call
event_of id (answers a) = event.Answer id a
event_of id gives_up = event.GiveUp id

-- the entries of a cache are legal, and it stands where they leave it
abbrev pub IsToldBy : Status → List Entry → Type 0
IsToldBy k es = IsLegalFrom k.config fresh es × (k.standing ≡ standing_from k.config fresh (map played es))

heard_here : (session id : ℕ) (said : CacheEvent) (o : Outcome) (transcript : List Entry) (c : CacheConfig) (standing : Standing) → IsToldBy (status c standing) (entries_of id transcript) → o ≡ reply_of c standing said → is_refused o ≡ false → IsToldBy (status c (moved_by c standing said)) (entries_of id (accepted_in session (event_of id said) o transcript))
heard_here session id (begins now call) o transcript c (idle s) told e taken =
    let (there, is) = accepted_only (has_processor c call) (shown (whole c now call s)) o NoSuchProcessor e taken in
    let blank : Entry = record { session = session; id = id; at = now; call = call; answers = []; told = []; end = Waiting } in
    let entry : Entry = with_outcome (shown (whole c now call s)) blank in
    let g = appended c entry s fresh (entries_of id transcript) told.0 told.1 (begun_entry c s blank refl refl there) in
    rw (is, entries_append id transcript entry, id_is_id id) (g.legal, left_shown (whole c now call s) ∙ g.leaves)
heard_here session id (answers a) o transcript c (busy w p resumed) told e taken =
    let is = accepted_only (fits w a) (shown (resumed a)) o WrongAnswer e taken in
    let f : Entry → Entry = λ d. with_outcome (shown (resumed a)) (with_answer a d) in
    let g = changed c f (busy w p resumed) (standing_of (resumed a)) tt (answer_moves c w p resumed a is.0) first_state (entries_of id transcript) told.0 told.1 in
    rw (is.1, open_same id f (λ d. refl) transcript) (g.legal, g.leaves)
heard_here session id gives_up o transcript c (busy w p resumed) told e taken =
    let f : Entry → Entry = with_outcome (outcome.GivenUp p.notices) in
    let g = changed c f (busy w p resumed) (idle p.state) tt (give_up_moves c w p resumed) first_state (entries_of id transcript) told.0 told.1 in
    rw (e, open_same id f (λ d. refl) transcript) (g.legal, g.leaves)
heard_here session id (begins now call) o transcript c (busy w p resumed) told e taken = absurd (not_accepted e taken)
heard_here session id (answers a) o transcript c (idle s) told e taken = absurd (not_accepted e taken)
heard_here session id gives_up o transcript c (idle s) told e taken = absurd (not_accepted e taken)

-- it changes no entry of another
heard_elsewhere : (session id : ℕ) (said : CacheEvent) (o : Outcome) (transcript : List Entry) (other : ℕ) → id ≢ other → entries_of other (accepted_in session (event_of id said) o transcript) ≡ entries_of other transcript
heard_elsewhere session id (begins now call) o transcript other differ = grind (arith, common_steps)
heard_elsewhere session id (answers a) o transcript other differ = open_other id other (λ d. with_outcome o (with_answer a d)) (λ d. refl) differ transcript
heard_elsewhere session id gives_up o transcript other differ = open_other id other (with_outcome o) (λ d. refl) differ transcript

-- and brings no unknown cache
known_open : (P : ℕ → Type 0) (id : ℕ) (f : Entry → Entry) → ((e : Entry) → (f e).id ≡ e.id) → (transcript : List Entry) → All (λ e. P e.id) transcript → All (λ e. P e.id) (on_open id f transcript)
known_open P id f keeps [] h = All-nil (λ e. P e.id)
known_open P id f keeps (e ∷ es) h =
    let here = All-head (λ e. P e.id) e es h in
    let rest = known_open P id f keeps es (All-tail (λ e. P e.id) e es h) in
    let is = keeps e in
    All-cons (λ e. P e.id) _ (on_open id f es) (grind (arith, common_steps)) rest

known_after : (P : ℕ → Type 0) (session id : ℕ) (said : CacheEvent) (o : Outcome) (transcript : List Entry) → P id → All (λ e. P e.id) transcript → All (λ e. P e.id) (accepted_in session (event_of id said) o transcript)
known_after P session id (begins now call) o transcript is h = All-push (λ e. P e.id) transcript _ h is
known_after P session id (answers a) o transcript is h = known_open P id (λ d. with_outcome o (with_answer a d)) (λ d. refl) transcript h
known_after P session id gives_up o transcript is h = known_open P id (with_outcome o) (λ d. refl) transcript h

abbrev event_by : ManagerEvent → Event
event_by (on_cache id said) = event_of id said
event_by (creates c) = event.Create c
event_by (destroys id) = event.Destroy id

same_lives : (id : ℕ) (said : CacheEvent) (o : Outcome) (lives : List Life) → lives_with (event_of id said) o lives ≡ lives
same_lives id said o lives = grind (arith, common_steps)

-- what the transcript tells of one cache
record Of (h : History) (lives : Lives) (id : ℕ) : Type 0 where
  legal : (c : CacheConfig) → config_of id h.lives ≡ Some c → IsLegalFrom c fresh (entries_of id h.entries)
  told : (k : Status) → at_place lives id ≡ Some k → IsTold h id k

-- and of none that there is not
record OfAll (h : History) (n : ℕ) : Type 0 where
  ordered : InOrder 0 h.lives
  known : All (λ e. known_in h.lives e.id) h.entries
  given : All (λ life. life.id < n) h.lives

module _ (lives : Lives) (h : History) (tells : Tells h lives) (session : ℕ) where
  abbrev after : ManagerEvent → Outcome → History
  after o outcome = record { lives = lives_with (event_by o) outcome h.lives; entries = accepted_in session (event_by o) outcome h.entries }

  stays : (id : ℕ) (h' : History) (lives' : Lives) → config_of id h'.lives ≡ config_of id h.lives → entries_of id h'.entries ≡ entries_of id h.entries → at_place lives' id ≡ at_place lives id → Of h' lives' id
  stays id h' lives' same_config same_entries same_live = record {
    legal = λ c is. rw same_entries (tells.legal.each id c (sym same_config ∙ is));
    told = λ k at. let t = tells.each id k (sym same_live ∙ at) in rw (same_config, same_entries) t;
  }

  of_one : (id : ℕ) (o : ManagerEvent) (outcome : Outcome) → Meets lives id o outcome → is_refused outcome ≡ false → Of (after o outcome) (changed_by lives o) id
  of_one id (on_cache i said) outcome (said_elsewhere e) taken = grind (arith, stays, config_of, same_lives, heard_elsewhere, nat_tests, live_other)
  of_one id (on_cache i said) outcome (unheard none) taken = absurd (cc)
  of_one id (on_cache i said) outcome (heard k at is) taken =
      let before = tells.each id k at in
      let here = heard_here session id said outcome h.entries k.config k.standing (tells.legal.each id k.config before.0, before.1) (same_reply outcome (reply_of k.config k.standing said) is taken) taken in
      let now = live_same lives id k (Some (moved k said)) at in
      rw (same_lives id said outcome h.lives, at) (record {
        legal = λ c config. (let its : k.config ≡ c = cc in rw (← its) here.0);
        told = λ k' at'. (let its : moved k said ≡ k' = cc in rw (← its) (before.0, here.1));
      })
  of_one id (destroys i) outcome (destroyed_elsewhere e) taken = stays id _ _ refl refl (grind (arith, nat_tests, live_other))
  of_one id (destroys i) outcome spared taken = absurd (cc)
  of_one id (destroys i) outcome (parted k at) taken = record { legal = tells.legal.each id; told = λ k' at'. absurd (let none = live_same lives id k None at in cc) }
  of_one id (creates c) outcome not_created taken = absurd (cc)
  of_one id (creates c) outcome (created_elsewhere e) taken = stays id _ _ (config_other h.lives (record { id = length lives; config = c }) id e) refl (grind (arith, nat_tests, live_before))
  of_one id (creates c) outcome (created_here same) taken =
      let none : config_of id h.lives ≡ None = none_beyond id h.lives (rw same at tells.given) in
      let no_calls = no_entries h.lives id h.entries none tells.legal.known in
      let config : config_of id (h.lives ++ record { id = length lives; config = c } ∷ []) ≡ Some c = rw (config_last h.lives (record { id = length lives; config = c }) id none, same, id_is_id id) refl in
      let new : at_place (lives ++ Some (opened c) ∷ []) id ≡ Some (opened c) = rw same at (live_last lives (Some (opened c))) in
      record { legal = λ d is. rw no_calls tt; told = λ k at. (let its : opened c ≡ k = cc in rw (← its, no_calls) (config, refl)) }

  of_all : (o : ManagerEvent) (outcome : Outcome) → outcome ≡ answer_in lives o (for_memory outcome) → is_refused outcome ≡ false → OfAll (after o outcome) (length (changed_by lives o))
  of_all (on_cache id said) outcome e taken = by (at_place lives id) refl e
    where
      by : (found : Option Status) → at_place lives id ≡ found → outcome ≡ answer_of found said (for_memory outcome) → OfAll (after (on_cache id said) outcome) (length (put_moved lives id said found))
      by None at is = absurd (not_accepted is taken)
      by (Some k) at is = rw (same_lives id said outcome h.lives, same_length lives id (Some (moved k said))) (record {
        ordered = tells.legal.ordered;
        known = known_after (known_in h.lives) session id said outcome h.entries (ap is_some (tells.each id k at).0) tells.legal.known;
        given = tells.given;
      })
  of_all (creates c) outcome e taken = by (create_refusal lives c) (for_memory outcome) e
    where
      life : Life
      life = record { id = length lives; config = c }

      by : (refusal : Option CreateRefusal) (memory : Bool) → outcome ≡ answer_to_create refusal (length lives) memory → OfAll (after (creates c) outcome) (length (lives ++ Some (opened c) ∷ []))
      by (Some refusal) memory is = absurd (cc)
      by None true is = absurd (cc)
      by None false is = rw (is, length_one_more lives (Some (opened c))) (record {
        ordered = order_more 0 h.lives life tells.legal.ordered tells.given (omega arith);
        known = All-weaker (λ e. known_in h.lives e.id) _ (λ e is. known_more h.lives life e.id is) h.entries tells.legal.known;
        given = All-push (λ l. l.id < suc (length lives)) h.lives life (All-weaker (λ l. l.id < length lives) (λ l. l.id < suc (length lives)) (λ l below. omega arith) h.lives tells.given) (omega arith);
      })
  of_all (destroys id) outcome e taken = record { ordered = tells.legal.ordered; known = tells.legal.known; given = rw (same_length {A = Option Status} lives id None) tells.given }

  accepted_tells : (event : Event) (outcome : Outcome) → event_by (manager_event event) ≡ event → outcome ≡ answer_to lives event (for_memory outcome) → is_refused outcome ≡ false → Tells (record { lives = lives_with event outcome h.lives; entries = accepted_in session event outcome h.entries }) (changed_by lives (manager_event event))
  accepted_tells event outcome same e taken =
      let all = of_all (manager_event event) outcome e taken in
      let one : (id : ℕ) → Of (after (manager_event event) outcome) (changed_by lives (manager_event event)) id = λ id. of_one id (manager_event event) outcome (meets lives id (manager_event event) outcome e) taken in
      let told : Tells (after (manager_event event) outcome) (changed_by lives (manager_event event)) = record { legal = record { ordered = all.ordered; known = all.known; each = λ id. (one id).legal }; given = all.given; each = λ id. (one id).told } in
      rw same at told

same_event : (event : Event) → event_by (manager_event event) ≡ event
same_event event = grind (arith, common_steps)

-- one event more: the transcript goes on telling how the caches stand
pub one_more_event : (session : ℕ) (lives : Lives) (h : History) (event : Event) (o : Outcome) → Tells h lives → o ≡ answer_to lives event (for_memory o) → Tells (recorded session event o h) (lives_after lives event o)
one_more_event session lives h event o tells e = go (is_refused o) refl
  where
    go : (b : Bool) → is_refused o ≡ b → Tells (if b then h else record { lives = lives_with event o h.lives; entries = accepted_in session event o h.entries }) (if b then lives else changed_by lives (manager_event event))
    go true is = tells
    go false is = accepted_tells lives h tells session event o (same_event event) e is

-- at first nothing has been told
pub nothing_told : (first : ℕ) (configs : List CacheConfig) → Tells (at_first first configs) (opened_from first configs)
nothing_told first configs = grind (arith, numbered_in_order, known_in, opened_length, numbered_below, opened_so)
