-- What a recorded manager keeps, after each of its calls.
use Rattle.std.proofs.Common.{◌≡◌, ◌⊎◌, inl, inr, IfSome, ℕ, zero, suc, Bool, true, false, List, [], ◌∷◌, ◌++◌, ◌+◌, length, take, Option, Some, None, Result, Ok, Err, refl, sym, ap, subst, ◌∙◌, arith, slice_get, slice_set, set-set, option_map, OnOk, OnErr, IsSome, is_some, is_err}
use Rattle.jc_engine.proofs.Names.{Answer, Call, Notice, CacheConfig, Event, Begin, GiveUp, Create, Destroy, Outcome, Entry, Progress, Awaited, told_by, there, at_place, Status, CacheEvent, on_cache, answers, gives_up, idle}
use Rattle.jc_engine.proofs.Names.{is_refused, reply_of, for_memory, answer_of, answer_in, answer_to, lives_after, Wait, one, many, telling, standing_by, History, Tells, recorded, numbered_lives, at_first, with_outcome, with_answer}
use Rattle.jc_engine.proofs.Names.{on_open, Noted, Cache, status_of, fresh_cache, fresh_from, lives_of, step_of, is_step, is_telling, tells, FitsTurn, LeavesNotices, of_abandon, FitsAt, ClosedAt, is_open_in}
use Rattle.jc_engine.specs.declared.turn.EngineStep.{EngineStep}
use Rattle.jc_engine.specs.declared.turn.EngineStep.TheVariants.{Replied, Asked, Told}
use Rattle.jc_engine.proofs.Names.{ChangesOne, State, Answered, Created, Destroyed, GivenUp, Stepped, at_same, at_other, at_place_map, common_steps}
use Rattle.jc_engine.specs.Recording.{IsOpenAt, HasEntry, IsRecorded, CanTell, blank, left_in, with_entries, with_life}
use Rattle.jc_model.specs.declared.event.Life.{Life}
use Rattle.jc_model.proofs.Recording.{one_more_event, nothing_told}
use Rattle.jc_engine.specs.Changed.{begun_entry}
use Rattle.jc_engine.specs.declared.journal.change.CallHeader.{CallHeader}
use Rattle.jc_engine.specs.declared.journal.change.Origin.{Origin}
use Rattle.jc_engine.specs.Journals.{IsKept, Keeps, KeepsOthers}
use Rattle.jc_engine.specs.Managed.{is_replied}
use Rattle.jc_engine.proofs.Places.{same_set}
use Rattle.jc_engine.specs.Recording.{IsEntryOf, blank_of}
use Rattle.jc_engine.proofs.Moving.{plain}
use Rattle.jc_engine.proofs.Openings.{fresh_lives, made_there}
use Rattle.jc_engine.proofs.Entries.{get_last, opened_after, added_elsewhere, set_elsewhere, same_elsewhere, written_open}

-- the entry of a call that has begun is that of its parts
pub begun_is : (begun : CallHeader) (origin : Origin) (call : Call) → begun.origin ≡ origin → begun.call.value ≡ call → begun_entry begun ≡ blank_of origin call
begun_is begun origin call from same = ap (λ (o : Origin). blank_of o begun.call.value) from ∙ ap (blank_of origin) same

-- a call that waits for its notices to be told then replies
not_telling : (c : CacheConfig) (p : Progress) (w : Awaited × Wait) (a : Answer) (advance : EngineStep) → Stepped (step_of advance) ≡ reply_of c (standing_by c p (Some w)) (answers a) → is_replied advance ≡ false → is_telling w.1 ≡ false
not_telling c p (v, one x) a advance shows goes = refl
not_telling c p (v, many x) a advance shows goes = refl
not_telling c p (v, telling r) a (Replied reply) shows goes = absurd cc
not_telling c p (v, telling r) a (Asked request) shows goes = grind (arith, common_steps)
not_telling c p (v, telling r) a (Told notices) shows goes = grind (arith, common_steps)

-- the entry of a call that goes on
entry_after : (advance : EngineStep) (turn : Option (Awaited × Wait)) (entries : List Entry) (id place : ℕ) (e : Entry) → FitsTurn advance turn
    → slice_get entries place ≡ Some (with_outcome (Stepped (step_of advance)) e) → e.id ≡ id → (is_replied advance ≡ false → e.told ≡ []) → HasEntry entries id (Some place) turn
entry_after advance None entries id place e fit there own untold = tt
entry_after (Replied reply) (Some w) entries id place e fit there own untold = absurd cc
entry_after (Asked request) (Some w) entries id place e fit there own untold =
    record { entry = with_outcome (Stepped (step_of (Asked request))) e; there = there; own = own; waits = refl; untold = λ h. ap (λ ns. ns ++ told_by request) (untold refl) ∙ fit.0 }
entry_after (Told notices) (Some w) entries id place e fit there own untold =
    record { entry = with_outcome (Stepped (step_of (Told notices))) e; there = there; own = own; waits = refl; untold = λ h. absurd (let no : true ≡ false = sym fit ∙ h in cc) }

-- one that has replied waits for nothing
replied_idle : (advance : EngineStep) (turn : Option (Awaited × Wait)) → is_replied advance ≡ true → FitsTurn advance turn → turn ≡ None
replied_idle (Replied reply) turn is fit = fit
replied_idle (Asked request) turn is fit = absurd cc
replied_idle (Told notices) turn is fit = absurd cc

-- its entry stands where it is kept, if it goes on
kept_after : (advance : EngineStep) (turn : Option (Awaited × Wait)) (entries : List Entry) (id place : ℕ) (kept : Option ℕ) (e : Entry) → FitsTurn advance turn
    → slice_get entries place ≡ Some (with_outcome (Stepped (step_of advance)) e) → e.id ≡ id → (is_replied advance ≡ false → e.told ≡ []) → (is_replied advance ≡ false → kept ≡ Some place) → HasEntry entries id kept turn
kept_after advance turn entries id place kept e fit there own untold keeps = go (is_replied advance) refl
  where
    go : (b : Bool) → is_replied advance ≡ b → HasEntry entries id kept turn
    go true is = rw (replied_idle advance turn is fit) tt
    go false is = rw (keeps is) (entry_after advance turn entries id place e fit there own untold)

pub can_tell_by : (advance : EngineStep) (found : Option Cache) (e : Entry) → FitsAt advance found → (is_replied advance ≡ false → e.told ≡ []) → CanTell advance e
can_tell_by (Replied reply) found e fit untold = tt
can_tell_by (Asked request) None e fit untold = absurd fit
can_tell_by (Asked request) (Some k) e fit untold = fit.0
can_tell_by (Told notices) found e fit untold = untold refl

-- the cache's call is open
pub record IsBusy (caches : List (Option Cache)) (id : ℕ) : Type 0 where
  pub cache : Cache
  pub wait : Awaited × Wait
  pub here : at_place caches id ≡ Some cache
  pub waits : cache.turn ≡ Some wait

-- and its entry stands at the place that is kept for the cache
pub record FindsOpen (caches : List (Option Cache)) (entries : List Entry) (places : ℕ → Option ℕ) (id place : ℕ) : Type 0 where
  pub busy : IsBusy caches id
  pub at : places id ≡ Some place
  pub opened : IsOpenAt entries id place busy.wait

pub kept_of : {caches : List (Option Cache)} {h : History} {places : ℕ → Option ℕ} {id place : ℕ} (f : FindsOpen caches h.entries places id place) → IsKept h places id place f.opened.entry
kept_of f = record { at = f.at; there = f.opened.there; own = f.opened.own; waits = f.opened.waits }

pub entry_of : {caches : List (Option Cache)} {entries : List Entry} {places : ℕ → Option ℕ} {id place : ℕ} (f : FindsOpen caches entries places id place) → IsEntryOf entries id place f.opened.entry
entry_of f = record { there = f.opened.there; own = f.opened.own; waits = f.opened.waits }

is_taken : (o : Outcome) → is_step o ≡ true → is_refused o ≡ false
is_taken (Stepped s) is = refl
is_taken _ is = absurd cc

module _ {caches : List (Option Cache)} {h : History} {places : ℕ → Option ℕ} (kept : IsRecorded caches h places) where
  told_on : (caches' : List (Option Cache)) (session : ℕ) (event : Event) (o : Outcome) → o ≡ answer_to (lives_of caches) event (for_memory o) → lives_of caches' ≡ lives_after (lives_of caches) event o → Tells (recorded session event o h) (lives_of caches')
  told_on caches' session event o is leaves = rw leaves (one_more_event session (lives_of caches) h event o kept.told is)

  -- room has been made, or nothing has changed
  pub restored : {caches' : List (Option Cache)} {h' : History} {places' : ℕ → Option ℕ} → caches' ≡ caches → h' ≡ h → ((q : ℕ) → places' q ≡ places q) → IsRecorded caches' h' places'
  restored same written placed = rw (same, written) (record { told = kept.told; opened = λ id k at. rw (placed id) (kept.opened id k at) })

  module _ {caches' : List (Option Cache)} {id : ℕ} (one : ChangesOne caches id caches') where
    others : (other : ℕ) → (other ≡ id → ⊥) → at_place caches' other ≡ at_place caches other
    others other differ = ap (λ (ks : List (Option Cache)). at_place ks other) one.is ∙ ap there (at_other caches id other (Some one.cache) (λ same. differ (sym same)))

    -- a call has begun
    pub begun : (session now : ℕ) (call : Call) (advance : EngineStep) (places' : ℕ → Option ℕ) → FitsAt advance (at_place caches' id) → Keeps places id (length h.entries) advance places'
        → Stepped (step_of advance) ≡ answer_to (lives_of caches) (Begin id now call) false → lives_of caches' ≡ lives_after (lives_of caches) (Begin id now call) (Stepped (step_of advance))
        → IsRecorded caches' (with_entries (h.entries ++ with_outcome (Stepped (step_of advance)) (blank session id now call) ∷ []) h) places'
    begun session now call advance places' fit placed is leaves = record {
      told = told_on caches' session (Begin id now call) (Stepped (step_of advance)) is leaves;
      opened = opened_after id caches caches' h.entries entries places places' kept.opened others
          (added_elsewhere id h.entries entry)
          placed.others
          (λ k found. kept_after advance k.turn entries id (length h.entries) (places' id) (blank session id now call) (rw found at fit) (get_last h.entries entry) refl (λ _. refl) placed.own);
    }
      where
        entry : Entry
        entry = with_outcome (Stepped (step_of advance)) (blank session id now call)

        entries : List Entry
        entries = h.entries ++ entry ∷ []

    -- the entry of an open call has been changed
    module _ {place : ℕ} (f : FindsOpen caches h.entries places id place) where
      status_here : at_place (lives_of caches) id ≡ Some (status_of f.busy.cache)
      status_here = at_place_map status_of caches id ∙ ap (option_map status_of) f.busy.here

      -- what is written there is written to the open entry
      pub written_at : (to : Entry → Entry) → slice_set h.entries place (to f.opened.entry) ≡ on_open id to h.entries
      written_at to = written_open (lives_of caches) h id place (status_of f.busy.cache) f.opened.entry to kept.told status_here f.opened.there f.opened.own f.opened.waits

      changed : (to : Entry → Entry) (places' : ℕ → Option ℕ) → Tells (with_entries (on_open id to h.entries) h) (lives_of caches') → KeepsOthers places id places' → ((k : Cache) → at_place caches' id ≡ Some k → HasEntry (slice_set h.entries place (to f.opened.entry)) id (places' id) k.turn)
          → IsRecorded caches' (with_entries (slice_set h.entries place (to f.opened.entry)) h) places'
      changed to places' told others_kept has = record {
        told = rw (written_at to) told;
        opened = opened_after id caches caches' h.entries (slice_set h.entries place (to f.opened.entry)) places places' kept.opened others
            (set_elsewhere id h.entries place f.opened.entry (to f.opened.entry) f.opened.there f.opened.own)
            others_kept
            has;
      }

      module _ (a : Answer) (advance : EngineStep) (fit : FitsAt advance (at_place caches' id)) (is : Stepped (step_of advance) ≡ answer_to (lives_of caches) (Answered id a) false) where
        untold_so : is_replied advance ≡ false → f.opened.entry.told ≡ []
        untold_so goes =
            let k = f.busy.cache in
            let shows : Stepped (step_of advance) ≡ reply_of k.config (standing_by k.config k.progress k.turn) (answers a) = is ∙ ap (λ (found : Option Status). answer_of found (answers a) false) status_here ∙ plain _ in
            f.opened.untold (not_telling k.config k.progress f.busy.wait a advance (rw f.busy.waits at shows) goes)

        pub can_tell : CanTell advance (with_answer a f.opened.entry)
        can_tell = can_tell_by advance (at_place caches' id) (with_answer a f.opened.entry) fit untold_so

        pub resumed : (places' : ℕ → Option ℕ) → Keeps places id place advance places' → lives_of caches' ≡ lives_after (lives_of caches) (Answered id a) (Stepped (step_of advance))
            → IsRecorded caches' (with_entries (slice_set h.entries place (with_outcome (Stepped (step_of advance)) (with_answer a f.opened.entry))) h) places'
        resumed places' keeps leaves = changed (λ e. with_outcome (Stepped (step_of advance)) (with_answer a e)) places' (told_on caches' 0 (Answered id a) (Stepped (step_of advance)) is leaves) keeps.others
            (λ k found. kept_after advance k.turn _ id place (places' id) (with_answer a f.opened.entry) (rw found at fit) (at_same h.entries place f.opened.entry _ f.opened.there) f.opened.own untold_so keeps.own)

      pub given_up : (places' : ℕ → Option ℕ) (notices : List Notice) → KeepsOthers places id places' → ClosedAt (at_place caches' id) → GivenUp notices ≡ answer_to (lives_of caches) (GiveUp id) false → lives_of caches' ≡ lives_after (lives_of caches) (GiveUp id) (GivenUp notices)
          → IsRecorded caches' (with_entries (slice_set h.entries place (with_outcome (GivenUp notices) f.opened.entry)) h) places'
      given_up places' notices keeps closed is leaves = changed (with_outcome (GivenUp notices)) places' (told_on caches' 0 (GiveUp id) (GivenUp notices) is leaves) keeps (λ k found. rw (rw found at closed) tt)

  -- What an accepted answer or give-up finds: the open call's entry, at the place that is kept for the cache.

  module _ {id : ℕ} (b : IsBusy caches id) where
    has_entry : HasEntry h.entries id (places id) (Some b.wait)
    has_entry = rw b.waits at (kept.opened id b.cache b.here)

    pub is_placed : IsSome (places id)
    is_placed = by (places id) has_entry
      where
        by : (p : Option ℕ) → HasEntry h.entries id p (Some b.wait) → IsSome p
        by None has = absurd has
        by (Some place) has = refl

    -- it is kept
    pub found : (place : ℕ) × FindsOpen caches h.entries places id place
    found = by (places id) refl
      where
        by : (p : Option ℕ) → places id ≡ p → (place : ℕ) × FindsOpen caches h.entries places id place
        by None is = absurd (rw is at has_entry)
        by (Some place) is = (place, record { busy = b; at = is; opened = rw is at has_entry })

    pub finds : {place : ℕ} → places id ≡ Some place → FindsOpen caches h.entries places id place
    finds at = record { busy = b; at = at; opened = rw at at has_entry }

  -- a cache has been created
  pub created : {caches' : List (Option Cache)} (c : CacheConfig) (id : ℕ) (places' : ℕ → Option ℕ) → ((other : ℕ) → places' other ≡ places other) → caches' ≡ caches ++ Some (fresh_cache c) ∷ [] → Created id ≡ answer_to (lives_of caches) (Create c) false → lives_of caches' ≡ lives_after (lives_of caches) (Create c) (Created id) → IsRecorded caches' (with_life id c h) places'
  created {caches'} c id places' same more is leaves = record {
    told = told_on caches' 0 (Create c) (Created id) is leaves;
    opened = λ other k at. rw (same other) (more_at (λ (k : Cache). HasEntry h.entries other (places other) k.turn) caches (fresh_cache c) other (kept.opened other) tt k (rw more at at));
  }
    where
      more_at : (P : Cache → Type 0) (ks : List (Option Cache)) (new : Cache) (i : ℕ) → ((k : Cache) → at_place ks i ≡ Some k → P k) → P new → (k : Cache) → at_place (ks ++ Some new ∷ []) i ≡ Some k → P k
      more_at P [] new zero old here k at = let same : new ≡ k = cc in subst P same here
      more_at P [] new (suc i) old here k at = absurd cc
      more_at P (j ∷ ks) new zero old here k at = old k at
      more_at P (j ∷ ks) new (suc i) old here k at = more_at P ks new i old here k at

  -- and one destroyed
  pub destroyed : {caches' : List (Option Cache)} (id : ℕ) (places' : ℕ → Option ℕ) → caches' ≡ slice_set caches id None → KeepsOthers places id places'
      → Destroyed ≡ answer_to (lives_of caches) (Destroy id) false → lives_of caches' ≡ lives_after (lives_of caches) (Destroy id) Destroyed → IsRecorded caches' h places'
  destroyed {caches'} id places' less placed is leaves = record {
    told = told_on caches' 0 (Destroy id) Destroyed is leaves;
    opened = opened_after id caches caches' h.entries h.entries places places' kept.opened
        (λ other differ. ap (λ (ks : List (Option Cache)). at_place ks other) less ∙ ap there (at_other caches id other None (λ same. differ (sym same))))
        (same_elsewhere id h.entries)
        placed
        (λ k at. let no : ◌≡◌ {A = Option Cache} None (Some k) = sym (gone caches id) ∙ rw less at at in absurd cc);
  }
    where
      gone : (ks : List (Option Cache)) (i : ℕ) → at_place (slice_set ks i None) i ≡ None
      gone [] i = refl
      gone (k ∷ ks) zero = refl
      gone (k ∷ ks) (suc i) = gone ks i

-- what is left of a call that is given up
pub of_left : (left : Option Noted) → of_abandon (Ok left) ≡ GivenUp (left_in left)
of_left None = refl
of_left (Some left) = refl

-- only a cache whose call is open accepts an answer or a give-up
busy_by : (caches : List (Option Cache)) (id : ℕ) (said : CacheEvent) → ((c : CacheConfig) (s : State) → is_refused (reply_of c (idle s) said) ≡ true) → is_refused (answer_in (lives_of caches) (on_cache id said) false) ≡ false → IsBusy caches id
busy_by caches id said refused taken = by (at_place caches id) refl (rw (at_place_map status_of caches id) at taken)
  where
    by : (found : Option Cache) → at_place caches id ≡ found → is_refused (answer_of (option_map status_of found) said false) ≡ false → IsBusy caches id
    by None here taken = absurd cc
    by (Some k) here taken = at_turn k.turn refl (rw (plain (reply_of k.config (status_of k).standing said)) at taken)
      where
        at_turn : (turn : Option (Awaited × Wait)) → k.turn ≡ turn → is_refused (reply_of k.config (standing_by k.config k.progress turn) said) ≡ false → IsBusy caches id
        at_turn None none taken = let no = refused k.config k.progress.state in absurd cc
        at_turn (Some w) waits taken = record { cache = k; wait = w; here = here; waits = waits }

pub answer_busy : (caches : List (Option Cache)) (id : ℕ) (a : Answer) → is_step (answer_to (lives_of caches) (Answered id a) false) ≡ true → IsBusy caches id
answer_busy caches id a allowed = busy_by caches id (answers a) (λ c s. refl) (is_taken (answer_in (lives_of caches) (on_cache id (answers a)) false) allowed)

pub give_up_busy : (caches : List (Option Cache)) (id : ℕ) (left : Option Noted) → of_abandon (Ok left) ≡ answer_to (lives_of caches) (GiveUp id) false → IsBusy caches id
give_up_busy caches id left given = busy_by caches id gives_up (λ c s. refl) (ap is_refused (sym given ∙ of_left left))

-- a call is open there
pub open_busy : (caches : List (Option Cache)) (id : ℕ) → is_open_in (at_place caches id) ≡ true → IsBusy caches id
open_busy caches id open_there = by (at_place caches id) refl open_there
  where
    by : (found : Option Cache) → at_place caches id ≡ found → is_open_in found ≡ true → IsBusy caches id
    by None here is = absurd cc
    by (Some k) here is = at_turn k.turn refl is
      where
        at_turn : (turn : Option (Awaited × Wait)) → k.turn ≡ turn → is_some turn ≡ true → IsBusy caches id
        at_turn None none is = absurd cc
        at_turn (Some w) waits is = record { cache = k; wait = w; here = here; waits = waits }

-- a manager that has just been opened
pub first_recorded : (first : ℕ) (configs : List CacheConfig) (caches : List (Option Cache)) (h : History) (places : ℕ → Option ℕ) → caches ≡ fresh_from first configs → h ≡ at_first first configs → IsRecorded caches h places
first_recorded first configs caches h places fresh begins = rw (fresh, begins) (record {
  told = rw (fresh_lives first configs) (nothing_told first configs);
  opened = λ id k at. rw (ap (λ (j : Cache). j.turn) (made_there fresh_cache first configs id k at).1) tt;
})

-- one life more of those at the opening
pub one_life : (first : ℕ) (configs : List CacheConfig) (i : ℕ) (c : CacheConfig) → slice_get configs i ≡ Some c → with_life (first + i) c (at_first first (take i configs)) ≡ at_first first (take (suc i) configs)
one_life first configs i c at = ap (λ (ls : List Life). (let all : History = record { lives = ls; entries = [] } in all)) (more first configs i at)
  where
    more : (n : ℕ) (cs : List CacheConfig) (i : ℕ) → slice_get cs i ≡ Some c → numbered_lives n (take i cs) ++ record { id = n + i; config = c } ∷ [] ≡ numbered_lives n (take (suc i) cs)
    more n [] i at = absurd cc
    more n (d ∷ cs) zero at = let here : n + 0 ≡ n = omega arith in cc
    more n (d ∷ cs) (suc i) at = let there : n + suc i ≡ (n + 1) + i = omega arith in let rest = more (n + 1) cs i at in cc

-- What is written and taken back.

pub on_ok : {A E P : Type 0} (r : Result A E) → OnOk r P → is_err r ≡ false → P
on_ok (Ok x) p ok = p
on_ok (Err e) p ok = absurd cc

pub on_error : {A E P : Type 0} (r : Result A E) → OnErr r P → is_err r ≡ true → P
on_error (Ok x) p err = absurd cc
on_error (Err e) p err = p

pub untold_left : (left : Option Noted) (k : Cache) (w : Awaited × Wait) (e : Entry) → LeavesNotices k left → k.turn ≡ Some w → (is_telling w.1 ≡ false → e.told ≡ []) → is_some left ≡ true → e.told ≡ []
untold_left None k w e leaves waits untold some = absurd cc
untold_left (Some left) k w e leaves waits untold some = untold (subst (λ (t : Option (Awaited × Wait)). tells t ≡ false) waits leaves.0)

-- What is written to a kept entry, one thing after another.

pub answered_kept : (h new : History) (places places' : ℕ → Option ℕ) (id place : ℕ) (a : Answer) (e : Entry) → IsKept h places id place e → new ≡ with_entries (slice_set h.entries place (with_answer a e)) h → ((q : ℕ) → places' q ≡ places q) → IsKept new places' id place (with_answer a e)
answered_kept h new places places' id place a e kept entered same = record {
  at = same id ∙ kept.at;
  there = ap (λ (t : History). slice_get t.entries place) entered ∙ at_same h.entries place e (with_answer a e) kept.there;
  own = kept.own;
  waits = kept.waits;
}

pub written_twice : (h mid new : History) (place : ℕ) (x y : Entry) → mid ≡ with_entries (slice_set h.entries place x) h → new ≡ with_entries (slice_set mid.entries place y) mid → new ≡ with_entries (slice_set h.entries place y) h
written_twice h mid new place x y first then =
    then ∙ ap (λ (t : History). with_entries (slice_set t.entries place y) t) first ∙ ap (λ (es : List Entry). with_entries es h) (set-set h.entries place x y)

pub written_back : (h mid new : History) (place : ℕ) (x e : Entry) → slice_get h.entries place ≡ Some e → mid ≡ with_entries (slice_set h.entries place x) h → new ≡ with_entries (slice_set mid.entries place e) mid → new ≡ h
written_back h mid new place x e there first then = written_twice h mid new place x e first then ∙ ap (λ (es : List Entry). with_entries es h) (same_set h.entries place e there)

pub keeps_over : (old mid new : ℕ → Option ℕ) (id place : ℕ) (advance : EngineStep) → ((q : ℕ) → mid q ≡ old q) → Keeps mid id place advance new → Keeps old id place advance new
keeps_over old mid new id place advance same keeps = record { others = λ other differ. keeps.others other differ ∙ same other; own = keeps.own }

-- The entry of an open call, as it is found and left.

pub entry_found : {X : Type 0} (o : Option X) (now : X → Entry) (entries : List Entry) (id place : ℕ) (e : Entry) → option_map now o ≡ Some e → IsEntryOf entries id place e → IfSome o (λ x. (place : ℕ) × IsEntryOf entries id place (now x))
entry_found None now entries id place e is of = absurd cc
entry_found (Some x) now entries id place e is of = let same : now x ≡ e = cc in (place, subst (IsEntryOf entries id place) (sym same) of)

-- a call has told its notices, or they are left
pub told_or_left : (left : Option Noted) (k : Cache) (w : Awaited × Wait) (e : Entry) → LeavesNotices k left → k.turn ≡ Some w → (is_telling w.1 ≡ false → e.told ≡ []) → (e.told ≡ []) ⊎ (left_in left ≡ [])
told_or_left None k w e leaves waits untold = inr refl
told_or_left (Some left) k w e leaves waits untold = inl (untold (subst (λ (t : Option (Awaited × Wait)). tells t ≡ false) waits leaves.0))
