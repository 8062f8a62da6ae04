-- What a tenure of the lock makes of the call that it brings on.
use Rattle.std.proofs.Common.{◌≡◌, ℕ, zero, suc, Bool, true, false, if◌then◌else◌, List, [], ◌∷◌, ◌++◌, ◌⊎◌, length, take, Option, Some, None, inl, inr, refl, sym, ◌∙◌, ap, subst, arith}
use Rattle.std.specs.Prelude.{◌==◌, ◌+◌, slice_get, IsSome}
use Rattle.std.proofs.lemmas.Bool.Decides.{nat_tests}
use Rattle.std.proofs.lemmas.List.{same_from_push}
use Rattle.jc_model.specs.declared.call.Answer.{Answer}
use Rattle.jc_model.specs.declared.call.Call.{Call}
use Rattle.jc_model.specs.declared.call.Call.TheVariants.{Invoke, InvokeAll}
use Rattle.jc_model.specs.declared.call.Notice.{Notice}
use Rattle.jc_model.specs.declared.call.Reply.{Reply}
use Rattle.jc_model.specs.declared.event.End.{End}
use Rattle.jc_model.specs.declared.event.End.TheVariants as ends
use Rattle.jc_model.specs.declared.config.CacheConfig.{CacheConfig}
use Rattle.jc_model.specs.declared.event.Cause.{Cause}
use Rattle.jc_model.specs.declared.event.Cause.TheVariants as causes
use Rattle.jc_model.specs.declared.event.Event.{Event}
use Rattle.jc_model.specs.declared.event.Event.TheVariants as event
use Rattle.jc_model.specs.declared.event.Entry.{Entry}
use Rattle.jc_model.specs.declared.event.Outcome.{Outcome}
use Rattle.jc_model.specs.declared.event.Outcome.TheVariants as outcome
use Rattle.jc_model.specs.declared.event.Step.{Step}
use Rattle.jc_model.specs.declared.event.Step.TheVariants.{Done, Need}
use Rattle.jc_model.specs.State.{State}
use Rattle.jc_model.specs.Run.{Run, ended, waiting, answered, fits, awaited_by}
use Rattle.jc_model.specs.Whole.{whole}
use Rattle.jc_model.specs.Runs.{Standing, idle, busy, Status, Lives, CacheEvent, on_cache, begins as begins_with, answers as given_answer, gives_up, has_processor, standing_of, shown, reply_of, is_refused, refuse_last, for_memory, answer_of, answer_to, moved, put_moved, lives_by, lives_after}
use Rattle.jc_model.specs.Legal.{History, IsLegal, Tells, config_of, numbered_lives, entries_of, on_open, lives_with, accepted_in, recorded, with_outcome, with_answer}
use Rattle.jc_model.specs.Everywhere.{AtEach}
use Rattle.jc_model.proofs.Everywhere.{at_each-answered}
use Rattle.jc_model.specs.declared.event.Life.{Life}
use Rattle.jc_model.proofs.Lives.{live_same}
use Rattle.jc_model.proofs.Recording.{event_of}
use Rattle.jc_engine.specs.Caches.{lives_of}
use Rattle.jc_engine.specs.Recording.{Recording, HasOpen, IsEntryOf, blank}
use Rattle.jc_model.specs.Asking.{AsksOf, AsksIn, processor_invoked}
use Rattle.jc_locked.specs.declared.fault.CallFault.{CallFault}
use Rattle.jc_locked.specs.declared.fault.CallFault.TheVariants as faults
use Rattle.jc_locked.specs.Sessions.{Sight, BeginsWith, Sees}
use Rattle.jc_locked.specs.Calls.{EntryIsLast, CallGoesOn, MayLackProcessor, IsBeginFault, call_entry}
use Rattle.jc_engine.specs.RecordedSteps.{reply_in}
use Rattle.jc_locked.specs.Finding.{fault_of, answer_fault_of, entry_ended_by, IsOfCall, IsOpen, IsReplied}
use Rattle.jc_locked.specs.Living.{Refuses}
use Rattle.jc_locked.specs.Pending.{IsRefusedAnswer}
use Rattle.jc_locked.specs.Tenures.{IsTenure, IsRefusedEvent, StopsDraft}
use Rattle.jc_model.proofs.Asking.{whole_asks}
use Rattle.jc_locked.proofs.Overtaken.{none_open}
use Rattle.jc_locked.proofs.Last.{open_last, open_stands, changed_there, open_same, changed_last, added_last}
use Rattle.jc_model.specs.Places.{at_place}

kept_lives : (session id : ℕ) (said : CacheEvent) (o : Outcome) (t : History) → (recorded session (event_of id said) o t).lives ≡ t.lives
kept_lives session id said o t = go (is_refused o) said
  where
    go : (b : Bool) (said : CacheEvent) → (if b then t else record { lives = lives_with (event_of id said) o t.lives; entries = accepted_in session (event_of id said) o t.entries }).lives ≡ t.lives
    go true said = refl
    go false (begins_with now call) = refl
    go false (given_answer a) = refl
    go false gives_up = refl

pub still_begins : (configs : List CacheConfig) (t new : History) (session id : ℕ) (said : CacheEvent) (o : Outcome) → BeginsWith configs t → new ≡ recorded session (event_of id said) o t → BeginsWith configs new
still_begins configs t new session id said o first written =
    ap (λ (h : History). take (length configs) h.lives) written ∙ ap (λ (ls : List Life). take (length configs) ls) (kept_lives session id said o t) ∙ first

abbrev Asks : Call → Run → Type 0
Asks call run = AtEach (λ q p. AsksOf call q) (λ p r. Unit {0}) run

-- what a run shows is the call's to ask
shown_asks : (call : Call) (run : Run) (step : Step) → Asks call run → outcome.Step step ≡ shown run → AsksIn call step
shown_asks call (ended p r) step h is = let same : step ≡ Done r = cc in subst (AsksIn call) (sym same) tt
shown_asks call (waiting q p resumed) step h is = let same : step ≡ Need q = cc in subst (AsksIn call) (sym same) h.0

-- a step is not refused
not_refused : (step : Step) (m : Bool) (reply : Outcome) → outcome.Step step ≡ refuse_last m reply → outcome.Step step ≡ reply
not_refused step m (outcome.Step s) is = go m is
  where
    go : (m : Bool) → outcome.Step step ≡ refuse_last m (outcome.Step s) → outcome.Step step ≡ outcome.Step s
    go true is = absurd cc
    go false is = is
not_refused step m (outcome.Refused cause) is = is
not_refused step m (outcome.GivenUp notices) is = is
not_refused step m (outcome.Created id) is = is
not_refused step m (outcome.CreateRefused refusal) is = is
not_refused step m outcome.Destroyed is = is

-- A call that has begun asks for itself.
pub begun_asks : (lives : Lives) (id now : ℕ) (call : Call) (step : Step) (m : Bool) → outcome.Step step ≡ answer_to lives (event.Begin id now call) m → AsksIn call step
begun_asks lives id now call step m is = at (at_place lives id) is
  where
    here : (k : Status) (standing : Standing) → outcome.Step step ≡ reply_of k.config standing (begins_with now call) → AsksIn call step
    here k (idle s) is = go (has_processor k.config call) is
      where
        go : (b : Bool) → outcome.Step step ≡ (if b then shown (whole k.config now call s) else outcome.Refused causes.NoSuchProcessor) → AsksIn call step
        go true is = shown_asks call (whole k.config now call s) step (whole_asks k.config now call s) is
        go false is = absurd cc
    here k (busy w p resumed) is = absurd cc

    at : (found : Option Status) → outcome.Step step ≡ answer_of found (begins_with now call) m → AsksIn call step
    at None is = absurd cc
    at (Some k) is = here k k.standing (not_refused step m (reply_of k.config k.standing (begins_with now call)) is)

-- And so does a call that goes on.
pub resumed_asks : (lives : Lives) (transcript : History) → Tells transcript lives → (id place : ℕ) (there : HasOpen transcript.entries id place) (a : Answer) (step : Step) (m : Bool)
    → outcome.Step step ≡ answer_to lives (event.Answer id a) m → AsksIn there.entry.call step
resumed_asks lives transcript tells id place there a step m is = at (at_place lives id) refl is
  where
    goes_on : (c : CacheConfig) (run : Run) → Asks there.entry.call run → outcome.Step step ≡ reply_of c (standing_of run) (given_answer a) → AsksIn there.entry.call step
    goes_on c (ended p r) h is = absurd cc
    goes_on c (waiting q p resumed) h is = go (fits (awaited_by q) a) is
      where
        go : (b : Bool) → outcome.Step step ≡ (if b then shown (resumed a) else outcome.Refused causes.WrongAnswer) → AsksIn there.entry.call step
        go true is = shown_asks there.entry.call (resumed a) step (h.1 a) is
        go false is = absurd cc

    at : (found : Option Status) → at_place lives id ≡ found → outcome.Step step ≡ answer_of found (given_answer a) m → AsksIn there.entry.call step
    at None here is = absurd cc
    at (Some k) here is =
        let e : Entry = there.entry in
        let s : State = (open_last lives transcript tells id place there k here).state in
        let run : Run = answered (whole k.config e.at e.call s) e.answers in
        goes_on k.config run (at_each-answered (λ q p. AsksOf e.call q) (λ p r. Unit {0}) (whole k.config e.at e.call s) e.answers (whole_asks k.config e.at e.call s))
        (not_refused step m (reply_of k.config k.standing (given_answer a)) is ∙ ap (λ (t : Standing). reply_of k.config t (given_answer a)) (open_stands lives transcript tells id place there k here))

-- a draft that is the entry of a call that begins, and ends as it
pub drafted : (configs : List CacheConfig) (draft draft' entry : Entry) (step : Step) (copy : Option Reply) (pass : Sight) → draft ≡ entry → draft' ≡ entry_ended_by copy draft → CallGoesOn configs entry step (entry_ended_by copy entry) pass → CallGoesOn configs draft step draft' pass
drafted configs draft draft' entry step copy pass is ends goes =
    subst (λ (e : Entry). CallGoesOn configs draft step e pass) (sym ends) (subst (λ (e : Entry). CallGoesOn configs e step (entry_ended_by copy e) pass) (sym is) goes)

-- the engine has come to this step, and a meeting leaves it as it is
pub is_tenure : (old mid new : Recording) (session : ℕ) (event : Event) (step : Step) → new ≡ mid → outcome.Step step ≡ answer_to (lives_of old.caches) event false → mid.transcript ≡ recorded session event (outcome.Step step) old.transcript
    → lives_of mid.caches ≡ lives_after (lives_of old.caches) event (outcome.Step step) → IsTenure old new session event (outcome.Step step)
is_tenure old mid new session event step same answered written after =
    subst (λ (r : Recording). IsTenure old r session event (outcome.Step step)) (sym same) (record { answered = answered; transcript = written; lives = after })

-- why an answer was not taken
pub stops : (old : Recording) (draft : Entry) (answers : List Answer) (a : Answer) (cause : Cause) → IsOpen (lives_of old.caches) old.transcript draft answers → IsRefusedEvent (lives_of old.caches) (event.Answer draft.id a) cause → StopsDraft old draft answers a (answer_fault_of cause)
stops old draft answers a causes.NoSuchCache here refusal = inl (none_open old.caches draft.id a _ causes.NoSuchCache refusal (λ is. absurd cc) (λ is. absurd cc))
stops old draft answers a causes.NoSuchProcessor here refusal = inl (none_open old.caches draft.id a _ causes.NoSuchProcessor refusal (λ is. absurd cc) (λ is. absurd cc))
stops old draft answers a causes.Busy here refusal = inl (none_open old.caches draft.id a _ causes.Busy refusal (λ is. absurd cc) (λ is. absurd cc))
stops old draft answers a causes.NoTurn here refusal = inl (none_open old.caches draft.id a _ causes.NoTurn refusal (λ is. absurd cc) (λ is. absurd cc))
stops old draft answers a causes.WrongAnswer here refusal = (here, refusal)
stops old draft answers a causes.OutOfMemory here refusal = (here, refusal)

-- and the session that asks is told so
pub refused_answer : (configs : List CacheConfig) (lives : Lives) (t : History) → BeginsWith configs t → Tells t lives → (id : ℕ) (a : Answer) (cause : Cause) → IsRefusedEvent lives (event.Answer id a) cause → IsRefusedAnswer configs id a (answer_fault_of cause)
refused_answer configs lives t begins tells id a causes.WrongAnswer refusal =
    record { transcript = t; lives = lives; told = record { legal = tells.legal; begins = begins; tells = tells }; refusal = refusal }
refused_answer configs lives t begins tells id a causes.NoSuchCache refusal = tt
refused_answer configs lives t begins tells id a causes.NoSuchProcessor refusal = tt
refused_answer configs lives t begins tells id a causes.Busy refusal = tt
refused_answer configs lives t begins tells id a causes.NoTurn refusal = tt
refused_answer configs lives t begins tells id a causes.OutOfMemory refusal = tt

-- Why a call does not begin.

-- one that lacks its processor names it
lacking_names : (c : CacheConfig) (call : Call) → has_processor c call ≡ false → IsSome (processor_invoked call)
lacking_names c (Invoke key n argument) lacks = refl
lacking_names c (InvokeAll keys n argument) lacks = refl
lacking_names c call lacks = absurd cc

-- what a fault comes to, without the moment at which the engine tells it
abbrev MayFail : List CacheConfig → ℕ → Call → CallFault → Type 0
MayFail configs id call faults.NoSuchCache = Unit {0}
MayFail configs id call faults.NoSuchProcessor = MayLackProcessor configs id call
MayFail configs id call faults.Busy = Unit {0}
MayFail configs id call faults.Overtaken = ⊥
MayFail configs id call faults.OutOfMemory = Unit {0}

-- the configurations of the opening are those of the first lives
config_at : (first : ℕ) (configs : List CacheConfig) (lives : List Life) (i : ℕ) (c : CacheConfig) → take (length configs) lives ≡ numbered_lives first configs → slice_get configs i ≡ Some c → config_of (first + i) lives ≡ Some c
config_at first [] lives i c begins at = absurd cc
config_at first (d ∷ configs) [] i c begins at = absurd cc
config_at first (d ∷ configs) (l ∷ lives) zero c begins at =
    let here : l ≡ record { id = first; config = d } = cc in
    let same : d ≡ c = cc in
    let is : (l.id == first + 0) ≡ true = ap (λ (m : Life). m.id == first + 0) here ∙ zero_more first in
    ap (λ (b : Bool). if b then Some l.config else config_of (first + 0) lives) is ∙ ap (λ (m : Life). Some m.config) here ∙ ap Some same
  where
    zero_more : (n : ℕ) → (n == n + 0) ≡ true
    zero_more n = grind (arith, nat_tests)
config_at first (d ∷ configs) (l ∷ lives) (suc i) c begins at =
    let here : l ≡ record { id = first; config = d } = cc in
    let rest : take (length configs) lives ≡ numbered_lives (first + 1) configs = cc in
    let is : (l.id == first + suc i) ≡ false = ap (λ (m : Life). m.id == first + suc i) here ∙ other first i in
    let there : (first + 1) + i ≡ first + suc i = omega arith in
    ap (λ (b : Bool). if b then Some l.config else config_of (first + suc i) lives) is ∙ subst (λ (n : ℕ). config_of n lives ≡ Some c) there (config_at (first + 1) configs lives i c rest at)
  where
    other : (n i : ℕ) → (n == n + suc i) ≡ false
    other n i = grind (arith, nat_tests)

-- and keep them while they are live
pub opening_config : (configs : List CacheConfig) (h : History) (lives : Lives) → BeginsWith configs h → Tells h lives → (id : ℕ) (k : Status) (c : CacheConfig) → at_place lives id ≡ Some k → slice_get configs id ≡ Some c → k.config ≡ c
opening_config configs h lives begins tells id k c live at =
    let none_more : 0 + id ≡ id = omega arith in
    let first : config_of id h.lives ≡ Some c = subst (λ (n : ℕ). config_of n h.lives ≡ Some c) none_more (config_at 0 configs h.lives id c begins at) in
    let now : config_of id h.lives ≡ Some k.config = (tells.each id k live).0 in
    let both : Some k.config ≡ Some c = sym now ∙ first in
    cc

may_fail : (lives : Lives) (configs : List CacheConfig) (h : History) → BeginsWith configs h → Tells h lives → (id now : ℕ) (call : Call) → (cause : Cause) (m : Bool)
    → outcome.Refused cause ≡ answer_to lives (event.Begin id now call) m → MayFail configs id call (fault_of cause)
may_fail lives configs h begins tells id now call cause m is = at (at_place lives id) refl is
  where
    is_for : (d : Cause) → cause ≡ d → MayFail configs id call (fault_of d) → MayFail configs id call (fault_of cause)
    is_for d same h = subst (λ (e : Cause). MayFail configs id call (fault_of e)) (sym same) h

    by_memory : (step : Step) (m : Bool) → outcome.Refused cause ≡ (if m then outcome.Refused causes.OutOfMemory else outcome.Step step) → MayFail configs id call (fault_of cause)
    by_memory step true is = let same : cause ≡ causes.OutOfMemory = cc in is_for causes.OutOfMemory same tt
    by_memory step false is = absurd cc

    by_run : (run : Run) → outcome.Refused cause ≡ refuse_last m (shown run) → MayFail configs id call (fault_of cause)
    by_run (ended p r) is = by_memory (Done r) m is
    by_run (waiting q p resumed) is = by_memory (Need q) m is

    here : (k : Status) → at_place lives id ≡ Some k → (standing : Standing) → outcome.Refused cause ≡ refuse_last m (reply_of k.config standing (begins_with now call)) → MayFail configs id call (fault_of cause)
    here k live (idle s) is = go (has_processor k.config call) refl is
      where
        go : (b : Bool) → has_processor k.config call ≡ b → outcome.Refused cause ≡ refuse_last m (if b then shown (whole k.config now call s) else outcome.Refused causes.NoSuchProcessor) → MayFail configs id call (fault_of cause)
        go true has is = by_run (whole k.config now call s) is
        go false has is =
            let same : cause ≡ causes.NoSuchProcessor = cc in
            is_for causes.NoSuchProcessor same (record { names = lacking_names k.config call has; lacks = λ c at. ap (λ (d : CacheConfig). has_processor d call) (sym (opening_config configs h lives begins tells id k c live at)) ∙ has })
    here k live (busy w p resumed) is = let same : cause ≡ causes.Busy = cc in is_for causes.Busy same tt

    at : (found : Option Status) → at_place lives id ≡ found → outcome.Refused cause ≡ answer_of found (begins_with now call) m → MayFail configs id call (fault_of cause)
    at None live is = let same : cause ≡ causes.NoSuchCache = cc in is_for causes.NoSuchCache same tt
    at (Some k) live is = here k live k.standing is

pub begin_faults : (lives : Lives) (configs : List CacheConfig) (h : History) → BeginsWith configs h → Tells h lives → (id now : ℕ) (call : Call) → (cause : Cause) → IsRefusedEvent lives (event.Begin id now call) cause → IsBeginFault configs id now call (fault_of cause)
begin_faults lives configs h begins tells id now call cause is = by cause is (may_fail lives configs h begins tells id now call cause (for_memory (outcome.Refused cause)) is)
  where
    refuses : (d : Cause) → IsRefusedEvent lives (event.Begin id now call) d → Refuses configs (event.Begin id now call) d
    refuses d is = record { transcript = h; lives = lives; told = record { legal = tells.legal; begins = begins; tells = tells }; refusal = is }

    by : (d : Cause) → IsRefusedEvent lives (event.Begin id now call) d → MayFail configs id call (fault_of d) → IsBeginFault configs id now call (fault_of d)
    by causes.NoSuchCache is may = refuses causes.NoSuchCache is
    by causes.NoSuchProcessor is may = (refuses causes.NoSuchProcessor is, may)
    by causes.Busy is may = refuses causes.Busy is
    by causes.NoTurn is may = absurd may
    by causes.WrongAnswer is may = absurd may
    by causes.OutOfMemory is may = refuses causes.OutOfMemory is

-- A tenure in which a call is not refused leaves its cache live.

there_after : (lives : Lives) (id : ℕ) (said : CacheEvent) (k : Status) → at_place lives id ≡ Some k → IsSome (at_place (put_moved lives id said (at_place lives id)) id)
there_after lives id said k at =
    subst (λ (o : Option Status). IsSome (at_place (put_moved lives id said o) id)) (sym at) (subst IsSome (sym (live_same lives id k (Some (moved k said)) at)) refl)

stays_there : (lives new : Lives) (id : ℕ) (said : CacheEvent) (k : Status) (o : Outcome) → at_place lives id ≡ Some k → is_refused o ≡ false → new ≡ lives_by lives (on_cache id said) o → IsSome (at_place new id)
stays_there lives new id said k o at accepted after =
    let is : new ≡ put_moved lives id said (at_place lives id) = after ∙ ap (λ (b : Bool). if b then lives else put_moved lives id said (at_place lives id)) accepted in
    subst (λ (ls : Lives). IsSome (at_place ls id)) (sym is) (there_after lives id said k at)

pub begun_live : (lives new : Lives) (id now : ℕ) (call : Call) (step : Step) (m : Bool) → outcome.Step step ≡ answer_to lives (event.Begin id now call) m → new ≡ lives_by lives (on_cache id (begins_with now call)) (outcome.Step step) → IsSome (at_place new id)
begun_live lives new id now call step m is after = at (at_place lives id) refl is
  where
    at : (found : Option Status) → at_place lives id ≡ found → outcome.Step step ≡ answer_of found (begins_with now call) m → IsSome (at_place new id)
    at None live is = absurd cc
    at (Some k) live is = stays_there lives new id (begins_with now call) k (outcome.Step step) live refl after

-- How a tenure leaves the draft.

pub begun_goes_on : (configs : List CacheConfig) (t new : History) (draft draft' : Entry) (pass : Sight) (call : Call) (step : Step) → draft ≡ blank draft.session draft.id draft.at call → draft' ≡ entry_ended_by (reply_in step) draft
    → IsLegal new → BeginsWith configs new → (lives : Lives) → IsSome (at_place lives draft.id) → (IsReplied step → Sees new lives pass) → new ≡ recorded draft.session (event.Begin draft.id draft.at call) (outcome.Step step) t → AsksIn call step → CallGoesOn configs draft step draft' pass
begun_goes_on configs t new draft draft' pass call (Need q) is ends_so legal first lives live sees written asks = (ends_so, subst (λ (c : Call). AsksOf c q) (sym (ap (λ (e : Entry). e.call) is)) asks)
begun_goes_on configs t new draft draft' pass call (Done r) is ends_so legal first lives live sees written asks =
    let e : Entry = record (blank draft.session draft.id draft.at call) { end = ends.Replied r } in
    let same : draft' ≡ e = ends_so ∙ ap (λ (d : Entry). record d { end = ends.Replied r }) is in (
      ends_so,
      subst (λ (d : Entry). EntryIsLast configs d pass) (sym same) (record { transcript = new; legal = legal; begins = first; before = entries_of draft.id t.entries; last = ap (λ (h : History). entries_of draft.id h.entries) written ∙ added_last t.entries e; lives = lives; shown = live; sees = sees tt }),
    )

-- the last answer is the one that is given
pub last_given : {A : Type 0} (all before others : List A) (x a : A) → all ≡ before ++ x ∷ [] → all ≡ others ++ a ∷ [] → all ≡ before ++ a ∷ []
last_given all before others x a is given = is ∙ ap (λ y. before ++ y ∷ []) (same_from_push before others x a (sym is ∙ given)).1

-- the entry of an open call is the draft, but for an answer that is not taken yet
draft_of : (e draft : Entry) (answers : List Answer) → IsOfCall e draft answers → e.id ≡ draft.id → e.end ≡ ends.Waiting → draft.end ≡ ends.Waiting → e ≡ record draft { answers = answers }
draft_of e draft answers own same waits draft_waits =
    ap (λ (n : ℕ). call_entry n e.id e.at e.call e.answers e.told e.end) own.session
    ∙ ap (λ (n : ℕ). call_entry draft.session n e.at e.call e.answers e.told e.end) same
    ∙ ap (λ (n : ℕ). call_entry draft.session draft.id n e.call e.answers e.told e.end) own.at
    ∙ ap (λ (c : Call). call_entry draft.session draft.id draft.at c e.answers e.told e.end) own.call
    ∙ ap (λ (given : List Answer). call_entry draft.session draft.id draft.at draft.call given e.told e.end) own.given
    ∙ ap (λ (ns : List Notice). call_entry draft.session draft.id draft.at draft.call answers ns e.end) own.told
    ∙ ap (λ (n : End). call_entry draft.session draft.id draft.at draft.call answers draft.told n) (waits ∙ sym draft_waits)

module _ (configs : List CacheConfig) (lives lives' : Lives) (t new : History) (draft draft' : Entry) (answers : List Answer) (pass : Sight) (found : IsOpen lives t draft answers) (waits : draft.end ≡ ends.Waiting) where
  abbrev opened : Entry
  opened = found.here.opened.entry

  is_draft : opened ≡ record draft { answers = answers }
  is_draft = draft_of opened draft answers found.here.own found.here.opened.own found.here.opened.waits waits

  -- the draft stands where the open call's entry was changed
  stands_there : (f : Entry → Entry) → ((e : Entry) → (f e).id ≡ e.id) → new.entries ≡ on_open draft.id f t.entries → draft' ≡ f (record draft { answers = answers }) → IsLegal new → BeginsWith configs new → Sees new lives' pass → draft'.id ≡ draft.id
      → IsSome (at_place lives' draft.id) → (k : Status) → at_place lives draft.id ≡ Some k → EntryIsLast configs draft' pass
  stands_there f keeps written is legal first sees same live k at =
      let there : slice_get (on_open draft.id f t.entries) found.place ≡ Some draft' = changed_there lives t found.here.tells draft.id found.place found.here.opened k at f ∙ ap Some (ap f is_draft ∙ sym is) in
      let last = changed_last lives t found.here.tells draft.id found.place found.here.opened k at f keeps draft' there in
      record { transcript = new; legal = legal; begins = first; before = last.0; last = ap (λ (id : ℕ). entries_of id new.entries) same ∙ ap (entries_of draft.id) written ∙ last.1; lives = lives'; shown = subst (λ (i : ℕ). IsSome (at_place lives' i)) (sym same) live; sees = sees }

  pub resumed_goes_on : (a : Answer) (step : Step) (m : Bool) → draft.answers ≡ answers ++ a ∷ [] → draft' ≡ entry_ended_by (reply_in step) draft → IsLegal new → BeginsWith configs new → (IsReplied step → Sees new lives' pass)
      → lives' ≡ lives_by lives (on_cache draft.id (given_answer a)) (outcome.Step step) → new ≡ recorded draft.session (event.Answer draft.id a) (outcome.Step step) t → outcome.Step step ≡ answer_to lives (event.Answer draft.id a) m → CallGoesOn configs draft step draft' pass
  resumed_goes_on a (Need q) m all ends_so legal first sees after written is =
      let asks : AsksOf opened.call q = resumed_asks lives t found.here.tells draft.id found.place found.here.opened a (Need q) m is in
      (ends_so, subst (λ (c : Call). AsksOf c q) found.here.own.call asks)
  resumed_goes_on a (Done r) m all ends_so legal first sees after written is = (ends_so, at (at_place lives draft.id) refl is)
    where
      at : (k : Option Status) → at_place lives draft.id ≡ k → outcome.Step (Done r) ≡ answer_of k (given_answer a) m → EntryIsLast configs draft' pass
      at None here is = absurd cc
      at (Some k) here is =
          stands_there (λ d. with_outcome (outcome.Step (Done r)) (with_answer a d)) (λ d. refl) (ap (λ (h : History). h.entries) written)
          (ends_so ∙ ap (λ (given : List Answer). record draft { answers = given; end = ends.Replied r }) all) legal first (sees tt) (ap (λ (e : Entry). e.id) ends_so)
          (stays_there lives lives' draft.id (given_answer a) k (outcome.Step (Done r)) here refl after) k here

  -- a call that is given up has told its notices, or they are left
  pub told_or_left : (left : List Notice) → outcome.GivenUp left ≡ answer_to lives (event.GiveUp draft.id) false → (place : ℕ) × (e : Entry) × IsEntryOf t.entries draft.id place e × ((e.told ≡ []) ⊎ (left ≡ [])) → (draft.told ≡ []) ⊎ (left ≡ [])
  told_or_left left is open_entry = at (at_place lives draft.id) refl is
    where
      at : (k : Option Status) → at_place lives draft.id ≡ k → outcome.GivenUp left ≡ answer_of k gives_up false → (draft.told ≡ []) ⊎ (left ≡ [])
      at None here is = absurd cc
      at (Some k) here is =
          let same : open_entry.1 ≡ opened = open_same lives t found.here.tells draft.id found.place found.here.opened k here open_entry.0 open_entry.1 open_entry.2 in
          elim open_entry.3 [
            | inl none ↦ inl (sym found.here.own.told ∙ (ap (λ (e : Entry). e.told) (sym same) ∙ none))
            | inr none ↦ inr none
          ]

  pub given_up_stands : (left : List Notice) → draft.answers ≡ answers → draft' ≡ record draft { told = draft.told ++ left; end = ends.GivenUp } → new ≡ recorded draft.session (event.GiveUp draft.id) (outcome.GivenUp left) t
      → outcome.GivenUp left ≡ answer_to lives (event.GiveUp draft.id) false → lives' ≡ lives_by lives (on_cache draft.id gives_up) (outcome.GivenUp left) → IsLegal new → BeginsWith configs new → Sees new lives' pass → EntryIsLast configs draft' pass
  given_up_stands left all ends_so written is after legal first sees = at (at_place lives draft.id) refl is
    where
      at : (k : Option Status) → at_place lives draft.id ≡ k → outcome.GivenUp left ≡ answer_of k gives_up false → EntryIsLast configs draft' pass
      at None here is = absurd cc
      at (Some k) here is =
          stands_there (with_outcome (outcome.GivenUp left)) (λ d. refl) (ap (λ (h : History). h.entries) written)
          (ends_so ∙ ap (λ (given : List Answer). record draft { answers = given; told = draft.told ++ left; end = ends.GivenUp }) all) legal first sees (ap (λ (e : Entry). e.id) ends_so)
          (stays_there lives lives' draft.id gives_up k (outcome.GivenUp left) here refl after) k here
